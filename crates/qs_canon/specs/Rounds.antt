-- Rounds, the closure, and the need of more firings than a limit. (That rules are applied until nothing more can be
-- added is Colmerauer's; the rounds and their order, which fix every number, are this project's own.)
use Rattle.std.specs.Prelude.{ℕ, Bool, zero, suc, ◌+◌, ◌<◌, ◌≤◌, ◌≡◌, ◌⊎◌, List, [], ◌∷◌, ◌++◌, length, map}
use Rattle.qs_tree.specs.Lists.{◌∈◌, Ascends}
use Rattle.qs_pattern.specs.Rules.{Rule}
use Rattle.qs_graph.specs.Graphs.{QGraph}
use Rattle.qs_firing.specs.Firings.{Firing, Fires, Before}
use Rattle.qs_firing.specs.Adding.{adds, first_arc, meets}

-- A round over a graph, where some firings are done: the list, strictly ascending by key, of exactly the firings over
-- the graph that aren't done.
pub record Round (R : List Rule) (G : QGraph) (done : List Firing) (F : List Firing) : Type 0 where
  pub ascends : Ascends Before F
  pub fires : (f : Firing) → f ∈ F → Fires R G.arcs f
  pub new : (f : Firing) → f ∈ F → f ∈ done → ⊥
  pub all : (f : Firing) → Fires R G.arcs f → (f ∈ done) ⊎ (f ∈ F)

-- Each graph has a round, whatever is done.
abbrev pub HasRounds : List Rule → Type 0
HasRounds R = (G : QGraph) (done : List Firing) → (F : List Firing) × Round R G done F

-- A firing that is done, with the number of the first arc of its result, the number of its round, and whether it met
-- that arc.
pub record Done : Type 0 where
  pub firing : Firing
  pub first : ℕ
  pub round : ℕ
  pub met : Bool

-- A graph and what was done to reach it.
pub record Stage : Type 0 where
  pub graph : QGraph
  pub done : List Done

abbrev pub firings : Stage → List Firing
firings S = map (λ d. d.firing) S.done

-- f is done in round n.
abbrev pub after_one : List Rule → ℕ → Stage → Firing → Stage
after_one R n S f = record {
  graph = adds R S.graph f;
  done = S.done ++ record { firing = f; first = first_arc R S.graph f; round = n; met = meets R S.graph f } ∷ [];
}

-- The firings of a list are done in order in round n.
abbrev pub after : List Rule → ℕ → Stage → List Firing → Stage
after R n S [] = S
after R n S (f ∷ fs) = after R n (after_one R n S f) fs

abbrev pub start : QGraph → Stage
start G = record { graph = G; done = [] }

-- S is reached from the graph G in n rounds: in none it is G with nothing done; a further round does all firings of the
-- round over the graph reached so far.
abbrev pub Rounds : List Rule → QGraph → ℕ → Stage → Type 0
Rounds R G zero S = S ≡ start G
Rounds R G (suc n) S =
    (B : Stage) × (F : List Firing) × Rounds R G n B × Round R B.graph (firings B) F × (S ≡ after R (suc n) B F)

-- C is the closure: it is reached in some rounds, and the next round is empty.
pub record Closes (R : List Rule) (G : QGraph) (C : Stage) : Type 0 where
  pub rounds : ℕ
  pub reached : Rounds R G rounds C
  pub closed : Round R C.graph (firings C) []

-- The rules close with at most L firings.
pub record ClosesWithin (R : List Rule) (G : QGraph) (L : ℕ) : Type 0 where
  pub closure : Stage
  pub closes : Closes R G closure
  pub few : length closure.done ≤ L

-- The rules need more than L firings: in at most L + 1 rounds more than L are done.
pub record Needs (R : List Rule) (G : QGraph) (L : ℕ) : Type 0 where
  pub rounds : ℕ
  pub within : rounds ≤ L + 1
  pub stage : Stage
  pub reached : Rounds R G rounds stage
  pub more : L < length stage.done
