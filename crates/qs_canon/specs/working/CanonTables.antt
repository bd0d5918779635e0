-- The closure, found from the recorded firings of a graph over which all firings are done, round by round, with no
-- search: what is kept between the rounds, and in the midst of one.
use Rattle.std.specs.Prelude.{ℕ, suc, ◌++◌, ◌≡◌, ◌↔◌, ◌⊎◌, List, [], ◌∷◌, length, Option, Some, None, ltb, leb, ◌+◌}
use Rattle.std.specs.Prelude.{◌-◌, ◌==◌, if◌then◌else◌}
use Rattle.qs_tree.specs.Lists.{◌∈◌, Ascends}
use Rattle.qs_pattern.specs.Rules.{Rule}
use Rattle.qs_graph.specs.Graphs.{QGraph, IsValid}
use Rattle.qs_firing.specs.Firings.{Firing, Fires, Before}
use Rattle.qs_firing.specs.Adding.{built, from_on}
use Rattle.qs_core.specs.Growth.{Grown, AllApart}
use Rattle.qs_canon.specs.Rounds.{Stage, firings, after, Round, Rounds}
use Rattle.qs_canon.specs.working.Same.{SameArc, SameNode, SameFiring}

-- F lists, in ascending order, what the recorded firings are over S that aren't done there: all of whose arcs have
-- their numbers in S.
pub record IsNextOf (R : List Rule) (G : QGraph) (fs : List Firing) (H : QGraph) (S : Stage) (F : List Firing)
    : Type 0 where
  pub ascends : Ascends Before F
  pub recorded : (g : Firing) → g ∈ F
      → (f : Firing) × (f ∈ fs) × SameFiring R G fs (firings S) H S.graph f g
  pub new : (g : Firing) → g ∈ F → g ∈ firings S → ⊥
  pub all : (f g : Firing) → f ∈ fs → SameFiring R G fs (firings S) H S.graph f g → (g ∈ firings S) ⊎ (g ∈ F)

-- What is recorded: H grew from the start G by these firings, each once, and all firings over H are among them.
pub record IsRecorded (R : List Rule) (G : QGraph) (fs : List Firing) (H : QGraph) : Type 0 where
  pub valid : IsValid G
  pub grown : Grown R G fs H
  pub once : AllApart fs
  pub closed : (f : Firing) → Fires R H.arcs f → f ∈ fs

-- The number of each arc, or of each node, that has one.
abbrev pub Table : Type 0
Table = ℕ → Option ℕ

-- At first the start's arcs and nodes have their own numbers.
abbrev pub opening_table : QGraph → Table
opening_table G k = if ltb k (length G.arcs) then Some k else None

abbrev pub opening_nodes : QGraph → Table
opening_nodes G n = if leb n G.nodes then Some n else None

-- The nodes that a firing adds to P.
abbrev pub new_nodes : List Rule → QGraph → Firing → List ℕ
new_nodes R P f = from_on (P.nodes + 1) (length (built R f) - 1)

-- These get these numbers, in order.
abbrev pub numbered : List ℕ → List ℕ → Table → Table
numbered (k ∷ ks) (l ∷ ls) T = numbered ks ls (λ x. if x == k then Some l else T x)
numbered _ _ T = T

-- All of these arcs have numbers, and these are they.
abbrev pub AreNumbered : Table → List ℕ → List ℕ → Type 0
AreNumbered T [] [] = Unit {0}
AreNumbered T (k ∷ ks) (l ∷ ls) = (T k ≡ Some l) × AreNumbered T ks ls
AreNumbered T _ _ = ⊥

-- The table tells which arcs of H have their numbers in K; and which nodes.
abbrev pub IsTable : List Rule → QGraph → List Firing → QGraph → List Firing → QGraph → Table → Type 0
IsTable R G fs H gs K T = (k l : ℕ) → (T k ≡ Some l) ↔ SameArc R G fs gs H K k l

abbrev pub IsNodeTable : List Rule → QGraph → List Firing → QGraph → List Firing → QGraph → Table → Type 0
IsNodeTable R G fs H gs K N = (n m : ℕ) → (N n ≡ Some m) ↔ SameNode R G fs gs H K n m

-- The firing with its path in these numbers.
abbrev pub in_numbers : Firing → List ℕ → Firing
in_numbers f ls = record { rule = f.rule; path = ls; values = f.values }

-- F lists, in ascending order, the recorded firings all of whose arcs have numbers, in these numbers, but for those
-- that are done.
pub record IsNextBy (T : Table) (fs : List Firing) (S : Stage) (F : List Firing) : Type 0 where
  pub ascends : Ascends Before F
  pub recorded : (g : Firing) → g ∈ F
      → (f : Firing) × (f ∈ fs) × (ls : List ℕ) × AreNumbered T f.path ls × (g ≡ in_numbers f ls)
  pub new : (g : Firing) → g ∈ F → g ∈ firings S → ⊥
  pub all : (f : Firing) (ls : List ℕ) → f ∈ fs → AreNumbered T f.path ls
      → (in_numbers f ls ∈ firings S) ⊎ (in_numbers f ls ∈ F)

-- In the midst of round n + 1: of its firings those of E are done and those of F are left, with the numbers so far in
-- the tables.
pub record IsUnderWay (R : List Rule) (G : QGraph) (fs : List Firing) (H : QGraph) (n : ℕ) (S : Stage)
    (E F : List Firing) (T N : Table) : Type 0 where
  pub reached : Rounds R G n S
  pub round : Round R S.graph (firings S) (E ++ F)
  pub table : IsTable R G fs H (firings (after R (suc n) S E)) (after R (suc n) S E).graph T
  pub nodes : IsNodeTable R G fs H (firings (after R (suc n) S E)) (after R (suc n) S E).graph N
  pub recorded : (g : Firing) → g ∈ F
      → (f : Firing) × (f ∈ fs) × (ls : List ℕ) × AreNumbered T f.path ls × (g ≡ in_numbers f ls)
