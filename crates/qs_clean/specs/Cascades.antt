-- Cascades: grammars run one after another, each on the graph that the one before it left.
use Rattle.std.specs.Prelude.{ℕ, ◌≤◌, ◌<◌, ◌≡◌, List, [], ◌∷◌, length}
use Rattle.qs_pattern.specs.Rules.{Rule}
use Rattle.qs_graph.specs.Graphs.{QGraph}
use Rattle.qs_canon.specs.Rounds.{Stage, Closes, Needs}
use Rattle.qs_clean.specs.Cleaning.{Cleans}

-- What a grammar leaves: a graph, or no arc, each behind a number of firings; or it met the limit.
pub data Left : Type 0 where
  a_graph : (firings : ℕ) (graph : QGraph) → Left
  no_arc : (firings : ℕ) → Left
  over : Left

-- How a cascade ends.
pub data Ending : Type 0 where
  all_done : Ending
  by_limit : Ending

-- The cascade of these grammars from a graph, with the limit L on the firings of each: a grammar that needs more ends
-- it by the limit; one whose cleaned closure has no arc ends it;
-- otherwise the next one goes on with the cleaned closure.
pub data Cascade (L : ℕ) : QGraph → List (List Rule) → List Left → Ending → Type 0 where
  no_more : {G : QGraph} → Cascade L G [] [] all_done
  limit : {G : QGraph} {R : List Rule} {Rs : List (List Rule)} → Needs R G L → Cascade L G (R ∷ Rs) (over ∷ []) by_limit
  empty : {G E : QGraph} {R : List Rule} {Rs : List (List Rule)} {C : Stage} → Closes R G C → length C.done ≤ L
      → Cleans C E → E.arcs ≡ []
      → Cascade L G (R ∷ Rs) (no_arc (length C.done) ∷ []) all_done
  goes_on : {G H : QGraph} {R : List Rule} {Rs : List (List Rule)} {C : Stage} {rest : List Left} {end : Ending}
      → Closes R G C → length C.done ≤ L → Cleans C H → 0 < length H.arcs → Cascade L H Rs rest end
      → Cascade L G (R ∷ Rs) (a_graph (length C.done) H ∷ rest) end
