-- What is known while readings are listed.
use Rattle.std.specs.Prelude.{ℕ, ◌≡◌, ◌⊎◌, List, ◌++◌}
use Rattle.qs_graph.specs.Graphs.{QGraph, Leads, IsExit}
use Rattle.qs_phrase.specs.Readings.{IsReading, IsBefore}

-- These arcs lead from the node to an exit. There may be none of them.
pub record IsWay (G : QGraph) (a : ℕ) (ks : List ℕ) : Type 0 where
  pub exit : ℕ
  pub is_exit : IsExit G exit
  pub leads : Leads G.arcs a ks exit

-- The one list is the other, or comes before it.
abbrev pub IsUpTo : List ℕ → List ℕ → Type 0
IsUpTo ks js = (ks ≡ js) ⊎ IsBefore ks js

-- The path goes on by the least way from the node.
pub record GoesOn (G : QGraph) (from : ℕ) (old new : List ℕ) : Type 0 where
  pub behind : List ℕ
  pub are : new ≡ old ++ behind
  pub way : IsWay G from behind
  pub least : (js : List ℕ) → IsWay G from js → IsUpTo behind js

-- A reading comes behind another, and none lies between them.
pub record IsNext (G : QGraph) (old new : List ℕ) : Type 0 where
  pub is_reading : IsReading G new
  pub before : IsBefore old new
  pub least : (path : List ℕ) → IsReading G path → IsBefore old path → IsUpTo new path

-- No reading comes behind this one.
abbrev pub IsLast : QGraph → List ℕ → Type 0
IsLast G old = (path : List ℕ) → IsReading G path → IsUpTo path old
