-- The readings of a graph: what a sentence can be read as, when its grammars have been applied. (This project.)
use Rattle.std.specs.Prelude.{ℕ, ◌≡◌, ◌≤◌, ◌⊎◌, List, length}
use Rattle.std.specs.Ordering.{nat_cmp}
use Rattle.std.specs.Cmp.Lexicographic.{slice_cmp}
use Rattle.std.specs.declared.cmp.Ordering.TheVariants.{Less}
use Rattle.qs_tree.specs.Lists.{◌∈◌, Ascends}
use Rattle.qs_graph.specs.Graphs.{QGraph, IsPath, IsEntry, IsExit}

-- A reading is a path from the entry to the exit, by the numbers of its arcs.
pub record IsReading (G : QGraph) (path : List ℕ) : Type 0 where
  pub entry : ℕ
  pub exit : ℕ
  pub is_entry : IsEntry G entry
  pub is_exit : IsExit G exit
  pub is_path : IsPath G.arcs entry path exit

-- One list of arc numbers comes before another in dictionary order.
abbrev pub IsBefore : List ℕ → List ℕ → Type 0
IsBefore path other = slice_cmp nat_cmp path other ≡ Less

-- These are the first r readings: they are at most r, in strictly ascending order; each is a reading; each reading that
-- isn't among them comes behind all of them; and they are r, or all readings.
pub record AreFirst (G : QGraph) (r : ℕ) (paths : List (List ℕ)) : Type 0 where
  pub ascends : Ascends IsBefore paths
  pub are_readings : (path : List ℕ) → path ∈ paths → IsReading G path
  pub others_behind : (other : List ℕ) → IsReading G other → (other ∈ paths → ⊥)
      → (path : List ℕ) → path ∈ paths → IsBefore path other
  pub few : length paths ≤ r
  pub so_many : (length paths ≡ r) ⊎ ((path : List ℕ) → IsReading G path → path ∈ paths)

-- There is a reading that isn't one of these.
pub record HasFurther (G : QGraph) (paths : List (List ℕ)) : Type 0 where
  pub path : List ℕ
  pub is_reading : IsReading G path
  pub further : path ∈ paths → ⊥
