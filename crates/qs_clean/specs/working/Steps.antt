-- What the steps of cleaning make of arcs and of marks.
use Rattle.std.specs.Prelude.{ℕ, ◌+◌, ◌≡◌, ◌↔◌, Bool, true, false, ◌&&◌, not, if◌then◌else◌, List, [], ◌∷◌, ◌++◌}
use Rattle.std.specs.Prelude.{length, map, slice_index, slice_index_or}
use Rattle.qs_tree.specs.Lists.{◌∈◌}
use Rattle.qs_graph.specs.Graphs.{Arc}
use Rattle.qs_canon.specs.Rounds.{Stage, Done}
use Rattle.qs_clean.specs.declared.links.Link.{Link}
use Rattle.qs_clean.specs.Marks.{IsMarked}
use Rattle.qs_clean.specs.working.Links.{Reaches, turned}
use Rattle.qs_clean.specs.Cleaning.{IsDenoted}

-- The path of one of these firings uses the arc of this number.
pub record IsUsed (done : List Done) (k : ℕ) : Type 0 where
  pub by : Done
  pub is_done : by ∈ done
  pub used : k ∈ by.firing.path

-- What a function makes of the first members of two lists, of the second ones, and so on, in one list.
abbrev pub each_pair : {X Y Z : Type 0} → (X → Y → List Z) → List X → List Y → List Z
each_pair make [] ys = []
each_pair make (x ∷ xs) [] = []
each_pair make (x ∷ xs) (y ∷ ys) = make x y ++ each_pair make xs ys

-- An arc links its ends, unless it is denoted.
abbrev pub free_link : Arc → Bool → List Link
free_link arc denoted = if denoted then [] else record { from = arc.from; to = arc.to } ∷ []

-- The marks of a stage between two nodes: the arcs that are denoted, the nodes that undenoted arcs reach from the
-- entry, and those from which they reach the exit.
pub record AreMarks (S : Stage) (entry exit : ℕ) (denoted from_entry to_exit : List Bool) : Type 0 where
  pub denoted_len : length denoted ≡ length S.graph.arcs
  pub from_entry_len : length from_entry ≡ S.graph.nodes + 1
  pub to_exit_len : length to_exit ≡ S.graph.nodes + 1
  pub denoted_are : (k : ℕ) → IsMarked denoted k ↔ IsDenoted S k
  pub from_entry_are : (n : ℕ) → IsMarked from_entry n ↔ Reaches (each_pair free_link S.graph.arcs denoted) entry n
  pub to_exit_are : (n : ℕ)
      → IsMarked to_exit n ↔ Reaches (map turned (each_pair free_link S.graph.arcs denoted)) exit n

-- An arc is kept where it is not denoted, its start is reached from the entry, and the exit is reached from its end.
abbrev pub keeps : List Bool → List Bool → Arc → Bool → Bool
keeps from_entry to_exit arc denoted =
    not denoted && (slice_index_or from_entry arc.from false && slice_index_or to_exit arc.to false)

abbrev pub keeps_mark : List Bool → List Bool → Arc → Bool → List Bool
keeps_mark from_entry to_exit arc denoted = keeps from_entry to_exit arc denoted ∷ []

-- Both of two marks.
abbrev pub both : Bool → Bool → List Bool
both a b = (a && b) ∷ []

-- How many marks there are, and the number of each marked place among them, counted on from c. A place without a mark
-- has the number 0.
abbrev pub marked : List Bool → ℕ
marked [] = 0
marked (true ∷ marks) = marked marks + 1
marked (false ∷ marks) = marked marks

abbrev pub numbering : ℕ → List Bool → List ℕ
numbering c [] = []
numbering c (true ∷ marks) = (c + 1) ∷ numbering (c + 1) marks
numbering c (false ∷ marks) = 0 ∷ numbering c marks

-- An arc that is kept, with the new numbers of its ends.
abbrev pub numbered_arc : List ℕ → Arc → Arc
numbered_arc numbers arc =
    record { from = slice_index numbers arc.from; to = slice_index numbers arc.to; tree = arc.tree }

abbrev pub if_kept : List ℕ → Arc → Bool → List Arc
if_kept numbers arc kept = if kept then numbered_arc numbers arc ∷ [] else []
