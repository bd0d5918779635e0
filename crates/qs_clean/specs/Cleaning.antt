-- Cleaning. (This project's exact reading of Colmerauer's second step. The definition speaks of paths; the code marks
-- nodes from both ends.)
use Rattle.std.specs.Prelude.{ℕ, ◌+◌, ◌<◌, ◌≤◌, ◌≡◌, ◌↔◌, ◌⊎◌, ◌==◌, if◌then◌else◌, List, [], ◌∷◌, length, map, Option}
use Rattle.std.specs.Prelude.{Some, None}
use Rattle.qs_tree.specs.Lists.{◌∈◌, Ascends}
use Rattle.qs_pattern.specs.Rules.{Rule, IsAccepted}
use Rattle.qs_graph.specs.Graphs.{Arc, QGraph, arcs_at, IsPath, IsEntry, IsExit, IsValid}
use Rattle.qs_firing.specs.Firings.{Firing}
use Rattle.qs_canon.specs.Rounds.{Stage, firings}
use Rattle.qs_canon.specs.Closures.{ClosureOf, IsClosure}

-- An arc is denoted where it is in the path of a done firing.
pub record IsDenoted (S : Stage) (k : ℕ) : Type 0 where
  pub by : Firing
  pub done : by ∈ firings S
  pub used : k ∈ by.path

-- An arc stays where it is on a path of undenoted arcs from entry to exit.
pub record Stays (S : Stage) (k : ℕ) : Type 0 where
  pub entry : ℕ
  pub exit : ℕ
  pub path : List ℕ
  pub is_entry : IsEntry S.graph entry
  pub is_exit : IsExit S.graph exit
  pub leads : IsPath S.graph.arcs entry path exit
  pub undenoted : (j : ℕ) → j ∈ path → IsDenoted S j → ⊥
  pub on : k ∈ path

-- n is an end of one of these arcs.
abbrev pub IsEndOf : List Arc → ℕ → Type 0
IsEndOf arcs n = (arc : Arc) × (arc ∈ arcs) × ((n ≡ arc.from) ⊎ (n ≡ arc.to))

-- The place of n in a list of nodes, counted from i.
abbrev pub number_in : ℕ → List ℕ → ℕ → ℕ
number_in i [] n = 0
number_in i (m ∷ ms) n = if m == n then i else number_in (i + 1) ms n

abbrev pub renumbered : List ℕ → Arc → Arc
renumbered nodes arc = record { from = number_in 1 nodes arc.from; to = number_in 1 nodes arc.to; tree = arc.tree }

-- G is what cleaning leaves: in order, the arcs that stay, with their nodes numbered from 1 in ascending order.
pub record Cleans (S : Stage) (G : QGraph) : Type 0 where
  pub kept : List ℕ
  pub kept_ascend : Ascends ◌<◌ kept
  pub kept_are : (k : ℕ) → k ∈ kept ↔ Stays S k
  pub left : List ℕ
  pub left_ascend : Ascends ◌<◌ left
  pub left_are : (n : ℕ) → n ∈ left ↔ IsEndOf (arcs_at S.graph.arcs kept) n
  pub nodes : G.nodes ≡ length left
  pub arcs : G.arcs ≡ map (renumbered left) (arcs_at S.graph.arcs kept)

-- What is left of a stage: the graph that cleaning leaves, where it has an arc, and None where it has none.
abbrev pub IsLeft : Stage → Option QGraph → Type 0
IsLeft S None = (E : QGraph) × Cleans S E × (E.arcs ≡ [])
IsLeft S (Some G) = Cleans S G × (0 < length G.arcs)

-- c is a closure over a valid graph: some accepted rules close with c from some valid graph, and the numbers of the
-- arcs of both fit the program's.
pub record IsClosureOfValid (c : ClosureOf) : Type 0 where
  pub rules : List Rule
  pub accepted : (rule : Rule) → rule ∈ rules → IsAccepted rule
  pub start : QGraph
  pub valid : IsValid start
  pub start_few : length start.arcs < 4294967295
  pub closure : IsClosure rules start c
  pub few : length c.stage.graph.arcs ≤ 4294967295
