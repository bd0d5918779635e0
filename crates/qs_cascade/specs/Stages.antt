-- How a grammar ends.
use Rattle.std.specs.Prelude.{ℕ, ◌≡◌, ◌≤◌, ◌<◌, ◌+◌, ◌*◌, List, [], length, Option, Some, None}
use Rattle.qs_tree.specs.Lists.{◌∈◌}
use Rattle.qs_tree.specs.Text.{IsNamed}
use Rattle.qs_pattern.specs.Limits.{most_patterns}
use Rattle.qs_pattern.specs.Rules.{Rule}
use Rattle.qs_pattern.specs.Named.{ArePatternsNamed}
use Rattle.qs_graph.specs.Graphs.{Arc, QGraph}
use Rattle.qs_canon.specs.Rounds.{Stage, Closes, Needs}
use Rattle.qs_canon.specs.Closures.{ClosureOf}
use Rattle.qs_clean.specs.Cleaning.{Cleans}
use Rattle.qs_cascade.specs.declared.stages.StageEnd.{StageEnd}
use Rattle.qs_cascade.specs.declared.stages.StageEnd.TheVariants as end

-- The closure, with at most L firings, and what cleaning leaves of it.
pub record LeavesGraph (R : List Rule) (G : QGraph) (L : ℕ) (firings : ℕ) (H : QGraph) : Type 0 where
  pub closure : Stage
  pub closes : Closes R G closure
  pub few : length closure.done ≤ L
  pub firings_are : firings ≡ length closure.done
  pub cleans : Cleans closure H

-- A grammar leaves the cleaned closure where it has an arc, or nothing where it has none; or its rules need more than L
-- firings.
abbrev pub IsStageEnd : List Rule → QGraph → ℕ → StageEnd → Type 0
IsStageEnd R G L (end.Left graph firings) = LeavesGraph R G L firings graph × (0 < length graph.arcs)
IsStageEnd R G L (end.Empty firings) = (E : QGraph) × LeavesGraph R G L firings E × (E.arcs ≡ [])
IsStageEnd R G L end.Over = Needs R G L

-- What a grammar leaves by its closure, where it has one: the cleaned closure, or nothing where that has no arc, each
-- with the number of firings of the closure.
abbrev pub IsEndBehind : Option ClosureOf → StageEnd → Type 0
IsEndBehind None (end.Left graph firings) = ⊥
IsEndBehind None (end.Empty firings) = ⊥
IsEndBehind None end.Over = Unit {0}
IsEndBehind (Some c) (end.Left graph firings) =
    Cleans c.stage graph × (0 < length graph.arcs) × (firings ≡ length c.stage.done)
IsEndBehind (Some c) (end.Empty firings) =
    (E : QGraph) × Cleans c.stage E × (E.arcs ≡ []) × (firings ≡ length c.stage.done)
IsEndBehind (Some c) end.Over = ⊥

-- A graph that is left has, for each of L firings, at most `most_patterns` arcs and nodes more than G.
abbrev pub GrowsWithin : QGraph → ℕ → StageEnd → Type 0
GrowsWithin G L (end.Left graph firings) =
    (length graph.arcs ≤ length G.arcs + most_patterns * L) × (graph.nodes ≤ G.nodes + most_patterns * L)
GrowsWithin G L (end.Empty firings) = Unit {0}
GrowsWithin G L end.Over = Unit {0}

-- Each label in a graph that is left is one of the first n.
abbrev pub IsEndNamed : ℕ → StageEnd → Type 0
IsEndNamed n (end.Left graph firings) = (arc : Arc) → arc ∈ graph.arcs → IsNamed n arc.tree
IsEndNamed n (end.Empty firings) = Unit {0}
IsEndNamed n end.Over = Unit {0}

-- The end has no labels but those of the graph and of the rules' right sides: where all of these are among the first n,
-- so are those in a graph that is left.
abbrev pub MakesNoLabels : List Rule → QGraph → StageEnd → Type 0
MakesNoLabels R G e =
    (n : ℕ) → ((rule : Rule) → rule ∈ R → ArePatternsNamed n rule.right)
    → ((arc : Arc) → arc ∈ G.arcs → IsNamed n arc.tree) → IsEndNamed n e

-- What is answered where it is asked what these rules leave of G with at most L firings.
pub record IsAnswerOfStage (R : List Rule) (G : QGraph) (L : ℕ) (e : StageEnd) : Type 0 where
  pub end : IsStageEnd R G L e
  pub grows : GrowsWithin G L e
  pub labels : MakesNoLabels R G e
