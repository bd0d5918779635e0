-- How the rounds of a grammar end.
use Rattle.std.specs.Prelude.{ℕ, ◌≤◌, ◌+◌, ◌*◌, List, length, Option, Some, None, IfSome}
use Rattle.qs_tree.specs.Lists.{◌∈◌}
use Rattle.qs_tree.specs.Text.{IsNamed}
use Rattle.qs_pattern.specs.Limits.{most_patterns}
use Rattle.qs_pattern.specs.Rules.{Rule}
use Rattle.qs_pattern.specs.Named.{ArePatternsNamed}
use Rattle.qs_graph.specs.Graphs.{Arc, QGraph}
use Rattle.qs_canon.specs.Rounds.{Needs}
use Rattle.qs_canon.specs.Closures.{ClosureOf, IsClosure}
use Rattle.qs_clean.specs.Cleaning.{IsClosureOfValid}

-- The rules close from G with at most L firings, and c is their closure; or they need more than L.
abbrev pub IsClosureEnd : List Rule → QGraph → ℕ → Option ClosureOf → Type 0
IsClosureEnd R G L None = Needs R G L
IsClosureEnd R G L (Some c) = IsClosure R G c × (length c.stage.done ≤ L)

-- A closure has, for each of L firings, at most `most_patterns` arcs and nodes more than G.
abbrev pub HasGrownWithin : QGraph → ℕ → ClosureOf → Type 0
HasGrownWithin G L c =
    (length c.stage.graph.arcs ≤ length G.arcs + most_patterns * L)
    × (c.stage.graph.nodes ≤ G.nodes + most_patterns * L)

-- A closure has no labels but those of G and of the rules' right sides: where all of these are among the first n, so
-- are those on its arcs.
abbrev pub HasNoNewLabels : List Rule → QGraph → ClosureOf → Type 0
HasNoNewLabels R G c =
    (n : ℕ) → ((rule : Rule) → rule ∈ R → ArePatternsNamed n rule.right)
    → ((arc : Arc) → arc ∈ G.arcs → IsNamed n arc.tree)
    → (arc : Arc) → arc ∈ c.stage.graph.arcs → IsNamed n arc.tree

-- What is answered where the closure of these rules from G with at most L firings is asked for: the closure where there
-- is one, which is one over a valid graph.
pub record IsAnswerOfClosure (R : List Rule) (G : QGraph) (L : ℕ) (closure : Option ClosureOf) : Type 0 where
  pub end : IsClosureEnd R G L closure
  pub valid : IfSome closure IsClosureOfValid
  pub grows : IfSome closure (HasGrownWithin G L)
  pub labels : IfSome closure (HasNoNewLabels R G)
