-- What becomes of rules and a graph where workers do all firings, up to a limit. (This project.)
use Rattle.std.specs.Prelude.{ℕ, ◌≡◌, ◌⊎◌, List}
use Rattle.qs_tree.specs.Lists.{◌∈◌}
use Rattle.qs_pattern.specs.Rules.{Rule, IsAccepted}
use Rattle.qs_graph.specs.Graphs.{QGraph, IsValid}
use Rattle.qs_core.specs.declared.answers.End.TheVariants as end
use Rattle.qs_core.specs.Core.{IsClosed}
use Rattle.qs_core.specs.Runs.{Machine}
use Rattle.qs_core.specs.Answers.{IsStopped}
use Rattle.qs_canon.specs.Rounds.{Needs}

-- The machine M was opened with these rules, which are accepted ones, this graph, which is valid, this limit and so
-- many seats, and its run has ended. It has ended closed, and then the rules don't need more firings than the limit; or
-- it was stopped because more are needed, and then they do.
pub record IsSaturated (R : List Rule) (G : QGraph) (L seats : ℕ) (M : Machine) : Type 0 where
  pub base : M.base ≡ record { rules = R; start = G; limit = L; seats = seats }
  pub accepted : (rule : Rule) → rule ∈ R → IsAccepted rule
  pub valid : IsValid G
  pub ended : IsClosed M.state ⊎ IsStopped M.state end.Over
  pub over : IsStopped M.state end.Over → Needs R G L
  pub closed : IsClosed M.state → Needs R G L → ⊥
