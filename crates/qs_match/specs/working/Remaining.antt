-- The tasks that the search has left, as lists of patterns and of trees. No public clause cites this.
use Rattle.std.specs.Prelude.{[], ◌∷◌}
use Rattle.qs_tree.specs.Cells.{trees_of}
use Rattle.qs_pattern.specs.Patterns.{patterns}
use Rattle.qs_match.specs.declared.remaining.Remaining.{Remaining}
use Rattle.qs_match.specs.declared.remaining.Remaining.TheOpen.{Remaining-F}
use Rattle.qs_match.specs.declared.remaining.Remaining.TheFolds.{fold-Remaining}
use Rattle.qs_match.specs.working.Tasks.{Tasks}

-- The next task comes first. (One level, in which what remains behind it is seen as tasks already.)
abbrev pub tasks_step : Remaining-F Tasks → Tasks
tasks_step Remaining-F.Nothing = []
tasks_step (Remaining-F.Then side trees remaining) = (patterns side.now, trees_of trees.cells.now) ∷ remaining.now

abbrev pub tasks_of : Remaining → Tasks
tasks_of = fold-Remaining Tasks tasks_step
