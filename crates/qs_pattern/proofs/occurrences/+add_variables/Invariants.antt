use Rattle.qs_pattern.specs.Patterns.{patterns, cells}
use Rattle.qs_pattern.proofs.occurrences.+add_variables.Given as goal

abbrev pub decreases-add_variables : goal.decreases-add_variables
decreases-add_variables l = cells (patterns l.side.now)
