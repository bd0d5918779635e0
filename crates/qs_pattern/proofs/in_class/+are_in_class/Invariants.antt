use Rattle.qs_pattern.specs.Patterns.{patterns, cells}
use Rattle.qs_pattern.proofs.in_class.+are_in_class.Given as goal

abbrev pub decreases-are_in_class : goal.decreases-are_in_class
decreases-are_in_class l = cells (patterns l.side.now)
