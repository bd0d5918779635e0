use Rattle.qs_pattern.specs.Patterns.{patterns, cells}
use Rattle.qs_match.proofs.fitting.+can_stand_for_all.Given as goal

abbrev pub decreases-can_stand_for_all : goal.decreases-can_stand_for_all
decreases-can_stand_for_all l = cells (patterns l.side.now)
