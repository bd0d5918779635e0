use Rattle.qs_pattern.proofs.Covering.{right_covered, given_covered}
use Rattle.qs_pattern.proofs.laws.a_match_covers_its_rule.Goals as goal

pub returns-clause-right : goal.returns-clause-right
returns-clause-right c = λ rule trees s ok m. right_covered rule ok trees s m

pub returns-clause-condition : goal.returns-clause-condition
returns-clause-condition c = λ rule trees s k ok m e. given_covered rule ok trees s m k e
