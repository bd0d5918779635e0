use Rattle.qs_levels.proofs.Existence as existence
use Rattle.qs_levels.proofs.laws.one_answer.Goals as goal

pub returns-clause-one : goal.returns-clause-one
returns-clause-one c = λ rules r t a b. existence.one_found rules r t a b

pub returns-clause-some : goal.returns-clause-some
returns-clause-some c = λ rules. existence.something_found rules
