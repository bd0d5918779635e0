use Rattle.qs_check.proofs.Limits as limits
use Rattle.qs_check.proofs.EachRule.{rule_decided}
use Rattle.qs_check.proofs.laws.one_first_cause.Goals as goal

pub returns-clause-one_cause : goal.returns-clause-one_cause
returns-clause-one_cause c = λ rule d e i j a b. (limits.one_cause rule d e i j a b).0

pub returns-clause-one_place : goal.returns-clause-one_place
returns-clause-one_place c = λ rule d e i j a b. (limits.one_cause rule d e i j a b).1

pub returns-clause-none_if_accepted : goal.returns-clause-none_if_accepted
returns-clause-none_if_accepted c = limits.none_if_accepted

pub returns-clause-some : goal.returns-clause-some
returns-clause-some c = λ raw can. rule_decided raw can
