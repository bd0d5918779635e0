use Rattle.qs_ruletext.proofs.OneRules as one
use Rattle.qs_ruletext.proofs.laws.one_reading.Goals as goal

pub returns-clause-rule : goal.returns-clause-rule
returns-clause-rule c = λ names text ts rest end r s distinct reads also. one.one_rule names text distinct reads also

pub returns-clause-rules : goal.returns-clause-rules
returns-clause-rules c = λ names text ts rest end raws others distinct. one.one_rules names text distinct raws others ts rest end

pub returns-clause-place : goal.returns-clause-place
returns-clause-place c = one.no_rule_from
