use Rattle.qs_ruletext.proofs.Whole.{rule_whole, rules_whole}
use Rattle.qs_ruletext.proofs.laws.what_is_read_is_whole.Goals as goal

pub returns-clause-rule : goal.returns-clause-rule
returns-clause-rule c = λ names text ts rest r reads. rule_whole reads

pub returns-clause-rules : goal.returns-clause-rules
returns-clause-rules c = λ names text ts rest raws reads. rules_whole names text ts rest raws reads
