use Rattle.qs_ruletext.proofs.Telling.{rule_told, rule_in}
use Rattle.qs_ruletext.proofs.laws.what_texts_tell.Goals as goal

pub returns-clause-each : goal.returns-clause-each
returns-clause-each c = rule_told

pub returns-clause-read : goal.returns-clause-read
returns-clause-read c = λ names text ts rest r all reads. rule_in text all reads
