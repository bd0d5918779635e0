use Rattle.qs_ruletext.proofs.RulesReadBack.{rule_within, rule_alone, rule_only}
use Rattle.qs_ruletext.proofs.laws.what_is_written_is_read.Goals as goal

pub returns-clause-alone : goal.returns-clause-alone
returns-clause-alone c = rule_alone

pub returns-clause-within : goal.returns-clause-within
returns-clause-within c = rule_within

pub returns-clause-only : goal.returns-clause-only
returns-clause-only c = rule_only
