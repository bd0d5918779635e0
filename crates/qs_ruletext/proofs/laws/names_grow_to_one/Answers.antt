use Rattle.qs_reader.proofs.Naming.{one_growth, grow_distinct, grow_on, grow_apart}
use Rattle.qs_ruletext.proofs.KnownTokens.{names_grow}
use Rattle.qs_ruletext.proofs.laws.names_grow_to_one.Goals as goal

pub returns-clause-one : goal.returns-clause-one
returns-clause-one c = one_growth

pub returns-clause-distinct : goal.returns-clause-distinct
returns-clause-distinct c = grow_distinct

pub returns-clause-together : goal.returns-clause-together
returns-clause-together c = grow_on

pub returns-clause-apart : goal.returns-clause-apart
returns-clause-apart c = grow_apart

pub returns-clause-some : goal.returns-clause-some
returns-clause-some c = names_grow
