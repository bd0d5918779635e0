use Rattle.qs_canon.proofs.Canonical as canonical
use Rattle.qs_canon.proofs.record_laws.one_round_from_records.Goals as goal

pub returns-clause-begins : goal.returns-clause-begins
returns-clause-begins c = canonical.begins

pub returns-clause-met : goal.returns-clause-met
returns-clause-met c = canonical.meets_by

pub returns-clause-goes_on : goal.returns-clause-goes_on
returns-clause-goes_on c = canonical.goes_on

pub returns-clause-ends : goal.returns-clause-ends
returns-clause-ends c = canonical.ends_by
