use Rattle.qs_firing.proofs.Merging as merging
use Rattle.qs_firing.proofs.laws.what_is_added.Goals as goal

pub returns-clause-met : goal.returns-clause-met
returns-clause-met c = merging.is_met

pub returns-clause-not_met : goal.returns-clause-not_met
returns-clause-not_met c = merging.is_not_met

pub returns-clause-first : goal.returns-clause-first
returns-clause-first c = merging.result_from_first
