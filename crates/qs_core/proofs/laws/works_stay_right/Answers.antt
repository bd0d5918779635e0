use Rattle.qs_core.proofs.Staying as staying
use Rattle.qs_core.proofs.laws.works_stay_right.Goals as goal

pub returns-clause-arcs : goal.returns-clause-arcs
returns-clause-arcs c = λ B S v T made. staying.arcs_more B S v T made

pub returns-clause-right : goal.returns-clause-right
returns-clause-right c = λ B S v T made work low right. staying.right_stays B S v T made work low right
