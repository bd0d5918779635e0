use Rattle.qs_board.proofs.Histories.{one_machine, beginning}
use Rattle.qs_board.proofs.laws.histories_lead_to_one_machine.Goals as goal

pub returns-clause-one : goal.returns-clause-one
returns-clause-one c = one_machine

pub returns-clause-beginnings : goal.returns-clause-beginnings
returns-clause-beginnings c = λ B seen later N n. let (M, m, on) = beginning B seen later N n in (M, m)
