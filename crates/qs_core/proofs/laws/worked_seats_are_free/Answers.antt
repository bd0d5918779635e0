use Rattle.qs_core.proofs.Staying as staying
use Rattle.qs_core.proofs.laws.worked_seats_are_free.Goals as goal

pub returns-clause-none : goal.returns-clause-none
returns-clause-none c = staying.free_none

pub returns-clause-worked : goal.returns-clause-worked
returns-clause-worked c = λ B S kept i k work claim right all. staying.free_worked B S kept i k work claim right all
