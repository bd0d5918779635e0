use Rattle.qs_machine_tests.proofs.Claims.{held_told}
use Rattle.qs_machine_tests.proofs.core_tests.claim_behind_limit.Goals as goal

pub returns : goal.returns
returns g c = held_told c.args.run.now.state.machine c.reserve_step.new.self.machine c.claim.new.self.machine c.args.run.now.held.items c.args.seat c.claim.result c.in-Ended-Over.field-0 c.in-Ended-Over.is c.in-Ended-Over.field-0-is c.requires c.reserve_step.ensures.same c.claim.ensures
