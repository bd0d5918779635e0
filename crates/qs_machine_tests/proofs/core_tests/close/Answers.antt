use Rattle.qs_machine_tests.proofs.Claims.{held_closed}
use Rattle.qs_machine_tests.proofs.core_tests.close.Goals as goal

pub returns : goal.returns
returns g c = held_closed c.args.run.now.state.machine c.reserve_step.new.self.machine c.claim.new.self.machine c.args.run.now.held.items c.args.seat c.claim.result c.in-Ended-Closed.field-0 c.in-Ended-Closed.is c.in-Ended-Closed.field-0-is c.requires c.reserve_step.ensures.same c.claim.ensures
