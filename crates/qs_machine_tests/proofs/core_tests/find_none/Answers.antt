use Rattle.qs_machine_tests.proofs.Claims.{held_found_none}
use Rattle.qs_machine_tests.proofs.core_tests.find_none.Goals as goal

pub returns : goal.returns
returns g c = held_found_none c.args.run.now.state.machine c.reserve_step.new.self.machine c.claim.new.self.machine c.args.run.now.held.items c.args.seat c.claim.result c.in-NotYet.is c.requires c.reserve_step.ensures.same c.claim.ensures
