use Rattle.qs_machine_tests.proofs.Claims.{held_took}
use Rattle.qs_machine_tests.proofs.core_tests.take.Goals as goal

pub returns : goal.returns
returns g c = held_took c.args.run.now.state.machine c.reserve_step.new.self.machine c.claim.new.self.machine c.args.run.now.held.items c.args.seat c.in-Took.taken c.claim.result c.in-Took.is c.see_free.ensures.held c.requires c.reserve_step.ensures.same c.claim.ensures
