use Rattle.qs_machine_tests.proofs.Claims.{held_halted}
use Rattle.qs_machine_tests.proofs.core_tests.halt.Goals as goal

pub returns : goal.returns
returns g c = held_halted c.args.run.now.state.machine c.halt.new.self.machine c.args.run.now.held.items c.args.seat c.halt.ensures c.requires
