use Rattle.qs_machine_tests.specs.working.Claims.{AreHeld}
use Rattle.qs_machine_tests.proofs.canon_tests.found.Given as goal

abbrev pub invariant-loop-arc : goal.invariant-loop-arc
invariant-loop-arc g l = AreHeld l.run.held.items l.run.state.machine.state

abbrev pub invariant-loop-first : goal.invariant-loop-first
invariant-loop-first g l = AreHeld l.run.held.items l.run.state.machine.state
