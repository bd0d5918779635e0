use Rattle.std.proofs.Common.{ap, arith}
use Rattle.std.specs.Arc.{arc_value}
use Rattle.qs_core.specs.Runs.{MachineWithRoom}
use Rattle.qs_core.specs.Machines.{machine_from}
use Rattle.qs_core.proofs.Stopping.{over_sound, over_answers}
use Rattle.qs_core.proofs.state.State.publish.Goals as goal

pub invariant_of-self : goal.invariant_of-self
invariant_of-self c =
    let s = c.self.inside in
    let M = machine_from (arc_value s.rules).items s.start_nodes s.start_arcs s.limit s.arcs s.statuses s.fired.items s.journal.items s.stop in
    let same = ap (λ (x : MachineWithRoom). x.machine) c.self.view_is in
    over_sound M c.args.self.now.machine s.entry s.exit s.start_arcs s.unique c.args.seat c.args.k c.args.work.now same c.self.invariant c.in_default.is c.requires.claim c.requires.more c.requires.right
    (omega (arith, c.if-len-self.true, c.len.ensures, s.fired.ok.0))

pub returns-then-len-self-clause-answer : goal.returns-then-len-self-clause-answer
returns-then-len-self-clause-answer c =
    let s = c.self.inside in
    let M = machine_from (arc_value s.rules).items s.start_nodes s.start_arcs s.limit s.arcs s.statuses s.fired.items s.journal.items s.stop in
    let same = ap (λ (x : MachineWithRoom). x.machine) c.self.view_is in
    over_answers M c.args.self.now.machine s.entry s.exit s.start_arcs s.unique c.args.seat c.args.k c.args.work.now same c.self.invariant c.in_default.is c.requires.claim c.requires.more c.requires.right
    (omega (arith, c.if-len-self.true, c.len.ensures, s.fired.ok.0))
