use Rattle.std.proofs.Common.{ap, sym, subst}
use Rattle.std.specs.Arc.{arc_value}
use Rattle.qs_core.specs.Core.{IsFree}
use Rattle.qs_core.specs.Runs.{Machine, MachineWithRoom}
use Rattle.qs_core.specs.Machines.{StatusTable, machine_from}
use Rattle.qs_core.proofs.state.State.claim.Goals as goal

pub take-requires-clause-free : goal.take-requires-clause-free
take-requires-clause-free c =
    let s = c.self.inside in
    let same = ap (λ (x : MachineWithRoom). x.machine) c.self.view_is in
    subst
    (λ (t : StatusTable). IsFree (machine_from (arc_value s.rules).items s.start_nodes s.start_arcs s.limit s.arcs t s.fired.items s.journal.items s.stop).base
    (machine_from (arc_value s.rules).items s.start_nodes s.start_arcs s.limit s.arcs t s.fired.items s.journal.items s.stop).state c.args.seat)
    (sym c.waiting.ensures.same)
    (subst (λ (m : Machine). IsFree m.base m.state c.args.seat) (sym same) c.requires.free)

pub rest_at_end-requires-clause-free : goal.rest_at_end-requires-clause-free
rest_at_end-requires-clause-free c =
    let s = c.self.inside in
    let same = ap (λ (x : MachineWithRoom). x.machine) c.self.view_is in
    subst
    (λ (t : StatusTable). IsFree (machine_from (arc_value s.rules).items s.start_nodes s.start_arcs s.limit s.arcs t s.fired.items s.journal.items s.stop).base
    (machine_from (arc_value s.rules).items s.start_nodes s.start_arcs s.limit s.arcs t s.fired.items s.journal.items s.stop).state c.args.seat)
    (sym c.waiting.ensures.same)
    (subst (λ (m : Machine). IsFree m.base m.state c.args.seat) (sym same) c.requires.free)
