use Rattle.std.proofs.Common.{◌≡◌, ◌<◌, ◌∙◌, refl, ap, sym, subst, slice_get, set, None}
use Rattle.std.specs.Arc.{arc_value}
use Rattle.qs_core.specs.declared.step.Step.TheVariants as step
use Rattle.qs_core.specs.declared.step.Status.TheVariants as status
use Rattle.qs_core.specs.Core.{IsFree, after_claim}
use Rattle.qs_core.specs.Runs.{Machine, MachineWithRoom, with_step, MayClaim}
use Rattle.qs_core.specs.Machines.{StatusTable, machine_from, IsSound}
use Rattle.qs_core.specs.working.Tables.{IsClaimOf}
use Rattle.qs_core.proofs.Machines.{sound_step, still_waits, none_claims}
use Rattle.qs_core.proofs.state.State.take.Goals as goal

pub claim-requires-clause-waits : goal.claim-requires-clause-waits
claim-requires-clause-waits c =
    let list = ap (λ (x : MachineWithRoom). x.machine.state.status) c.self.view_is in
    ap (λ (t : StatusTable). slice_get t.list c.args.arc) c.rest.ensures.list
    ∙ still_waits c.args.seat c.self.inside.statuses.list c.args.arc (ap (λ xs. slice_get xs c.args.arc) list ∙ c.requires.waits)

pub claim-requires-clause-free : goal.claim-requires-clause-free
claim-requires-clause-free c =
    subst (λ (t : StatusTable). IsClaimOf t.list c.args.seat None) (sym c.rest.ensures.list) (none_claims c.args.seat c.self.inside.statuses.list)

pub invariant_of-self : goal.invariant_of-self
invariant_of-self c =
    let s = c.self.inside in
    let M = machine_from (arc_value s.rules).items s.start_nodes s.start_arcs s.limit s.arcs s.statuses s.fired.items s.journal.items s.stop in
    let same = ap (λ (x : MachineWithRoom). x.machine) c.self.view_is in
    let going = ap (λ (m : Machine). m.state.stop) same ∙ c.requires.going in
    let may : MayClaim M.base M.state c.args.seat c.args.arc = record {
      going = going;
      seat = subst (λ (m : Machine). c.args.seat < m.base.seats) (sym same) c.requires.seat;
      waits = ap (λ (m : Machine). slice_get m.state.status c.args.arc) same ∙ c.requires.waits;
      free = subst (λ (m : Machine). IsFree m.base m.state c.args.seat) (sym same) c.requires.free;
    } in
    let table = c.claim.ensures ∙ ap (λ (t : StatusTable). record { list = set t.list c.args.arc (status.Claimed c.args.seat 0); seats = t.seats }) c.rest.ensures.list in
    let is : machine_from (arc_value s.rules).items s.start_nodes s.start_arcs s.limit s.arcs c.claim.new.self s.fired.items c.push_reserved.new.self.items s.stop
    ≡ with_step M (step.Claim c.args.seat c.args.arc) (after_claim M.state c.args.seat c.args.arc) =
    (λ i. machine_from (arc_value s.rules).items s.start_nodes s.start_arcs s.limit s.arcs (table i) s.fired.items (c.push_reserved.ensures.items i) s.stop) in
    subst (λ (m : Machine). IsSound m s.entry s.exit s.start_arcs s.unique) (sym is)
    (sound_step c.self.invariant going (step.Claim c.args.seat c.args.arc) (after_claim M.state c.args.seat c.args.arc) (may, refl))
