use Rattle.std.proofs.Common.{◌≡◌, ◌<◌, ◌∙◌, ap, sym, subst, refl, true, false, slice_get, rules}
use Rattle.std.specs.Arc.{arc_value}
use Rattle.qs_tree.proofs.Decisions.{true_false}
use Rattle.qs_core.specs.declared.step.Step.TheVariants as step
use Rattle.qs_core.specs.Core.{IsFree, NoneWaits, after_rest}
use Rattle.qs_core.specs.Runs.{Machine, MachineWithRoom, with_step, MayRest}
use Rattle.qs_core.specs.Machines.{StatusTable, machine_from, IsSound}
use Rattle.qs_core.proofs.Machines.{sound_step, same_table}
use Rattle.qs_core.proofs.state.State.rest_if_claimed.Goals as goal

pub invariant_of-self : goal.invariant_of-self
invariant_of-self c =
    let s = c.self.inside in
    let none : c.rest.result ≡ false = search rules in
    let table = same_table c.args.seat s.statuses c.rest.new.self c.rest.ensures.list (λ m k e. true_false none (c.rest.ensures.had.1 (m, k, e))) in
    subst (λ (t : StatusTable). IsSound (machine_from (arc_value s.rules).items s.start_nodes s.start_arcs s.limit s.arcs t s.fired.items s.journal.items s.stop) s.entry s.exit s.start_arcs s.unique)
    (sym table) c.self.invariant

pub returns-then-not-rest-clause-had : goal.returns-then-not-rest-clause-had
returns-then-not-rest-clause-had c =
    let none : c.rest.result ≡ false = search rules in
    (λ h. absurd (true_false refl h), λ (m, k, e). absurd (true_false none (c.rest.ensures.had.1 (m, k, ap (λ (x : MachineWithRoom). slice_get x.machine.state.status m) c.self.view_is ∙ e))))

pub returns-then-not-rest-clause-step : goal.returns-then-not-rest-clause-step
returns-then-not-rest-clause-step c =
    let s = c.self.inside in
    let none : c.rest.result ≡ false = search rules in
    let table = same_table c.args.seat s.statuses c.rest.new.self c.rest.ensures.list (λ m k e. true_false none (c.rest.ensures.had.1 (m, k, e))) in
    (λ i. machine_from (arc_value s.rules).items s.start_nodes s.start_arcs s.limit s.arcs (table i) s.fired.items s.journal.items s.stop)
    ∙ ap (λ (x : MachineWithRoom). x.machine) c.self.view_is

pub invariant_of-self-2 : goal.invariant_of-self-2
invariant_of-self-2 c =
    let s = c.self.inside in
    let M = machine_from (arc_value s.rules).items s.start_nodes s.start_arcs s.limit s.arcs s.statuses s.fired.items s.journal.items s.stop in
    let same = ap (λ (x : MachineWithRoom). x.machine) c.self.view_is in
    let going = ap (λ (m : Machine). m.state.stop) same ∙ c.requires.going in
    let had : c.rest.result ≡ true = search rules in
    let has = c.rest.ensures.had.0 had in
    let may : MayRest M.base M.state c.args.seat = record {
      going = going;
      seat = subst (λ (m : Machine). c.args.seat < m.base.seats) (sym same) c.requires.seat;
      none_waits = subst (λ (m : Machine). NoneWaits m.state) (sym same) c.requires.none_waits;
      arc = has.0;
      k = has.1;
      claim = has.2;
      free = subst (λ (m : Machine). IsFree m.base m.state c.args.seat) (sym same) c.requires.free;
    } in
    let is : machine_from (arc_value s.rules).items s.start_nodes s.start_arcs s.limit s.arcs c.rest.new.self s.fired.items c.push_reserved.new.self.items s.stop
    ≡ with_step M (step.Rest c.args.seat) (after_rest M.state c.args.seat) =
    (λ i. machine_from (arc_value s.rules).items s.start_nodes s.start_arcs s.limit s.arcs (c.rest.ensures.list i) s.fired.items (c.push_reserved.ensures.items i) s.stop) in
    subst (λ (m : Machine). IsSound m s.entry s.exit s.start_arcs s.unique) (sym is)
    (sound_step c.self.invariant going (step.Rest c.args.seat) (after_rest M.state c.args.seat) (may, refl))
