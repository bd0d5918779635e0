use Rattle.std.proofs.Common.{◌≡◌, ◌<◌, List, length, sym, ap, ◌∙◌, subst, arith, slice_get, Some}
use Rattle.std.proofs.lemmas.List.{nil_from_length}
use Rattle.std.proofs.lemmas.Option.{slice_get_within}
use Rattle.qs_tree.proofs.Members.{at_place}
use Rattle.qs_core.specs.Core.{Fired}
use Rattle.qs_canon.specs.declared.numbers.Next.{Next}
use Rattle.qs_canon.specs.working.CanonSteps.{firings_in, IsOneOf}
use Rattle.qs_canon.proofs.CanonDoing.{IsDoing, doing_first, next_one, doing_next, doing_last}
use Rattle.qs_canon.proofs.numbers.Numbers.do_round.Goals as goal

pub loop-place-init : goal.loop-place-init
loop-place-init c =
    subst (λ (xs : List Next). IsDoing c.args.end.now.machine c.args.self.now c.args.self.now c.args.round c.args.firings.items xs) (sym c.into_iter-place-iterator.ensures.into_iter_gives.0)
    (doing_first c.args.end.now.machine c.args.self.now c.args.round c.args.firings.items)

pub bounds-fired-place : goal.bounds-fired-place
bounds-fired-place c =
    let before = subst (λ (xs : List Next). IsDoing c.args.end.now.machine c.args.self.now c.loop-place.self c.args.round c.args.firings.items xs) c.in-Some.ensures.steps.0 c.loop-place.invariant in
    let (d, at, one) = next_one c.args.end.now.machine c.args.self.now c.loop-place.self c.args.round c.args.firings.items c.in-Some.field-0 c.next.new.self.rest.items before c.requires.recorded in
    let e = ap (λ (xs : List Fired). length xs) c.fired.ensures in
    omega (arith, e, slice_get_within c.args.end.now.machine.state.done c.in-Some.field-0.place d at)

pub place-requires : goal.place-requires
place-requires c =
    let before = subst (λ (xs : List Next). IsDoing c.args.end.now.machine c.args.self.now c.loop-place.self c.args.round c.args.firings.items xs) c.in-Some.ensures.steps.0 c.loop-place.invariant in
    let (d, at, one) = next_one c.args.end.now.machine c.args.self.now c.loop-place.self c.args.round c.args.firings.items c.in-Some.field-0 c.next.new.self.rest.items before c.requires.recorded in
    let e = ap (λ (xs : List Fired). length xs) c.fired.ensures in
    let within : c.in-Some.field-0.place < length c.fired.result.now = omega (arith, e, slice_get_within c.args.end.now.machine.state.done c.in-Some.field-0.place d at) in
    let here = at_place c.fired.result.now c.in-Some.field-0.place c.index-fired-place.result within c.index-fired-place.is in
    let same : Some d ≡ Some c.index-fired-place.result = sym at ∙ ap (λ (xs : List Fired). slice_get xs c.in-Some.field-0.place) (sym c.fired.ensures) ∙ here in
    let is : d ≡ c.index-fired-place.result = cc in
    let (n, S, r, w) = c.requires.at_work in
    let (E, all, v) = before.work n S r w in
    record {
      at_work = (n, S, E, firings_in c.next.new.self.rest.items, r, v);
      one = subst (λ (x : Fired). IsOneOf c.args.end.now.machine c.loop-place.self.arcs.items x c.in-Some.field-0.firing) is one;
    }

pub loop-place-preserved : goal.loop-place-preserved
loop-place-preserved c =
    let before = subst (λ (xs : List Next). IsDoing c.args.end.now.machine c.args.self.now c.loop-place.self c.args.round c.args.firings.items xs) c.in-Some.ensures.steps.0 c.loop-place.invariant in
    doing_next c.args.end.now.machine c.args.self.now c.loop-place.self c.args.round c.args.firings.items c.in-Some.field-0 c.next.new.self.rest.items before c.place.new.self c.in_ok-place.ensures.work c.in_ok-place.ensures.stay

pub returns : goal.returns
returns c =
    let none = nil_from_length c.loop-place.place-iterator.rest.items (omega (arith, c.in-None.ensures.steps.0, c.loop-place.place-iterator.rest.ok.0)) in
    record {
      work = doing_last c.args.end.now.machine c.args.self.now c.loop-place.self c.args.round c.args.firings.items
          (subst (λ (xs : List Next). IsDoing c.args.end.now.machine c.args.self.now c.loop-place.self c.args.round c.args.firings.items xs) none c.loop-place.invariant);
      stay = c.loop-place.invariant.stay;
    }
