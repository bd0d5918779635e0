use Rattle.std.proofs.Common.{ap, sym, arith, append-nil}
use Rattle.qs_pattern.specs.Patterns.{count}
use Rattle.qs_pattern.proofs.PatternLemmas.{count-patterns}
use Rattle.qs_join.proofs.Listing.{one_place, all_places}
use Rattle.qs_join.specs.working.Listing.{places_of}
use Rattle.qs_join.proofs.Below.{adds_nothing, adds_place, adds_side}
use Rattle.qs_join.proofs.heads.Heads.add_rule.Goals as goal

pub overflow_cast-place : goal.overflow_cast-place
overflow_cast-place c =
    let side = ap count c.left-pattern-items.ensures.value in
    omega (arith, c.loop-place-test.true, side, count-patterns c.left-pattern-items.result.now, c.left-pattern-items.ensures.accepted.left.at_most)

pub loop-place-init : goal.loop-place-init
loop-place-init c = record {
  places = λ r. sym (append-nil (places_of c.args.self.now r));
  below = adds_nothing c.args.number c.left-pattern-items.result.now c.args.self.now;
  within = omega arith;
}

pub loop-place-preserved : goal.loop-place-preserved
loop-place-preserved c =
    let x = c.loop-place.invariant in
    let side = c.left-pattern-items.result.now in
    record {
      places = λ r. one_place r _ _ _ c.args.number c.loop-place.place side c.pattern-item.result c.asked_root.result c.loop-place-test.true c.pattern-item.is c.asked_root.ensures
          (x.places r) (c.in_ok-add_place.ensures.places r);
      below = adds_place c.args.number side c.loop-place.place c.pattern-item.result c.asked_root.result c.asked_first.result c.loop-place-test.true c.pattern-item.is c.asked_root.ensures c.asked_first.ensures _ _ _
          x.below c.in_ok-add_place.ensures.below;
      within = omega (arith, c.loop-place-test.true);
    }

pub returns-clause-places : goal.returns-clause-places
returns-clause-places c = λ r.
    all_places r _ _ c.args.number c.loop-place.place c.left-pattern-items.result.now c.args.rule.now c.left-pattern-items.ensures.value c.loop-place-test.false (c.loop-place.invariant.places r)

pub returns-clause-below : goal.returns-clause-below
returns-clause-below c =
    adds_side c.args.number c.loop-place.place c.left-pattern-items.result.now c.args.rule.now.left c.left-pattern-items.ensures.value c.loop-place-test.false _ _
    c.loop-place.invariant.below c.loop-place.invariant.within
