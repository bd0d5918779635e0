use Rattle.std.proofs.Common.{◌≡◌, ◌<◌, length, get_or, List, ℕ, Option, refl, sym, subst, ap, ◌∙◌, arith}
use Rattle.std.proofs.lemmas.Option.{slice_get_within}
use Rattle.qs_tree.proofs.Members.{in_get_or, at_place}
use Rattle.qs_firing.specs.Firings.{Firing}
use Rattle.qs_core.specs.Core.{Fired}
use Rattle.qs_canon.specs.working.CanonTables.{AreNumbered, in_numbers}
use Rattle.qs_canon.specs.working.CanonNumbers.{table_of}
use Rattle.qs_canon.proofs.CanonNumbers.{in_numbers_more}
use Rattle.qs_canon.proofs.numbers.Numbers.in_numbers.Goals as goal

pub bounds-fired-place : goal.bounds-fired-place
bounds-fired-place c =
    let i = c.loop-place.place-index in
    let h : i < length c.args.places.now = omega arith in
    let (d, at, ready) = c.requires (get_or c.args.places.now i 0) (in_get_or c.args.places.now i 0 h) in
    slice_get_within c.args.fired.now (get_or c.args.places.now i 0) d at

pub firing_in_numbers-requires : goal.firing_in_numbers-requires
firing_in_numbers-requires c =
    let i = c.loop-place.place-index in
    let k = get_or c.args.places.now i 0 in
    let h : i < length c.args.places.now = omega arith in
    let (d, at, ready) = c.requires k (in_get_or c.args.places.now i 0 h) in
    let here = at_place c.args.fired.now k c.index-fired-place.result (slice_get_within c.args.fired.now k d at) c.index-fired-place.is in
    let same : d ≡ c.index-fired-place.result = cc in
    let firing : d.firing ≡ c.firing_of-firing.result.now = ap (λ (x : Fired). x.firing) same ∙ sym c.firing_of-firing.ensures in
    subst (λ (t : List (Option ℕ)). (ls : List ℕ) × AreNumbered (table_of t) c.firing_of-firing.result.now.path ls) (sym c.deref.ensures.value)
    (subst (λ (f : Firing). (ls : List ℕ) × AreNumbered (table_of c.args.self.now.arcs.items) f.path ls) firing ready)

pub loop-place-preserved : goal.loop-place-preserved
loop-place-preserved c =
    let i = c.loop-place.place-index in
    let k = get_or c.args.places.now i 0 in
    let h : i < length c.args.places.now = omega arith in
    let (d, at, ready) = c.requires k (in_get_or c.args.places.now i 0 h) in
    let here = at_place c.args.fired.now k c.index-fired-place.result (slice_get_within c.args.fired.now k d at) c.index-fired-place.is in
    let (ls, a, e) = c.in_ok-firing.ensures in
    let numbered = subst (λ (t : List (Option ℕ)). AreNumbered (table_of t) c.firing_of-firing.result.now.path ls) c.deref.ensures.value a in
    in_numbers_more (table_of c.args.self.now.arcs.items) c.args.fired.now c.args.places.now i c.loop-place.firings.items c.push.new.self.items (record { place = k; firing = c.in_ok-firing.firing }) h c.loop-place.invariant (
      refl,
      (
        c.index-fired-place.result,
        here,
        (
          ls,
          subst (λ (f : Firing). AreNumbered (table_of c.args.self.now.arcs.items) f.path ls) c.firing_of-firing.ensures numbered,
          subst (λ (f : Firing). c.in_ok-firing.firing ≡ in_numbers f ls) c.firing_of-firing.ensures e,
        ),
      ),
    )
    c.in_ok-push.ensures.items
