use Rattle.std.proofs.Common.{◌<◌, ◌↔◌, ℕ, sym, subst, arith}
use Rattle.qs_tree.specs.Lists.{◌∈◌, Ascends}
use Rattle.qs_clean.specs.Marks.{IsMarked}
use Rattle.qs_clean.proofs.Places.{places, places_ascend, in_places}
use Rattle.qs_explain.proofs.Marking.{places_all}
use Rattle.qs_explain.proofs.marks.places.Goals as goal

pub returns-clause-ascend : goal.returns-clause-ascend
returns-clause-ascend c =
    let done = places_all c.args.marks.now c.loop-place.place c.loop-place.places.items (places 0 c.args.marks.now) (omega arith) c.loop-place.invariant in
    subst (Ascends ◌<◌) (sym done) (places_ascend 0 c.args.marks.now)

pub returns-clause-are : goal.returns-clause-are
returns-clause-are c =
    let done = places_all c.args.marks.now c.loop-place.place c.loop-place.places.items (places 0 c.args.marks.now) (omega arith) c.loop-place.invariant in
    subst (λ ns. (k : ℕ) → k ∈ ns ↔ IsMarked c.args.marks.now k) (sym done) (in_places c.args.marks.now)
