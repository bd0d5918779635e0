use Rattle.std.proofs.Common.{◌≡◌, ◌<◌, get_or, take, sym, subst}
use Rattle.std.proofs.lemmas.List.{take_more}
use Rattle.std.proofs.lemmas.Option.{slice_get_within, slice_get-get_or}
use Rattle.qs_tree.proofs.Members.{in_at, at_place}
use Rattle.qs_pattern.specs.Patterns.{count}
use Rattle.qs_pattern.specs.Rules.{Rule}
use Rattle.qs_join.specs.working.Searching.{ThroughOne, Finds}
use Rattle.qs_join.proofs.Work.{through_place, place_more}
use Rattle.qs_join.proofs.joining.find_all.Goals as goal

pub bounds-rules-place : goal.bounds-rules-place
bounds-rules-place c =
    let places = c.args.places.now in
    let i = c.loop-place.place-index in
    let pair = get_or places i (0, 0) in
    let (rule, at, low) = c.requires.places pair (in_at places i pair (slice_get-get_or places i (0, 0) c.loop-place-test.true)) in
    slice_get_within c.args.rules.now pair.0 rule at

pub find_at-requires-clause-place : goal.find_at-requires-clause-place
find_at-requires-clause-place c =
    let R = c.args.rules.now in
    let places = c.args.places.now in
    let i = c.loop-place.place-index in
    let pair = get_or places i (0, 0) in
    let (rule, at, low) = c.requires.places pair (in_at places i pair (slice_get-get_or places i (0, 0) c.loop-place-test.true)) in
    let here = at_place R pair.0 c.index-rules-place.result (slice_get_within R pair.0 rule at) c.index-rules-place.is in
    let same : rule ≡ c.index-rules-place.result = cc in
    subst (λ (r : Rule). pair.1 < count r.left) same low

pub loop-place-preserved : goal.loop-place-preserved
loop-place-preserved c =
    let R = c.args.rules.now in
    let arcs = c.args.view.now in
    let m = c.args.newest in
    let places = c.args.places.now in
    let i = c.loop-place.place-index in
    let pair = get_or places i (0, 0) in
    let (rule, at, low) = c.requires.places pair (in_at places i pair (slice_get-get_or places i (0, 0) c.loop-place-test.true)) in
    let here = at_place R pair.0 c.index-rules-place.result (slice_get_within R pair.0 rule at) c.index-rules-place.is in
    record {
      finds = subst (λ ps. Finds (ThroughOne R arcs m ps) c.args.found.now.items c.find_at.new.found.items) (sym (take_more places i (0, 0) c.loop-place-test.true))
          (place_more R arcs m (take i places) pair c.args.found.now.items c.loop-place.found.items c.find_at.new.found.items c.loop-place.invariant.finds
          (through_place R arcs m pair c.index-rules-place.result here c.loop-place.found.items c.find_at.new.found.items c.in_ok-find_at.ensures.found));
      empty = c.in_ok-find_at.ensures.empty;
    }
