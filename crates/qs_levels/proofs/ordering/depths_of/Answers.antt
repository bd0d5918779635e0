use Rattle.std.proofs.Common.{◌≡◌, ◌<◌, ◌≤◌, ℕ, List, length, drop, get_or, Some, None, ap, ◌∙◌, subst, arith}
use Rattle.std.proofs.lemmas.List.{take_at, get_or_read}
use Rattle.std.proofs.lemmas.Option.{slice_get_within, slice_get-get_or}
use Rattle.qs_tree.specs.Lists.{◌∈◌}
use Rattle.qs_tree.proofs.Members.{in_read, at_place}
use Rattle.qs_levels.specs.declared.ordering.Node.{Node}
use Rattle.qs_levels.specs.working.Steps.{AreChains}
use Rattle.qs_levels.specs.working.Ordering.{IsUndone, IsVisited, AreStarted, places_left}
use Rattle.qs_levels.proofs.Passing.{fewer_before}
use Rattle.qs_levels.proofs.Ordered.{begun, begun_more, taking_first, IsLeaving, leaving_first, leaving_more, taking_more, at_end, are_depths}
use Rattle.qs_levels.proofs.ordering.depths_of.Goals as goal

pub chains_of-requires : goal.chains_of-requires
chains_of-requires c = λ n i. c.requires.sources_in n (subst (λ ns. n ∈ ns) c.deref.ensures.value i)

pub chains_of-requires-2 : goal.chains_of-requires-2
chains_of-requires-2 c = λ n i. c.requires.targets_in n (subst (λ ns. n ∈ ns) c.deref-2.ensures.value i)

pub loop-number-init : goal.loop-number-init
loop-number-init c =
    begun c.args.limit c.args.steps.now.sources.items c.args.steps.now.targets.items c.in_ok-entering.entering.last.items c.in_ok-entering.entering.before.items c.in_ok-nodes.nodes.items c.in_ok-order.order.items (subst (λ ns. AreChains c.args.limit ns c.in_ok-entering.entering.last.items c.in_ok-entering.entering.before.items) c.deref-2.ensures.value c.in_ok-entering.ensures)
    (subst (λ os. AreStarted os c.in_ok-nodes.nodes.items) c.deref-3.ensures.value c.in_ok-nodes.ensures) c.in_ok-order.ensures.items

pub loop-number-preserved : goal.loop-number-preserved
loop-number-preserved c =
    let v : IsVisited c.args.steps.now.sources.items c.args.steps.now.targets.items c.loop-number.nodes.items c.visit.new.nodes c.loop-number.order.items c.visit.new.order.items c.loop-number.number =
    subst (λ (ns : List Node). IsVisited c.args.steps.now.sources.items c.args.steps.now.targets.items ns c.visit.new.nodes c.loop-number.order.items c.visit.new.order.items c.loop-number.number) c.deref_mut.ensures.value c.in_ok-visit.ensures in
    let whole = take_at c.visit.new.nodes (drop (length c.visit.new.nodes) c.loop-number.nodes.items) c.loop-number.nodes.len (omega (arith, v.long, c.loop-number.nodes.ok.0)) in
    rw whole (begun_more c.args.limit c.args.steps.now.sources.items c.args.steps.now.targets.items c.loop-number.nodes.items c.visit.new.nodes c.loop-number.order.items c.visit.new.order.items c.loop-number.number v c.loop-number.invariant)

pub loop-next-init : goal.loop-next-init
loop-next-init c = taking_first c.args.limit c.args.steps.now.sources.items c.args.steps.now.targets.items c.loop-number.nodes.items c.loop-number.order.items c.loop-number.number (omega arith) c.loop-number.invariant

pub index-step-requires : goal.index-step-requires
index-step-requires c =
    let low : c.loop-next.next < length c.loop-next.order.items = omega (arith, c.loop-next-test.true, c.len.ensures, c.loop-next.order.ok.0) in
    let within = c.loop-next.invariant.going.within c.index.result.now (in_read c.loop-next.order.items c.loop-next.next c.index.result.now low c.index.ensures) in
    let ch = (subst (λ ns. AreChains c.args.limit ns c.in_ok-leaving.leaving.last.items c.in_ok-leaving.leaving.before.items) c.deref.ensures.value c.in_ok-leaving.ensures) in
    omega (arith, within, c.loop-next.invariant.long, c.in_ok-leaving.ensures.long_last, c.in_ok-leaving.leaving.last.ok.0)

pub loop-step-init : goal.loop-step-init
loop-step-init c =
    let low : c.loop-next.next < length c.loop-next.order.items = omega (arith, c.loop-next-test.true, c.len.ensures, c.loop-next.order.ok.0) in
    let within = c.loop-next.invariant.going.within c.index.result.now (in_read c.loop-next.order.items c.loop-next.next c.index.result.now low c.index.ensures) in
    let lower : c.index.result.now < length c.in_ok-leaving.leaving.last.items = omega (arith, within, c.loop-next.invariant.long, c.in_ok-leaving.ensures.long_last) in
    leaving_first c.args.limit c.args.steps.now.sources.items c.args.steps.now.targets.items c.loop-next.nodes.items c.loop-next.order.items c.loop-next.next c.loop-next.invariant c.in_ok-leaving.leaving.last.items c.in_ok-leaving.leaving.before.items (subst (λ ns. AreChains c.args.limit ns c.in_ok-leaving.leaving.last.items c.in_ok-leaving.leaving.before.items) c.deref.ensures.value c.in_ok-leaving.ensures) low c.index-step.result.now
    (get_or_read c.in_ok-leaving.leaving.last.items c.index.result.now c.index-step.result.now lower c.index-step.ensures None ∙ ap (λ a. get_or c.in_ok-leaving.leaving.last.items a None) (get_or_read c.loop-next.order.items c.loop-next.next c.index.result.now low c.index.ensures 0))

pub index-requires-in-Some : goal.index-requires-in-Some
index-requires-in-Some c =
    let at = slice_get-get_or c.loop-step.order.items c.loop-next.next 0 c.loop-step.invariant.some in
    omega (arith, slice_get_within c.args.steps.now.sources.items c.in-Some.place _ (c.loop-step.invariant.leaves c.in-Some.place _ c.in-Some.is at), c.requires.long, c.args.steps.now.targets.ok.0)

pub visit-requires-in-Some-clause-number : goal.visit-requires-in-Some-clause-number
visit-requires-in-Some-clause-number c =
    let at = slice_get-get_or c.loop-step.order.items c.loop-next.next 0 c.loop-step.invariant.some in
    let low : c.in-Some.place < length c.args.steps.now.targets.items = omega (arith, slice_get_within c.args.steps.now.sources.items c.in-Some.place _ (c.loop-step.invariant.leaves c.in-Some.place _ c.in-Some.is at), c.requires.long) in
    let within = c.requires.targets_in c.index-in-Some.result.now (in_read c.args.steps.now.targets.items c.in-Some.place c.index-in-Some.result.now low c.index-in-Some.ensures) in
    omega (arith, within, c.loop-step.invariant.long, ap length c.deref_mut-in-Some.ensures.value)

pub index-step-requires-in-Some : goal.index-step-requires-in-Some
index-step-requires-in-Some c =
    let at = slice_get-get_or c.loop-step.order.items c.loop-next.next 0 c.loop-step.invariant.some in
    omega (arith, slice_get_within c.args.steps.now.sources.items c.in-Some.place _ (c.loop-step.invariant.leaves c.in-Some.place _ c.in-Some.is at), ap length c.deref.ensures.value, c.in_ok-leaving.ensures.long_before, c.in_ok-leaving.leaving.before.ok.0)

pub loop-step-smaller : goal.loop-step-smaller
loop-step-smaller c =
    let at = slice_get-get_or c.loop-step.order.items c.loop-next.next 0 c.loop-step.invariant.some in
    let from = c.loop-step.invariant.leaves c.in-Some.place _ c.in-Some.is at in
    let low : c.in-Some.place < length c.in_ok-leaving.leaving.before.items = omega (arith, slice_get_within c.args.steps.now.sources.items c.in-Some.place _ from, ap length c.deref.ensures.value, c.in_ok-leaving.ensures.long_before) in
    let next : c.index-step-in-Some.result.now ≡ get_or c.in_ok-leaving.leaving.before.items c.in-Some.place None = get_or_read c.in_ok-leaving.leaving.before.items c.in-Some.place c.index-step-in-Some.result.now low c.index-step-in-Some.ensures None in
    omega (arith, fewer_before c.args.limit c.args.steps.now.sources.items c.in_ok-leaving.leaving.last.items c.in_ok-leaving.leaving.before.items (subst (λ ns. AreChains c.args.limit ns c.in_ok-leaving.leaving.last.items c.in_ok-leaving.leaving.before.items) c.deref.ensures.value c.in_ok-leaving.ensures) c.in-Some.place _ from, ap places_left next, ap places_left c.in-Some.is)

pub loop-step-preserved : goal.loop-step-preserved
loop-step-preserved c =
    let at = slice_get-get_or c.loop-step.order.items c.loop-next.next 0 c.loop-step.invariant.some in
    let from = c.loop-step.invariant.leaves c.in-Some.place _ c.in-Some.is at in
    let high : c.in-Some.place < length c.args.steps.now.targets.items = omega (arith, slice_get_within c.args.steps.now.sources.items c.in-Some.place _ from, c.requires.long) in
    let low : c.in-Some.place < length c.in_ok-leaving.leaving.before.items = omega (arith, slice_get_within c.args.steps.now.sources.items c.in-Some.place _ from, ap length c.deref.ensures.value, c.in_ok-leaving.ensures.long_before) in
    let next : c.index-step-in-Some.result.now ≡ get_or c.in_ok-leaving.leaving.before.items c.in-Some.place None = get_or_read c.in_ok-leaving.leaving.before.items c.in-Some.place c.index-step-in-Some.result.now low c.index-step-in-Some.ensures None in
    let v : IsVisited c.args.steps.now.sources.items c.args.steps.now.targets.items c.loop-step.nodes.items c.visit-in-Some.new.nodes c.loop-step.order.items c.visit-in-Some.new.order.items c.index-in-Some.result.now =
    subst (λ (ns : List Node). IsVisited c.args.steps.now.sources.items c.args.steps.now.targets.items ns c.visit-in-Some.new.nodes c.loop-step.order.items c.visit-in-Some.new.order.items c.index-in-Some.result.now) c.deref_mut-in-Some.ensures.value c.in_ok-visit-2.ensures in
    let whole = take_at c.visit-in-Some.new.nodes (drop (length c.visit-in-Some.new.nodes) c.loop-step.nodes.items) c.loop-step.nodes.len (omega (arith, v.long, c.loop-step.nodes.ok.0)) in
    let was : IsLeaving c.args.limit c.args.steps.now.sources.items c.args.steps.now.targets.items c.loop-next.nodes.items c.loop-next.order.items c.loop-step.nodes.items c.loop-step.order.items c.loop-next.next (Some c.in-Some.place) =
    subst (IsLeaving c.args.limit c.args.steps.now.sources.items c.args.steps.now.targets.items c.loop-next.nodes.items c.loop-next.order.items c.loop-step.nodes.items c.loop-step.order.items c.loop-next.next) c.in-Some.is c.loop-step.invariant in
    rw (whole, next) (leaving_more c.args.limit c.args.steps.now.sources.items c.args.steps.now.targets.items c.loop-step.nodes.items c.visit-in-Some.new.nodes c.loop-step.order.items c.visit-in-Some.new.order.items c.index-in-Some.result.now v
    c.loop-next.nodes.items c.loop-next.order.items c.in_ok-leaving.leaving.last.items c.in_ok-leaving.leaving.before.items (subst (λ ns. AreChains c.args.limit ns c.in_ok-leaving.leaving.last.items c.in_ok-leaving.leaving.before.items) c.deref.ensures.value c.in_ok-leaving.ensures) c.loop-next.next c.in-Some.place (at_place c.args.steps.now.targets.items c.in-Some.place c.index-in-Some.result.now high c.index-in-Some.ensures) was)

pub loop-next-preserved : goal.loop-next-preserved
loop-next-preserved c =
    taking_more c.args.limit c.args.steps.now.sources.items c.args.steps.now.targets.items c.loop-next.nodes.items c.loop-next.order.items c.loop-step.nodes.items c.loop-step.order.items c.loop-next.next c.loop-step.step c.in_default.is c.loop-step.invariant

pub returns-then-all_done : goal.returns-then-all_done
returns-then-all_done c =
    are_depths c.args.limit c.args.steps.now.sources.items c.args.steps.now.targets.items c.loop-next.nodes.items c.loop-next.order.items c.loop-next.invariant.going c.loop-next.invariant.long
    (subst (λ (ns : List Node). (n : ℕ) → IsUndone ns n → ⊥) c.deref-4.ensures.value (c.all_done.ensures.yes c.if-all_done.true))

pub returns : goal.returns
returns c =
    let (n, u) = c.all_done.ensures.no c.if-all_done.false in
    let all : length c.loop-next.order.items ≤ c.loop-next.next = omega (arith, c.loop-next-test.false, c.len.ensures, c.loop-next.order.ok.0) in
    record {
      nodes = c.loop-next.nodes.items;
      long = c.loop-next.invariant.long;
      some = n;
      one = subst (λ (ns : List Node). IsUndone ns n) c.deref-4.ensures.value u;
      each = at_end c.args.limit c.args.steps.now.sources.items c.args.steps.now.targets.items c.loop-next.nodes.items c.loop-next.order.items c.loop-next.next c.loop-next.invariant all;
    }
