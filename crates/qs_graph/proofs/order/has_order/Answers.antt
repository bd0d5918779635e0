use Rattle.std.proofs.Common.{◌≡◌, ◌↔◌, ◌<◌, ◌≤◌, ◌++◌, ℕ, List, length, get_or, take, drop, ap, subst, ◌∙◌, arith}
use Rattle.std.proofs.lemmas.List.{take_at, get_or_read}
use Rattle.qs_tree.specs.Lists.{◌∈◌}
use Rattle.qs_tree.proofs.Members.{from_map}
use Rattle.qs_graph.specs.Graphs.{Arc}
use Rattle.qs_graph.specs.working.Orders.{targets_from, IsLowered}
use Rattle.qs_graph.proofs.Taking.{taking_first, next_node, can_lower, taking_next, no_cycle, cycle_left}
use Rattle.qs_graph.proofs.Lowering.{group_read}
use Rattle.qs_graph.proofs.order.has_order.Goals as goal

pub tally-requires-clause-within : goal.tally-requires-clause-within
tally-requires-clause-within c = λ n i.
    from_map (λ (arc : Arc). arc.to) c.args.edges.now (λ m. m ≤ c.args.nodes) (λ arc j. (c.requires.inside arc j).1.1) n
    (subst (λ ns. n ∈ ns) (c.deref.ensures.value ∙ c.in_ok-targets.ensures) i)

pub loop-taken-init : goal.loop-taken-init
loop-taken-init c =
    taking_first c.args.nodes c.args.edges.now c.requires.inside c.in_ok-counts.counts.items c.in_ok-order.order.items c.deref.result.now c.in_ok-counts.ensures.len
    (c.deref.ensures.value ∙ c.in_ok-targets.ensures) c.in_ok-counts.ensures.counts c.in_ok-order.ensures.apart
    (subst (λ (counts : List ℕ). (n : ℕ) → n ∈ c.in_ok-order.order.items ↔ ((1 ≤ n) × (n < length counts) × (get_or counts n 0 ≡ 0))) c.deref-2.ensures.value c.in_ok-order.ensures.are)

pub returns-then-taken-len-clause-no : goal.returns-then-taken-len-clause-no
returns-then-taken-len-clause-no c = λ _.
    cycle_left c.args.nodes c.args.edges.now c.requires.inside c.loop-taken.counts.items c.loop-taken.order.items c.loop-taken.taken c.loop-taken.invariant
    (omega (arith, c.loop-taken.order.ok.0, c.len.ensures, c.if-taken-len.true)) (omega arith)

pub index-requires : goal.index-requires
index-requires c = omega (arith, c.loop-taken.order.ok.0, c.loop-taken.invariant.within, c.len.ensures, c.if-taken-len.false)

pub index-requires-in-loop-taken : goal.index-requires-in-loop-taken
index-requires-in-loop-taken c =
    let left : c.loop-taken.taken < length c.loop-taken.order.items = omega (arith, c.loop-taken.order.ok.0, c.loop-taken.invariant.within, c.len.ensures, c.if-taken-len.false) in
    let node : c.index.result.now ≡ get_or c.loop-taken.order.items c.loop-taken.taken 0 = get_or_read c.loop-taken.order.items _ _ left c.index.ensures 0 in
    omega (
      arith,
      node,
      (next_node c.args.nodes c.args.edges.now c.requires.inside c.loop-taken.counts.items c.loop-taken.order.items c.loop-taken.taken c.loop-taken.invariant left).1,
      c.in_ok-groups.ensures.len,
      c.in_ok-groups.groups.ok.0,
    )

pub lower-requires : goal.lower-requires
lower-requires c =
    let left : c.loop-taken.taken < length c.loop-taken.order.items = omega (arith, c.loop-taken.order.ok.0, c.loop-taken.invariant.within, c.len.ensures, c.if-taken-len.false) in
    let node : c.index.result.now ≡ get_or c.loop-taken.order.items c.loop-taken.taken 0 = get_or_read c.loop-taken.order.items _ _ left c.index.ensures 0 in
    let next = next_node c.args.nodes c.args.edges.now c.requires.inside c.loop-taken.counts.items c.loop-taken.order.items c.loop-taken.taken c.loop-taken.invariant left in
    let low : c.index.result.now < length c.in_ok-groups.groups.items = omega (arith, node, next.1, c.in_ok-groups.ensures.len) in
    let group : c.deref-in-loop-taken.result.now ≡ targets_from c.args.edges.now c.index.result.now =
    c.deref-in-loop-taken.ensures.value ∙ group_read c.in_ok-groups.groups.items c.args.edges.now c.index.result.now c.index-in-loop-taken.result.now low c.index-in-loop-taken.ensures c.in_ok-groups.ensures.groups in
    let targets : c.deref-in-loop-taken.result.now ≡ targets_from c.args.edges.now (get_or c.loop-taken.order.items c.loop-taken.taken 0) = group ∙ ap (targets_from c.args.edges.now) node in
    rw (targets, c.deref_mut.ensures.value) (can_lower c.args.nodes c.args.edges.now c.requires.inside c.loop-taken.counts.items c.loop-taken.order.items c.loop-taken.taken c.loop-taken.invariant left)

pub loop-taken-preserved : goal.loop-taken-preserved
loop-taken-preserved c =
    let left : c.loop-taken.taken < length c.loop-taken.order.items = omega (arith, c.loop-taken.order.ok.0, c.loop-taken.invariant.within, c.len.ensures, c.if-taken-len.false) in
    let node : c.index.result.now ≡ get_or c.loop-taken.order.items c.loop-taken.taken 0 = get_or_read c.loop-taken.order.items _ _ left c.index.ensures 0 in
    let next = next_node c.args.nodes c.args.edges.now c.requires.inside c.loop-taken.counts.items c.loop-taken.order.items c.loop-taken.taken c.loop-taken.invariant left in
    let low : c.index.result.now < length c.in_ok-groups.groups.items = omega (arith, node, next.1, c.in_ok-groups.ensures.len) in
    let group : c.deref-in-loop-taken.result.now ≡ targets_from c.args.edges.now c.index.result.now =
    c.deref-in-loop-taken.ensures.value ∙ group_read c.in_ok-groups.groups.items c.args.edges.now c.index.result.now c.index-in-loop-taken.result.now low c.index-in-loop-taken.ensures c.in_ok-groups.ensures.groups in
    let targets : c.deref-in-loop-taken.result.now ≡ targets_from c.args.edges.now (get_or c.loop-taken.order.items c.loop-taken.taken 0) = group ∙ ap (targets_from c.args.edges.now) node in
    let lowered : IsLowered (targets_from c.args.edges.now (get_or c.loop-taken.order.items c.loop-taken.taken 0)) c.loop-taken.counts.items c.lower.new.counts c.loop-taken.order.items c.lower.new.order.items =
    subst (λ ts. IsLowered ts c.loop-taken.counts.items c.lower.new.counts c.loop-taken.order.items c.lower.new.order.items) targets
    (subst (λ ks. IsLowered c.deref-in-loop-taken.result.now ks c.lower.new.counts c.loop-taken.order.items c.lower.new.order.items) c.deref_mut.ensures.value c.in_ok-lower.ensures) in
    let whole : take c.loop-taken.counts.len (c.lower.new.counts ++ drop (length c.lower.new.counts) c.loop-taken.counts.items) ≡ c.lower.new.counts =
    take_at c.lower.new.counts (drop (length c.lower.new.counts) c.loop-taken.counts.items) c.loop-taken.counts.len (omega (arith, lowered.len, c.loop-taken.counts.ok.0)) in
    rw whole (taking_next c.args.nodes c.args.edges.now c.requires.inside c.loop-taken.counts.items c.loop-taken.order.items c.loop-taken.taken c.loop-taken.invariant c.lower.new.counts c.lower.new.order.items left lowered)

pub returns-clause-yes : goal.returns-clause-yes
returns-clause-yes c = λ _. no_cycle c.args.nodes c.args.edges.now c.requires.inside c.loop-taken.counts.items c.loop-taken.order.items c.loop-taken.taken c.loop-taken.invariant (omega arith)
