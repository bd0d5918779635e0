use Rattle.std.proofs.Common.{◌≡◌, ◌+◌, [], map, get_or, subst, ap, ◌∙◌, length, arith}
use Rattle.std.proofs.lemmas.List.{nil_from_length}
use Rattle.qs_tree.specs.Lists.{◌∈◌}
use Rattle.qs_clean.proofs.Exploring.{IsExploring, explored}
use Rattle.qs_clean.proofs.LinkSteps.{items_of, exploring_init, last_within, targets_are, explore_step}
use Rattle.qs_clean.proofs.links.reached.Goals as goal

pub loop-node-init : goal.loop-node-init
loop-node-init c =
    exploring_init c.args.links.now c.args.start (c.args.nodes + 1) c.in_ok-marks.marks.items c.new-waiting.result.items c.push.new.self.items
    (omega arith) (c.in_ok-marks.ensures.items_if_clones_equal (λ y h. h)) c.new-waiting.ensures.items c.in_ok-push.ensures.items

pub index-requires : goal.index-requires
index-requires c =
    let low = last_within c.args.links.now c.args.start c.loop-node.marks.items c.loop-node.waiting.items c.pop.new.self.items c.in-Some.node c.loop-node.invariant.0 c.in-Some.ensures.items in
    omega (arith, c.in_ok-groups.groups.ok.0, c.in_ok-groups.ensures.len, c.loop-node.invariant.1)

pub mark_all-requires : goal.mark_all-requires
mark_all-requires c =
    let low = last_within c.args.links.now c.args.start c.loop-node.marks.items c.loop-node.waiting.items c.pop.new.self.items c.in-Some.node c.loop-node.invariant.0 c.in-Some.ensures.items in
    let many = c.in_ok-groups.ensures.len in
    let are : c.deref.result.now ≡ get_or (map items_of c.in_ok-groups.groups.items) c.in-Some.node [] =
    c.deref.ensures.value ∙ targets_are c.in_ok-groups.groups.items c.in-Some.node c.index.result.now (omega (arith, c.loop-node.invariant.1)) c.index.ensures in
    λ n i.
    let l = c.in_ok-groups.ensures.groups.sound c.in-Some.node n (subst (λ ns. n ∈ ns) are i) in
    let within = c.requires.links_in l.link l.is_in in
    let same : length c.deref_mut.result.now ≡ length c.loop-node.marks.items = ap length c.deref_mut.ensures.value in
    omega (arith, l.to, c.loop-node.invariant.1)

pub loop-node-preserved : goal.loop-node-preserved
loop-node-preserved c =
    let low = last_within c.args.links.now c.args.start c.loop-node.marks.items c.loop-node.waiting.items c.pop.new.self.items c.in-Some.node c.loop-node.invariant.0 c.in-Some.ensures.items in
    let many = c.in_ok-groups.ensures.len in
    let long : length c.mark_all.new.marks ≡ c.loop-node.marks.len = omega (arith, ap length c.deref_mut.ensures.value, c.loop-node.marks.ok.0) in
    let step = explore_step c.args.links.now c.args.start c.in_ok-groups.groups.items c.in-Some.node c.index.result.now c.deref.result.now c.loop-node.marks.items c.deref_mut.result.now c.mark_all.new.marks
    c.loop-node.waiting.items c.pop.new.self.items c.mark_all.new.waiting.items c.loop-node.marks.len c.in_ok-groups.ensures.groups (omega (arith, c.loop-node.invariant.1)) c.index.ensures
    c.deref.ensures.value c.deref_mut.ensures.value long c.in-Some.ensures.items c.loop-node.invariant.0 c.in_ok-mark_all.ensures in
    (step.0, omega (arith, step.1, c.loop-node.marks.ok.0, c.loop-node.invariant.1))

pub returns-clause-marks : goal.returns-clause-marks
returns-clause-marks c =
    let none : c.loop-node.waiting.items ≡ [] = nil_from_length c.loop-node.waiting.items (omega (arith, c.loop-node.waiting.ok.0, c.in_default.ensures.cases.0)) in
    explored c.args.links.now c.args.start c.loop-node.marks.items (subst (IsExploring c.args.links.now c.args.start c.loop-node.marks.items) none c.loop-node.invariant.0)
