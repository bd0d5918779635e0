use Rattle.std.proofs.Common.{refl, ◌≡◌, ◌∙◌, length, ap, sym, subst, arith, replicate}
use Rattle.std.specs.Arc.{arc_value}
use Rattle.qs_tree.specs.Lists.{◌∈◌}
use Rattle.qs_pattern.specs.Rules.{Rule, IsAccepted, all_unique}
use Rattle.qs_graph.specs.Graphs.{QGraph}
use Rattle.qs_core.specs.declared.step.Status.TheVariants as status
use Rattle.qs_core.specs.Core.{Base}
use Rattle.qs_core.specs.Runs.{Machine}
use Rattle.qs_core.specs.Machines.{IsSound}
use Rattle.qs_core.proofs.Machines.{opens_as, sound_opened}
use Rattle.qs_core.proofs.state.State.open_shared.Goals as goal

pub invariant_of-result : goal.invariant_of-result
invariant_of-result c =
    let B : Base = record { rules = (arc_value c.args.rules).items; start = c.args.start.now; limit = c.args.limit; seats = c.args.seats } in
    let graph : c.in_ok-arcs.arcs ≡ c.args.start.now = c.in_ok-arcs.ensures ∙ (λ i. record { nodes = c.nodes.ensures i; arcs = c.edges.ensures.value i }) in
    let table : c.in_ok-statuses.statuses ≡ record { list = replicate (length c.in_ok-arcs.arcs.arcs) status.Waiting; seats = c.args.seats } =
    c.in_ok-statuses.ensures ∙ (λ i. record { list = replicate (c.len.ensures i) status.Waiting; seats = c.args.seats }) in
    let is = opens_as B (arc_value c.args.rules).items c.nodes-2.result c.len-2.result c.in_ok-arcs.arcs c.in_ok-statuses.statuses c.new.result.items c.new-2.result.items
    refl graph c.nodes-2.ensures c.len-2.ensures table c.new.ensures.items c.new-2.ensures.items in
    let same : c.deref-2.result.now ≡ B.rules = c.deref-2.ensures.value ∙ (λ i. (c.deref.ensures i).items) in
    subst (λ (m : Machine). IsSound m c.entry.result c.exit.result c.len-2.result c.are_unique-unique.result) (sym is)
    (sound_opened B c.entry.result c.exit.result c.len-2.result c.are_unique-unique.result (subst (λ rules. (rule : Rule) → rule ∈ rules → IsAccepted rule) same c.are_unique-unique.ensures.accepted)
    (c.are_unique-unique.ensures.value ∙ ap all_unique same) c.edges.ensures.valid c.entry.ensures c.exit.ensures
    (c.len-2.ensures ∙ ap (λ (g : QGraph). length g.arcs) graph) (omega (arith, c.requires.arcs)) (omega (arith, c.requires.nodes)))

pub returns : goal.returns
returns c =
    let B : Base = record { rules = (arc_value c.args.rules).items; start = c.args.start.now; limit = c.args.limit; seats = c.args.seats } in
    let graph : c.in_ok-arcs.arcs ≡ c.args.start.now = c.in_ok-arcs.ensures ∙ (λ i. record { nodes = c.nodes.ensures i; arcs = c.edges.ensures.value i }) in
    let table : c.in_ok-statuses.statuses ≡ record { list = replicate (length c.in_ok-arcs.arcs.arcs) status.Waiting; seats = c.args.seats } =
    c.in_ok-statuses.ensures ∙ (λ i. record { list = replicate (c.len.ensures i) status.Waiting; seats = c.args.seats }) in
    let is = opens_as B (arc_value c.args.rules).items c.nodes-2.result c.len-2.result c.in_ok-arcs.arcs c.in_ok-statuses.statuses c.new.result.items c.new-2.result.items
    refl graph c.nodes-2.ensures c.len-2.ensures table c.new.ensures.items c.new-2.ensures.items in
    is
