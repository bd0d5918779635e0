use Rattle.std.proofs.Common.{◌≡◌, ◌+◌, ◌<◌, length, ◌∷◌, [], ◌++◌, List, ℕ, sym, ap, ◌∙◌, subst, arith}
use Rattle.qs_firing.specs.Adding.{from_on}
use Rattle.qs_canon.specs.Rounds.{Done}
use Rattle.qs_canon.specs.working.CanonSteps.{stage_of, IsBetween}
use Rattle.qs_canon.proofs.CanonStart.{start_few, nodes_few, start_arcs, opens, from_own, arcs_more}
use Rattle.qs_canon.proofs.numbers.Numbers.of_start.Goals as goal

pub edge-requires : goal.edge-requires
edge-requires c = omega (arith, start_few c.args.end.now.machine c.requires, c.start_arcs-start.ensures.value)

pub loop-arc-preserved : goal.loop-arc-preserved
loop-arc-preserved c =
    let arcs = c.args.end.now.machine.state.graph.arcs in
    let k = c.loop-arc.arc in
    let h : k < length arcs = omega (arith, start_few c.args.end.now.machine c.requires, c.start_arcs-start.ensures.value) in
    record {
      edges = c.in_ok-push.ensures.items ∙ (λ i. c.loop-arc.invariant.edges i ++ c.in_ok-copy.ensures i ∷ []) ∙ sym (arcs_more arcs k c.edge.result.now h c.edge.ensures);
      origins = c.in_ok-push-2.ensures.items ∙ ap (λ (ks : List ℕ). ks ++ k ∷ []) c.loop-arc.invariant.origins ∙ from_own k;
    }

pub opening_table-requires-clause-within : goal.opening_table-requires-clause-within
opening_table-requires-clause-within c = omega (arith, start_few c.args.end.now.machine c.requires, c.start_arcs-start.ensures.value, c.arcs.ensures)

pub opening_table-requires-2-clause-within : goal.opening_table-requires-2-clause-within
opening_table-requires-2-clause-within c = omega (arith, nodes_few c.args.end.now.machine c.requires, c.start_nodes-last_node.ensures.value, c.nodes.ensures)

pub returns-clause-between : goal.returns-clause-between
returns-clause-between c =
    let M = c.args.end.now.machine in
    let all : c.loop-arc.arc ≡ length M.base.start.arcs = omega (arith, c.loop-arc-test.false, c.loop-arc.auto.arc-end, c.start_arcs-start.ensures.value) in
    subst (λ (ds : List Done). IsBetween M c.in_ok-arcs.arcs.items c.in_ok-nodes.nodes.items 0 (stage_of c.start_nodes-last_node.result c.loop-arc.edges.items ds)) (sym c.new.ensures.items)
    (opens M c.requires c.in_ok-arcs.arcs.items c.in_ok-nodes.nodes.items c.start_nodes-last_node.result c.start_arcs-start.result (c.start_nodes-last_node.result + 1) c.loop-arc.edges.items
    (c.in_ok-arcs.ensures.len ∙ c.arcs.ensures) (omega (arith, c.in_ok-nodes.ensures.len, c.nodes.ensures)) c.start_arcs-start.ensures.value c.in_ok-arcs.ensures.own
    (omega (arith, c.start_nodes-last_node.ensures.value)) c.in_ok-nodes.ensures.own c.start_nodes-last_node.ensures.value (start_arcs M c.requires c.loop-arc.edges.items c.loop-arc.arc all c.loop-arc.invariant.edges))

pub returns-clause-origins : goal.returns-clause-origins
returns-clause-origins c =
    let all : c.loop-arc.arc ≡ length c.args.end.now.machine.base.start.arcs = omega (arith, c.loop-arc-test.false, c.loop-arc.auto.arc-end, c.start_arcs-start.ensures.value) in
    c.loop-arc.invariant.origins ∙ ap (from_on 0) all
