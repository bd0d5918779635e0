use Rattle.std.proofs.Common.{◌≤◌, ◌↔◌, sym, subst, ◌∙◌}
use Rattle.qs_tree.specs.Lists.{◌∈◌}
use Rattle.qs_tree.proofs.Members.{from_map}
use Rattle.qs_graph.specs.Graphs.{Arc, IsExit}
use Rattle.qs_graph.specs.working.Orders.{IsOutside}
use Rattle.qs_graph.proofs.Endpoints.{only_ok, outside_exit}
use Rattle.qs_graph.proofs.ends.only_exit.Goals as goal

pub only_node_without-requires-clause-within : goal.only_node_without-requires-clause-within
only_node_without-requires-clause-within c = λ n i.
    from_map (λ (arc : Arc). arc.from) c.args.edges.now (λ m. m ≤ c.args.nodes) (λ arc j. (c.requires.inside arc j).0.1) n
    (subst (λ ns. n ∈ ns) (c.deref.ensures.value ∙ c.in_ok-sources.ensures) i)

pub returns : goal.returns
returns c =
    let ends = c.deref.ensures.value ∙ c.in_ok-sources.ensures in
    only_ok (IsOutside c.args.nodes c.deref.result.now) (IsExit (record { nodes = c.args.nodes; arcs = c.args.edges.now }))
    (λ n. subst (λ ns. IsOutside c.args.nodes ns n ↔ IsExit (record { nodes = c.args.nodes; arcs = c.args.edges.now }) n) (sym ends) (outside_exit (record { nodes = c.args.nodes; arcs = c.args.edges.now }) n))
    c.only_node_without.result c.only_node_without.ensures
