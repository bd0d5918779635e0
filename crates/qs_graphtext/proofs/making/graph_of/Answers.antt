use Rattle.std.proofs.Common.{◌≡◌, ◌≤◌, [], length, sym, subst, ap, ◌∙◌, arith}
use Rattle.std.specs.List.Sorted.{IsStrictlyIncreasing}
use Rattle.qs_graph.specs.Limits.{most_read_arcs}
use Rattle.qs_graph.specs.Graphs.{QGraph}
use Rattle.qs_graph.specs.Validity.{LeadsInside}
use Rattle.qs_graphtext.specs.GraphOfChains.{trees_in, numbers_in, with_chains, AreFew, AreRefused}
use Rattle.qs_graphtext.specs.Causes.{end_of}
use Rattle.qs_graphtext.proofs.LayingSteps.{number_by}
use Rattle.qs_graphtext.proofs.GraphsOfChains.{laid_is, laid_inside, arcs_laid, numbers_few, trees_some, refused_by, err_is, same_numbers}
use Rattle.qs_graphtext.proofs.making.graph_of.Goals as goal

pub lay-requires-clause-few : goal.lay-requires-clause-few
lay-requires-clause-few c =
    let few : length (trees_in c.args.chains.items) ≤ most_read_arcs = subst AreFew c.deref.ensures.value c.in_default.ensures.none in
    let numbers = numbers_few c.args.chains.items c.requires.whole in
    let same = ap (λ chains. length (numbers_in chains)) c.deref-2.ensures.value in
    omega (arith, few, numbers, same, c.in_ok-nodes.ensures.few, ap length c.deref-3.ensures.value)

pub new-requires-clause-some : goal.new-requires-clause-some
new-requires-clause-some c =
    let some = trees_some c.args.chains.items c.requires.some c.requires.whole in
    let arcs : length c.in_ok-laid.laid.edges.items ≡ length (with_chains (number_by c.deref-3.result.now) (record { nodes = length c.deref-3.result.now; arcs = [] }) c.args.chains.items).arcs =
    ap (λ (G : QGraph). length G.arcs) c.in_ok-laid.ensures in
    omega (arith, some, arcs, arcs_laid (number_by c.deref-3.result.now) (record { nodes = length c.deref-3.result.now; arcs = [] }) c.args.chains.items)

pub new-requires-clause-few : goal.new-requires-clause-few
new-requires-clause-few c =
    let few : length (trees_in c.args.chains.items) ≤ most_read_arcs = subst AreFew c.deref.ensures.value c.in_default.ensures.none in
    let arcs : length c.in_ok-laid.laid.edges.items ≡ length (with_chains (number_by c.deref-3.result.now) (record { nodes = length c.deref-3.result.now; arcs = [] }) c.args.chains.items).arcs =
    ap (λ (G : QGraph). length G.arcs) c.in_ok-laid.ensures in
    omega (arith, few, arcs, arcs_laid (number_by c.deref-3.result.now) (record { nodes = length c.deref-3.result.now; arcs = [] }) c.args.chains.items)

pub new-requires-clause-inside : goal.new-requires-clause-inside
new-requires-clause-inside c =
    let rises = subst IsStrictlyIncreasing (sym c.deref-3.ensures.value) c.in_ok-nodes.ensures.rises in
    let members = same_numbers c.deref-3.result.now c.in_ok-nodes.nodes.items c.deref-2.result.now c.args.chains.items c.deref-3.ensures.value c.deref-2.ensures.value c.in_ok-nodes.ensures.members in
    subst LeadsInside (sym c.in_ok-laid.ensures) (laid_inside c.args.chains.items c.deref-3.result.now rises members)

pub returns-in_err-graph-clause-refused : goal.returns-in_err-graph-clause-refused
returns-in_err-graph-clause-refused c =
    let few : AreFew c.args.chains.items = subst AreFew c.deref.ensures.value c.in_default.ensures.none in
    let rises = subst IsStrictlyIncreasing (sym c.deref-3.ensures.value) c.in_ok-nodes.ensures.rises in
    let members = same_numbers c.deref-3.result.now c.in_ok-nodes.nodes.items c.deref-2.result.now c.args.chains.items c.deref-3.ensures.value c.deref-2.ensures.value c.in_ok-nodes.ensures.members in
    err_is (AreRefused c.args.chains.items) (end_of c.in_err-graph.field-0.0) c.from_residual-in_err-graph.result c.from_residual-in_err-graph.ensures.1
    (refused_by c.args.chains.items (record { nodes = c.in_ok-laid.laid.nodes; arcs = c.in_ok-laid.laid.edges.items }) c.in_err-graph.field-0.0 few
    (c.in_ok-laid.ensures ∙ laid_is c.args.chains.items c.deref-3.result.now rises members) c.in_err-graph.ensures.refused)

pub returns-clause-graph : goal.returns-clause-graph
returns-clause-graph c =
    let rises = subst IsStrictlyIncreasing (sym c.deref-3.ensures.value) c.in_ok-nodes.ensures.rises in
    let members = same_numbers c.deref-3.result.now c.in_ok-nodes.nodes.items c.deref-2.result.now c.args.chains.items c.deref-3.ensures.value c.deref-2.ensures.value c.in_ok-nodes.ensures.members in
    c.in_ok-graph.ensures.graph ∙ c.in_ok-laid.ensures ∙ laid_is c.args.chains.items c.deref-3.result.now rises members
