use Rattle.std.proofs.Common.{Some, None, sym, subst}
use Rattle.qs_tree.specs.Lists.{◌∈◌}
use Rattle.qs_graph.specs.Graphs.{IsEntry, IsExit}
use Rattle.qs_graph.specs.Validity.{HasCycle}
use Rattle.qs_graph.proofs.Endpoints.{exactly, graph_kept, lent}
use Rattle.qs_graph.proofs.graph.Graph.new.Goals as goal

pub has_order-requires-clause-inside : goal.has_order-requires-clause-inside
has_order-requires-clause-inside c = λ arc i. c.requires.inside arc (subst (λ arcs. arc ∈ arcs) c.deref.ensures.value i)

pub only_entry-requires-clause-inside : goal.only_entry-requires-clause-inside
only_entry-requires-clause-inside c = λ arc i. c.requires.inside arc (subst (λ arcs. arc ∈ arcs) c.deref-2.ensures.value i)

pub only_exit-requires-clause-inside : goal.only_exit-requires-clause-inside
only_exit-requires-clause-inside c = λ arc i. c.requires.inside arc (subst (λ arcs. arc ∈ arcs) c.deref-3.ensures.value i)

pub returns-in_default-2-clause-refused : goal.returns-in_default-2-clause-refused
returns-in_default-2-clause-refused c = (
  λ cycle. c.in_ok-has_order.ensures.yes c.if-not-branch.false (subst HasCycle (sym c.deref.ensures.value) cycle),
  exactly (IsEntry (record { nodes = c.args.nodes; arcs = c.args.edges.items })) c.in-Some.entry
      (lent IsEntry c.args.nodes c.deref-2.result.now c.args.edges.items c.deref-2.ensures.value c.in_ok-entry.field-0 (Some c.in-Some.entry) c.in-Some.is c.in_ok-entry.ensures),
  lent IsExit c.args.nodes c.deref-3.result.now c.args.edges.items c.deref-3.ensures.value c.in_ok-exit.field-0 None c.in_default-2.is c.in_ok-exit.ensures,
)

pub of_valid-requires : goal.of_valid-requires
of_valid-requires c =
    graph_kept (record { nodes = c.args.nodes; arcs = c.args.edges.items }) c.requires.some c.requires.few c.requires.inside
    (λ cycle. c.in_ok-has_order.ensures.yes c.if-not-branch.false (subst HasCycle (sym c.deref.ensures.value) cycle))
    c.in-Some.entry c.in-Some-2.exit
    (lent IsEntry c.args.nodes c.deref-2.result.now c.args.edges.items c.deref-2.ensures.value c.in_ok-entry.field-0 (Some c.in-Some.entry) c.in-Some.is c.in_ok-entry.ensures)
    (lent IsExit c.args.nodes c.deref-3.result.now c.args.edges.items c.deref-3.ensures.value c.in_ok-exit.field-0 (Some c.in-Some-2.exit) c.in-Some-2.is c.in_ok-exit.ensures)
