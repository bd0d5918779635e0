use Rattle.std.proofs.Common.{List, None, ap, ◌∙◌, subst}
use Rattle.qs_tree.specs.Lists.{◌∈◌}
use Rattle.qs_tree.specs.declared.cell.Label.{Label}
use Rattle.qs_tree.specs.Trees.{Tree, kids}
use Rattle.qs_graph.specs.Graphs.{Arc}
use Rattle.qs_firing.specs.Firings.{Firing}
use Rattle.qs_join.specs.Heads.{below_of}
use Rattle.qs_join.specs.working.Listing.{first_root_of, narrow_of}
use Rattle.qs_join.specs.working.Searching.{ThroughOne, Finds}
use Rattle.qs_join.proofs.Listing.{are_places}
use Rattle.qs_join.proofs.Work.{narrow_places, are_of_arc}
use Rattle.qs_join.proofs.joining.found_of.Goals as goal

pub find_all-requires-clause-places : goal.find_all-requires-clause-places
find_all-requires-clause-places c = λ pair i. narrow_places c.args.rules.now c.args.heads.now c.requires.heads c.root-root.result c.first_root-first.result pair (subst (λ ps. pair ∈ ps) c.narrow.ensures i)

pub find_all-requires-2-clause-places : goal.find_all-requires-2-clause-places
find_all-requires-2-clause-places c = λ pair i. c.requires.heads.places c.root-root.result None pair (subst (λ ps. pair ∈ ps) c.broad.ensures i)

pub find_all-requires-3-clause-places : goal.find_all-requires-3-clause-places
find_all-requires-3-clause-places c = λ pair i. are_places None c.args.rules.now pair (subst (λ ps. pair ∈ ps) (c.wild.ensures ∙ c.requires.heads.wild) i)

pub returns : goal.returns
returns c =
    let R = c.args.rules.now in
    let arcs = c.args.view.now in
    let heads = c.args.heads.now in
    let m = c.args.newest in
    let tree = c.view-tree.ensures ∙ c.deref.ensures ∙ ap (λ (a : Arc). a.tree) c.behind-view.view_is in
    let root = c.root-root.ensures ∙ ap (λ (t : Tree). t.root) tree in
    let first = c.first_root-first.ensures ∙ ap (λ (t : Tree). first_root_of (kids t)) tree in
    are_of_arc R arcs m heads c.requires.heads c.edge.result.now c.edge.ensures c.narrow.result.now c.broad.result.now c.wild.result.now c.find_all.new.found.items c.find_all-2.new.found.items c.find_all-3.new.found.items
    (c.narrow.ensures ∙ ap (λ (l : Label). narrow_of heads l c.first_root-first.result) root ∙ ap (narrow_of heads c.edge.result.now.tree.root) first)
    (c.broad.ensures ∙ ap (λ (l : Label). below_of heads l None) root)
    (c.wild.ensures ∙ c.requires.heads.wild)
    (subst (λ (fs : List Firing). Finds (ThroughOne R arcs m c.narrow.result.now) fs c.find_all.new.found.items) c.new-found.ensures.items c.in_ok-find_all.ensures.found)
    c.in_ok-find_all-2.ensures.found
    c.in_ok-find_all-3.ensures.found
