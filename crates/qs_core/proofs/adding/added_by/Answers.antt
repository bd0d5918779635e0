use Rattle.std.proofs.Common.{◌+◌, ◌-◌, ◌∙◌, List, length, map, ap, sym, arith}
use Rattle.std.specs.Arc.{arc_value}
use Rattle.std.proofs.lemmas.List.{length-map}
use Rattle.qs_tree.specs.Trees.{Tree}
use Rattle.qs_graph.specs.Chains.{chain}
use Rattle.qs_firing.specs.Firings.{Firing}
use Rattle.qs_firing.specs.Adding.{start_of, end_of}
use Rattle.qs_firing.specs.Work.{WithTrees}
use Rattle.qs_core.proofs.Ends.{adds_chain}
use Rattle.qs_core.proofs.adding.added_by.Goals as goal

pub returns : goal.returns
returns c = λ R unique built.
    let arcs = c.args.arcs.now.arcs in
    let firing = ap (λ (m : WithTrees). m.firing) c.made.view_is in
    let path = ap (λ (f : Firing). f.path) (c.behind-made.view_is ∙ c.deref.ensures ∙ firing) in
    let path2 = ap (λ (f : Firing). f.path) (c.behind-made-2.view_is ∙ c.deref-3.ensures ∙ firing) in
    let from = c.path_start-from.ensures ∙ ap (start_of arcs) (c.deref-2.ensures.value ∙ path) in
    let to = c.path_end-to.ensures ∙ ap (end_of arcs) (c.deref-4.ensures.value ∙ path2) in
    let trees = ap (λ (m : WithTrees). m.trees) c.made.view_is in
    let met_trees = ap (map (λ t. arc_value t)) c.deref-5.ensures.value ∙ trees in
    let laid_trees = ap (map (λ t. arc_value t)) c.deref-6.ensures.value ∙ trees in
    adds_chain R c.args.arcs.now c.args.made.now.firing c.args.unique c.path_start-from.result c.path_end-to.result (map (λ t. arc_value t) c.deref-5.result.now)
    c.len.result (c.len-2.result - 1) c.in_ok-edges.edges.items unique from to (met_trees ∙ built) (sym c.in_default.is ∙ c.met.ensures) c.len.ensures
    (omega (arith, ap (λ (ts : List Tree). length ts) met_trees, ap (λ (ts : List Tree). length ts) trees, length-map c.made.inside.trees.items (λ t. arc_value t), c.len-2.ensures, c.made.inside.trees.ok.0))
    (c.in_ok-edges.ensures
    ∙ (λ i. chain c.path_start-from.result ((laid_trees ∙ sym met_trees) i) (c.nodes.ensures i + 1) c.path_end-to.result))
