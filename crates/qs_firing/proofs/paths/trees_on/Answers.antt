use Rattle.std.proofs.Common.{◌∷◌, ◌++◌, [], sym, ◌∙◌, ap}
use Rattle.std.specs.Option.{option_copied}
use Rattle.qs_graph.specs.Graphs.{Arc}
use Rattle.qs_firing.proofs.TreesOn.{one_tree_more, no_tree_more}
use Rattle.qs_firing.proofs.paths.trees_on.Goals as goal
use Rattle.qs_firing.proofs.paths.trees_on.Goals.{in-Some+in_ok-push, in_default}

pub loop-arc-preserved : goal.loop-arc-preserved
loop-arc-preserved c =
    let arcs = c.args.view.now in
    elim c.match-arc_at.branch [
      | in-Some+in_ok-push w ↦
          let tree = w.view.ensures ∙ w.deref.ensures ∙ ap (λ (a : Arc). a.tree) w.edge.view_is in
          one_tree_more arcs c.args.path.now c.loop-arc.arc-index c.loop-arc-test.true c.loop-arc.trees c.loop-arc.invariant w.in-Some.edge.now c.match-arc_at.trees
          (sym c.arc_at.ensures ∙ ap option_copied w.in-Some.is)
          (w.trees-is ∙ w.in_ok-push.ensures.ok ∙ ap (λ t. c.loop-arc.trees ++ t ∷ []) tree)
      | in_default w ↦
          w.trees-is
          ∙ no_tree_more arcs c.args.path.now c.loop-arc.arc-index c.loop-arc-test.true c.loop-arc.trees c.loop-arc.invariant
          (sym c.arc_at.ensures ∙ ap option_copied w.in_default.is)
    ]
