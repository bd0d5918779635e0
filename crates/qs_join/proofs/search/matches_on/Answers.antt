use Rattle.std.proofs.Common.{◌≡◌, ◌∷◌, ◌++◌, [], length, sym, ap, ◌∙◌, arith}
use Rattle.std.proofs.lemmas.Result.{IfOk-weaker}
use Rattle.std.proofs.lemmas.List.{length-map, map-append}
use Rattle.qs_tree.specs.Cells.{tree_of}
use Rattle.qs_pattern.specs.Patterns.{count}
use Rattle.qs_pattern.proofs.PatternLemmas.{count-patterns}
use Rattle.qs_graph.specs.Graphs.{Arc, trees_on}
use Rattle.qs_firing.proofs.TreesOn.{one_tree_more}
use Rattle.qs_match.specs.Apart.{trees_apart}
use Rattle.qs_join.proofs.Matching.{same_sound, same_all}
use Rattle.qs_join.proofs.Standing.{is_arc, whole, length-trees}
use Rattle.qs_join.proofs.search.matches_on.Goals as goal

pub edge-requires : goal.edge-requires
edge-requires c =
    let (a, b, p) = c.requires.path in
    is_arc c.args.search.now.view.now a b c.args.path.now c.loop-arc.arc-index p.leads c.loop-arc-test.true

pub loop-arc-preserved : goal.loop-arc-preserved
loop-arc-preserved c =
    let arcs = c.args.search.now.view.now in
    let tree = c.view.ensures ∙ c.deref.ensures ∙ ap (λ (a : Arc). a.tree) c.behind-search.view_is in
    record {
      are = one_tree_more arcs c.args.path.now c.loop-arc.arc-index c.loop-arc-test.true (trees_apart c.loop-arc.trees.items) c.loop-arc.invariant.are c.edge.result.now (trees_apart c.push.new.self.items) c.edge.ensures
          (ap trees_apart c.in_ok-push.ensures.items ∙ map-append _ c.loop-arc.trees.items (c.view.result ∷ []) ∙ ap (λ t. trees_apart c.loop-arc.trees.items ++ t ∷ []) tree);
    }

pub all_matches_apart-requires-clause-as_many : goal.all_matches_apart-requires-clause-as_many
all_matches_apart-requires-clause-as_many c =
    let arcs = c.args.search.now.view.now in
    let are : trees_apart c.deref-2.result.now ≡ trees_on arcs c.args.path.now =
    ap trees_apart c.deref-2.ensures.value ∙ whole arcs c.args.path.now c.loop-arc.arc-index (trees_apart c.loop-arc.trees.items) (omega (arith, c.loop-arc-test.false)) c.loop-arc.invariant.are in
    let (a, b, p) = c.requires.path in
    sym (length-map c.deref-2.result.now (λ t. tree_of t.cells.now)) ∙ ap length are ∙ length-trees arcs a b c.args.path.now p.leads
    ∙ c.requires.long ∙ sym (ap count c.left.ensures.value) ∙ count-patterns c.left.result.now

pub returns-clause-sound : goal.returns-clause-sound
returns-clause-sound c =
    let arcs = c.args.search.now.view.now in
    let are : trees_apart c.deref-2.result.now ≡ trees_on arcs c.args.path.now =
    ap trees_apart c.deref-2.ensures.value ∙ whole arcs c.args.path.now c.loop-arc.arc-index (trees_apart c.loop-arc.trees.items) (omega (arith, c.loop-arc-test.false)) c.loop-arc.invariant.are in
    IfOk-weaker c.all_matches_apart.result _ _ (λ v h. same_sound _ _ _ _ v.items c.left.ensures.value are h) c.all_matches_apart.ensures.sound

pub returns-clause-all : goal.returns-clause-all
returns-clause-all c =
    let arcs = c.args.search.now.view.now in
    let are : trees_apart c.deref-2.result.now ≡ trees_on arcs c.args.path.now =
    ap trees_apart c.deref-2.ensures.value ∙ whole arcs c.args.path.now c.loop-arc.arc-index (trees_apart c.loop-arc.trees.items) (omega (arith, c.loop-arc-test.false)) c.loop-arc.invariant.are in
    IfOk-weaker c.all_matches_apart.result _ _ (λ v h. same_all _ _ _ _ v.items c.left.ensures.value are h) c.all_matches_apart.ensures.all
