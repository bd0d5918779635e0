use Rattle.std.proofs.Common.{◌≡◌, ◌∷◌, ◌++◌, ◌<◌, ◌+◌, ◌∙◌, List, [], drop, length, map, ap, subst, arith}
use Rattle.std.specs.Arc.{arc_value}
use Rattle.std.proofs.lemmas.Bool.Decides.{nat_tests}
use Rattle.qs_tree.specs.Trees.{Tree}
use Rattle.qs_tree.proofs.Members.{at_place}
use Rattle.qs_graph.specs.Graphs.{Arc}
use Rattle.qs_graph.specs.Chains.{chain}
use Rattle.qs_graph.proofs.Lay.{lay}
use Rattle.qs_core.proofs.Least.{mapped_drop, length-left}
use Rattle.qs_core.proofs.arcs.chain_of.Goals as goal
use Rattle.qs_core.proofs.arcs.chain_of.Goals.{then-len-trees, else-len-trees}

-- where the new arc ends
last_end : (c : goal.In_ok-push) → length (map (λ t. arc_value t) (drop (c.loop-tree.tree-index + 1) c.args.trees.now)) ≡ 0 → c.if-len-trees.end ≡ c.args.to
last_end c h =
    let n = length-left (λ t. arc_value t) c.args.trees.now (c.loop-tree.tree-index + 1) in
    elim c.if-len-trees.branch [ then-len-trees w ↦ w.end-is | else-len-trees w ↦ absurd (grind (arith, nat_tests, n, h, c.loop-tree.invariant.1, c.loop-tree-test.true)) ]

inner_end : (c : goal.In_ok-push) → 0 < length (map (λ t. arc_value t) (drop (c.loop-tree.tree-index + 1) c.args.trees.now)) → c.if-len-trees.end ≡ c.loop-tree.node + 1
inner_end c h =
    let n = length-left (λ t. arc_value t) c.args.trees.now (c.loop-tree.tree-index + 1) in
    elim c.if-len-trees.branch [ then-len-trees w ↦ absurd (grind (arith, nat_tests, n, h, c.loop-tree.invariant.1, c.loop-tree-test.true)) | else-len-trees w ↦ w.end-is ]

pub loop-tree-preserved : goal.loop-tree-preserved
loop-tree-preserved c =
    let i = c.loop-tree.tree-index in
    let at = at_place c.args.trees.now i c.tree-item.result c.loop-tree-test.true c.tree-item.is in
    let rest : List Tree = map (λ t. arc_value t) (drop (i + 1) c.args.trees.now) in
    let all : List Arc = chain c.args.from (map (λ t. arc_value t) c.args.trees.now) (c.args.last + 1) c.args.to in
    let is = mapped_drop (λ t. arc_value t) c.args.trees.now i c.tree-item.result at in
    let before : c.loop-tree.edges.items ++ chain c.loop-tree.at (arc_value c.tree-item.result ∷ rest) (c.loop-tree.node + 1) c.args.to ≡ all =
    subst (λ (ts : List Tree). c.loop-tree.edges.items ++ chain c.loop-tree.at ts (c.loop-tree.node + 1) c.args.to ≡ all) is c.loop-tree.invariant.0 in
    let one : c.push.new.self.items ≡ c.loop-tree.edges.items ++ record { from = c.loop-tree.at; to = c.if-len-trees.end; tree = arc_value c.tree-item.result } ∷ [] =
    c.in_ok-push.ensures.items ∙ ap (λ (t : Tree). c.loop-tree.edges.items ++ record { from = c.loop-tree.at; to = c.if-len-trees.end; tree = t } ∷ []) c.in_ok-tree.ensures in (
      ap (λ (xs : List Arc). xs ++ chain c.if-len-trees.end rest (c.loop-tree.node + 1 + 1) c.args.to) one
          ∙ lay c.loop-tree.edges.items all c.loop-tree.at (c.loop-tree.node + 1) c.args.to c.if-len-trees.end (arc_value c.tree-item.result) rest (last_end c) (inner_end c) before,
      omega (arith, c.in_ok-push.ensures.len, c.loop-tree.invariant.1),
      omega (arith, c.loop-tree.invariant.2),
    )
