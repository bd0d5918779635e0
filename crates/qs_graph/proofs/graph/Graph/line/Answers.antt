use Rattle.std.proofs.Common.{◌≡◌, ◌∷◌, ◌++◌, ◌<◌, ◌+◌, ◌-◌, length, vec_len, arith, ap}
use Rattle.qs_graph.specs.Chains.{chain}
use Rattle.std.proofs.lemmas.Bool.Decides.{nat_tests}
use Rattle.std.proofs.lemmas.Grind.{common_steps}
use Rattle.qs_graph.proofs.Lines.{line_kept}
use Rattle.qs_graph.proofs.Lay.{lay}
use Rattle.qs_graph.proofs.graph.Graph.line.Goals as goal
use Rattle.qs_graph.proofs.graph.Graph.line.Goals.{then-len, else-len}

-- where the new arc ends
last_end : (c : goal.In_ok-push) → length c.next.new.self.rest.items ≡ 0 → c.if-len.end ≡ c.args.to
last_end c h =
    let n = ap (λ ts. length ts) c.in-Some.ensures.steps.0 in
    elim c.if-len.branch [ then-len w ↦ w.end-is | else-len w ↦ absurd (grind (arith, nat_tests, n, c.loop-tree.invariant)) ]

inner_end : (c : goal.In_ok-push) → 0 < length c.next.new.self.rest.items → c.if-len.end ≡ c.loop-tree.next
inner_end c h =
    let n = ap (λ ts. length ts) c.in-Some.ensures.steps.0 in
    elim c.if-len.branch [ then-len w ↦ absurd (grind (arith, nat_tests, n, c.loop-tree.invariant)) | else-len w ↦ w.end-is ]

pub loop-tree-preserved : goal.loop-tree-preserved
loop-tree-preserved c =
    let is = c.in-Some.ensures.steps.0 in
    let n = ap (λ ts. length ts) is in
    let whole = c.loop-tree.invariant.0 in
    let before : c.loop-tree.edges.items ++ chain c.loop-tree.at (c.in-Some.tree ∷ c.next.new.self.rest.items) c.loop-tree.next c.args.to ≡ chain c.args.from c.args.trees.items 3 c.args.to = rw is at whole in (
      rw (c.in_ok-push.ensures.items, c.in_ok-new.ensures) (lay c.loop-tree.edges.items (chain c.args.from c.args.trees.items 3 c.args.to) c.loop-tree.at c.loop-tree.next c.args.to c.if-len.end c.in-Some.tree c.next.new.self.rest.items (last_end c) (inner_end c) before),
      omega (arith, n, c.in_ok-push.ensures.len),
      omega (arith, c.in_ok-push.ensures.len),
    )

pub invariant_of-result : goal.invariant_of-result
invariant_of-result c =
    let arcs : c.loop-tree.edges.items ≡ chain c.args.from c.args.trees.items 3 c.args.to = grind (arith, common_steps) in
    let long : length c.args.trees.items ≡ vec_len c.args.trees = omega (arith, c.args.trees.ok.0) in
    let v = line_kept c.args.from c.args.to c.args.trees.items (omega arith) c.requires.ends c.requires.from_in c.requires.to_in c.requires.few in
    let nodes : c.len-len.result + 1 ≡ 2 + (length c.args.trees.items - 1) = omega arith in
    rw (arcs, nodes) v
