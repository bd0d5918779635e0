use Rattle.std.proofs.Common.{sym, ap, subst, arith}
use Rattle.qs_tree.specs.Cells.{tree_of, trees_of}
use Rattle.qs_pattern.specs.Patterns.{cells}
use Rattle.qs_pattern.proofs.PatternLemmas.{side_node}
use Rattle.qs_match.specs.Fitting.{NeverStandsFor}
use Rattle.qs_match.proofs.Never.{node_root, node_kids}
use Rattle.qs_match.proofs.fitting.+can_stand_for_all.Goals as goal
use Rattle.qs_match.proofs.fitting.+can_stand_for_all.Goals.{then-not-can_be_root-via-then-not-can_be_root, then-not-can_be_root-via-else-not-can_be_root+then-not-can_stand_for_all}

pub can_stand_for_all-requires-else-not-can_be_root :
    goal.can_stand_for_all-requires-else-not-can_be_root
can_stand_for_all-requires-else-not-can_be_root t c =
    let e = side_node c.args.side.now c.first-item.result c.in-Node.head c.in-Node.kids c.deref.result.now c.in-len1-up.len_at_least c.first-item.is c.in-Node.is c.deref.ensures.value in
    (omega (arith, ap cells e), tt)

pub returns-then-not-can_be_root : goal.returns-then-not-can_be_root
returns-then-not-can_be_root t c f =
    elim c.then-not-can_be_root.branch [
      | then-not-can_be_root-via-then-not-can_be_root w ↦
          let e = side_node c.args.side.now c.first-item.result c.in-Node.head c.in-Node.kids c.in-Node.kids.items c.in-len1-up.len_at_least c.first-item.is c.in-Node.is (λ i. c.in-Node.kids.items) in
          subst (λ ps. NeverStandsFor ps (trees_of c.args.trees.cells.now)) (sym e)
          (node_root c.in-Node.head _ _ (tree_of c.in-Some-first_rest.tree.cells.now) (trees_of c.in-Some-first_rest.behind.cells.now) (trees_of c.args.trees.cells.now) c.in-Some-first_rest.ensures.some c.root.result c.root.ensures
          (λ r. let d = w.if-not-can_be_root.true in let k = c.can_be_root.ensures.1 r in cc))
      | then-not-can_be_root-via-else-not-can_be_root+then-not-can_stand_for_all w ↦
          let e = side_node c.args.side.now c.first-item.result c.in-Node.head c.in-Node.kids w.deref.result.now c.in-len1-up.len_at_least c.first-item.is c.in-Node.is w.deref.ensures.value in
          subst (λ ps. NeverStandsFor ps (trees_of c.args.trees.cells.now)) (sym e)
          (node_kids c.in-Node.head _ _ (tree_of c.in-Some-first_rest.tree.cells.now) (trees_of c.in-Some-first_rest.behind.cells.now) (trees_of c.args.trees.cells.now) c.in-Some-first_rest.ensures.some (trees_of w.kids.result.cells.now) w.kids.ensures
          (w.can_stand_for_all-else-not-can_be_root.ensures w.if-not-can_stand_for_all.true))
    ]
