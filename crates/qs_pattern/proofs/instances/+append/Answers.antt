use Rattle.std.proofs.Common.{◌++◌, ◌∷◌, [], ap, ◌∙◌, sym, subst, refl, rules}
use Rattle.qs_tree.specs.Trees.{node}
use Rattle.qs_tree.proofs.Kept.{on_ok}
use Rattle.qs_pattern.specs.Patterns.{patterns}
use Rattle.qs_pattern.specs.Instances.{inst, label_of, IsCovered}
use Rattle.qs_pattern.specs.declared.pattern.Pattern.TheFolds.{the_lemmas}
use Rattle.qs_pattern.proofs.InstanceLemmas.{inst-Node, covered_kids, covered_here, inst_more, inst_done}
use Rattle.qs_pattern.proofs.instances.+append.Goals as goal

pub loop-kid-init : goal.loop-kid-init
loop-kid-init t c =
    let s = c.args.subst.now in
    record {
      trees = refl;
      covered =
          subst (λ ps. IsCovered s (patterns ps)) (sym c.deref-kid-items.ensures.value)
          (covered_kids s c.in-Node.head c.in-Node.kids _ c.in-Node.is c.requires);
    }

pub append-requires : goal.append-requires
append-requires t c = (
  search (rules, the_lemmas),
  (covered_here c.args.subst.now c.deref-kid-items.result.now c.loop-kid.kid-index c.kid-item.result c.loop-kid-test.true c.kid-item.is c.loop-kid.invariant.covered).0,
)

pub loop-kid-preserved : goal.loop-kid-preserved
loop-kid-preserved t c =
    record {
      trees = inst_more c.args.subst.now c.deref-kid-items.result.now c.loop-kid.kid-index c.kid-item.result c.loop-kid-test.true c.kid-item.is _ _ _ c.in_ok-append-in-Node.ensures c.loop-kid.invariant.trees;
      covered = (covered_here c.args.subst.now c.deref-kid-items.result.now c.loop-kid.kid-index c.kid-item.result c.loop-kid-test.true c.kid-item.is c.loop-kid.invariant.covered).1;
    }

pub put_under-requires : goal.put_under-requires
put_under-requires t c =
    let s = c.args.subst.now in (
      c.args.out.now,
      inst s (patterns c.deref-kid-items.result.now),
      inst_done s c.deref-kid-items.result.now c.loop-kid.kid-index _ _ c.loop-kid-test.false c.loop-kid.invariant.trees,
      c.nodes-before.ensures,
    )

pub returns-after-loop-kid : goal.returns-after-loop-kid
returns-after-loop-kid t c =
    let s = c.args.subst.now in
    let kids = c.deref-kid-items.result.now in
    let below = inst_done s kids c.loop-kid.kid-index _ _ c.loop-kid-test.false c.loop-kid.invariant.trees in
    let one =
    ap (λ l. node l (inst s (patterns kids)) ∷ []) c.root_label.ensures
    ∙ ap (λ ps. node (label_of s c.in-Node.head) (inst s (patterns ps)) ∷ []) c.deref-kid-items.ensures.value
    ∙ sym (inst-Node s c.in-Node.head c.in-Node.kids _ c.in-Node.is)
    in
    on_ok c.put_under.result
    (λ under. under c.args.out.now (inst s (patterns kids)) below c.nodes-before.ensures ∙ ap (λ ts. c.args.out.now ++ ts) one)
    c.put_under.ensures.ok
