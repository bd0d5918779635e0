use Rattle.std.proofs.Common.{arith, ap, sym, subst, IsTrue}
use Rattle.qs_pattern.specs.Patterns.{AreInClass, cells}
use Rattle.qs_pattern.proofs.PatternLemmas.{side_node}
use Rattle.qs_pattern.proofs.in_class.+are_in_class.Goals as goal

pub are_in_class-requires : goal.are_in_class-requires
are_in_class-requires t c =
    let e = side_node c.args.side.now c.first-item.result c.in-Node.head c.in-Node.kids c.deref.result.now c.in-len1-up.len_at_least c.first-item.is c.in-Node.is c.deref.ensures.value in
    (omega (arith, ap cells e), tt)

pub returns-then-not-are_in_class : goal.returns-then-not-are_in_class
returns-then-not-are_in_class t c =
    let e = side_node c.args.side.now c.first-item.result c.in-Node.head c.in-Node.kids c.deref.result.now c.in-len1-up.len_at_least c.first-item.is c.in-Node.is c.deref.ensures.value in
    (λ h. absurd cc, λ a. let k = c.are_in_class.ensures.1 (subst AreInClass e a).1 in cc)

pub returns-else-not-are_in_class : goal.returns-else-not-are_in_class
returns-else-not-are_in_class t c =
    let e = side_node c.args.side.now c.first-item.result c.in-Node.head c.in-Node.kids c.deref.result.now c.in-len1-up.len_at_least c.first-item.is c.in-Node.is c.deref.ensures.value in
    let h : IsTrue c.is_head_in_class.result = cc in
    let k : IsTrue c.are_in_class.result = cc in (
      λ r. subst AreInClass (sym e) (c.is_head_in_class.ensures.0 h, c.are_in_class.ensures.0 k, c.are_in_class-in-Node.ensures.0 r),
      λ a. c.are_in_class-in-Node.ensures.1 (subst AreInClass e a).2,
    )
