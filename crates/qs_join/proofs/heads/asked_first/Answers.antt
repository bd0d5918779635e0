use Rattle.std.proofs.Common.{List, sym, ap, ◌∙◌, slice_get}
use Rattle.qs_pattern.specs.declared.pattern.Pattern.{Pattern}
use Rattle.qs_pattern.specs.Patterns.{no_pattern, pattern_before}
use Rattle.qs_pattern.proofs.PatternLemmas.{pattern-Node}
use Rattle.qs_join.proofs.Below.{first_pattern, no_first}
use Rattle.qs_join.proofs.heads.asked_first.Goals as goal

pub returns-in-Some : goal.returns-in-Some
returns-in-Some c =
    let e = ap (λ (p : Pattern). pattern_before p no_pattern) c.in-Node.is ∙ pattern-Node c.in-Node.head c.in-Node.kids no_pattern in
    c.asked_root.ensures ∙ sym (first_pattern c.args.pattern.now c.in-Node.head c.in-Node.kids.items c.in-Some.first.now e
    (ap (λ (qs : List Pattern). slice_get qs 0) (sym c.deref.ensures.value) ∙ sym c.in-Some.ensures.value))

pub returns-in-None : goal.returns-in-None
returns-in-None c =
    let e = ap (λ (p : Pattern). pattern_before p no_pattern) c.in-Node.is ∙ pattern-Node c.in-Node.head c.in-Node.kids no_pattern in
    sym (no_first c.args.pattern.now c.in-Node.head c.in-Node.kids.items e
    (ap (λ (qs : List Pattern). slice_get qs 0) (sym c.deref.ensures.value) ∙ sym c.in-None.ensures.value))
