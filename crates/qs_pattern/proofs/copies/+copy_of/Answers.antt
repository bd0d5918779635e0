use Rattle.std.proofs.Common.{◌∙◌, ap, sym, map}
use Rattle.std.proofs.lemmas.List.{take_all}
use Rattle.qs_pattern.specs.Patterns.{no_pattern, node_first}
use Rattle.qs_pattern.specs.working.Patterns.{one_pattern}
use Rattle.qs_pattern.proofs.PatternLemmas.{pattern-Node, patterns_from_map}
use Rattle.qs_pattern.proofs.copies.+copy_of.Goals as goal

pub returns-after-loop-kid : goal.returns-after-loop-kid
returns-after-loop-kid t c =
    let items = take_all c.loop-kid.kid-index c.deref-kid-items.result.now c.loop-kid-test.false ∙ c.deref-kid-items.ensures.value in
    let same = patterns_from_map c.loop-kid.copies.items c.in-Node.kids.items (c.loop-kid.invariant ∙ ap (map one_pattern) items) in
    pattern-Node c.in-Node.head c.loop-kid.copies no_pattern
    ∙ ap (λ ts. node_first c.in-Node.head ts no_pattern) same
    ∙ sym (ap one_pattern c.in-Node.is ∙ pattern-Node c.in-Node.head c.in-Node.kids no_pattern)
