use Rattle.std.proofs.Common.{◌++◌, ◌∷◌, [], sym, ◌∙◌, ap, append_assoc}
use Rattle.qs_pattern.specs.Patterns.{patterns}
use Rattle.qs_check.specs.Cells.{written}
use Rattle.qs_check.proofs.Written.{written_more, written_done, written-Node}
use Rattle.qs_check.proofs.cells.+add_pattern.Goals as goal

pub loop-kid-preserved : goal.loop-kid-preserved
loop-kid-preserved t c =
    written_more c.deref-kid-items.result.now c.loop-kid.kid-index c.kid-item.result c.loop-kid.out.items c.add_pattern.new.out.items
    (c.push.new.self.items ++ written (patterns c.deref-kid-items.result.now)) c.loop-kid-test.true c.kid-item.is c.in_ok-add_pattern-in-Node.ensures c.loop-kid.invariant

pub returns-after-loop-kid : goal.returns-after-loop-kid
returns-after-loop-kid t c =
    let kids = written (patterns c.deref-kid-items.result.now) in
    written_done c.deref-kid-items.result.now c.loop-kid.kid-index c.loop-kid.out.items (c.push.new.self.items ++ kids) c.loop-kid-test.false c.loop-kid.invariant
    ∙ ap (λ cs. cs ++ kids) c.in_ok-push-in-Node.ensures.items
    ∙ append_assoc c.args.out.now.items (c.in-Node.head ∷ []) kids
    ∙ ap (λ ps. c.args.out.now.items ++ (c.in-Node.head ∷ written (patterns ps))) c.deref-kid-items.ensures.value
    ∙ ap (λ cs. c.args.out.now.items ++ cs) (sym (written-Node c.args.pattern.now c.in-Node.head c.in-Node.kids c.in-Node.is))
