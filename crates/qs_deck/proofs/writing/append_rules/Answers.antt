use Rattle.qs_tree.proofs.Kept.{kept-further, on_err}
use Rattle.qs_tree.proofs.Members.{in_read}
use Rattle.qs_graphtext.proofs.Written.{begins}
use Rattle.qs_deck.proofs.writing.append_rules.Goals as goal

pub append_rule-requires : goal.append_rule-requires
append_rule-requires c = c.requires c.rule-item.result (in_read c.args.rules.now c.loop-rule.rule-index c.rule-item.result c.loop-rule-test.true c.rule-item.is)

pub returns-in_err-append_rule-clause-err : goal.returns-in_err-append_rule-clause-err
returns-in_err-append_rule-clause-err c =
    on_err _ (kept-further c.args.out.now.items c.loop-rule.out.items _ (begins c.args.out.now.items _ c.loop-rule.out.items c.loop-rule.invariant) c.in_err-append_rule.ensures.err)
