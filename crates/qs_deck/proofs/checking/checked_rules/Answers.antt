use Rattle.qs_graphtext.proofs.GraphsOfChains.{err_is}
use Rattle.qs_deck.specs.working.Checked.{IsFirstRefused}
use Rattle.qs_deck.proofs.CheckSteps.{checked_first, checked_next, refused_next}
use Rattle.qs_deck.proofs.checking.checked_rules.Goals as goal

pub loop-raw-init : goal.loop-raw-init
loop-raw-init c = checked_first c.args.unique c.args.raws.items c.new-rules.result.items c.into_iter-raw-iterator.result.rest.items c.new-rules.ensures.items c.into_iter-raw-iterator.ensures.into_iter_gives.0 c.requires

pub loop-raw-preserved : goal.loop-raw-preserved
loop-raw-preserved c =
    checked_next c.args.unique c.args.raws.items c.loop-raw.rules.items c.push.new.self.items c.loop-raw.raw-iterator.rest.items c.next.new.self.rest.items c.in-Some.raw c.in_ok-rule.rule
    c.in-Some.ensures.steps.0 c.in_ok-rule.ensures.rule c.in_ok-rule.ensures.accepted c.in_ok-push.ensures.items c.loop-raw.invariant

pub returns-in_err-rule-clause-refused : goal.returns-in_err-rule-clause-refused
returns-in_err-rule-clause-refused c =
    err_is (IsFirstRefused c.args.raws.items) c.in_err-rule.field-0.0 c.from_residual.result c.from_residual.ensures.1
    (refused_next c.args.unique c.args.raws.items c.loop-raw.rules.items c.loop-raw.raw-iterator.rest.items c.next.new.self.rest.items c.in-Some.raw c.in_err-rule.field-0.0 c.in-Some.ensures.steps.0 c.loop-raw.invariant c.in_err-rule.ensures.refused)
