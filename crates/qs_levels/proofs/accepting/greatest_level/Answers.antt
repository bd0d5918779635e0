use Rattle.std.proofs.Common.{nat_eq, sym, ◌∙◌}
use Rattle.std.specs.HashMap.{get}
use Rattle.qs_levels.proofs.Greatest.{without_label, without_level, greatest_more}
use Rattle.qs_levels.proofs.accepting.greatest_level.Goals as goal

pub returns-in_default : goal.returns-in_default
returns-in_default c =
    without_label (λ n. get nat_eq c.args.known.now n) c.args.side.now c.loop-pattern.pattern-index c.pattern-item.result c.loop-pattern-test.true c.pattern-item.is (sym c.top_label.ensures ∙ c.in_default.is)

pub returns-in_default-get : goal.returns-in_default-get
returns-in_default-get c =
    without_level (λ n. get nat_eq c.args.known.now n) c.args.side.now c.loop-pattern.pattern-index c.pattern-item.result c.loop-pattern-test.true c.pattern-item.is c.in-Some.label (sym c.top_label.ensures ∙ c.in-Some.is)
    (sym c.in_default-get.ensures.value)

pub loop-pattern-preserved : goal.loop-pattern-preserved
loop-pattern-preserved c =
    greatest_more (λ n. get nat_eq c.args.known.now n) c.args.side.now c.loop-pattern.pattern-index c.pattern-item.result c.loop-pattern-test.true c.pattern-item.is c.in-Some.label (sym c.top_label.ensures ∙ c.in-Some.is)
    c.in-Some-get.level.now (sym c.in-Some-get.ensures.value) c.loop-pattern.greatest c.max-greatest.result c.max-greatest.ensures c.loop-pattern.invariant
