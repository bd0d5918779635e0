use Rattle.std.proofs.Common.{nat_eq, sym, ◌∙◌}
use Rattle.std.specs.HashMap.{get}
use Rattle.qs_levels.proofs.Greatest.{without_label, without_level, too_low, above_more}
use Rattle.qs_levels.proofs.accepting.are_above.Goals as goal

pub returns-in_default : goal.returns-in_default
returns-in_default c = (
  λ f. absurd cc,
  λ a. absurd (without_label (λ n. get nat_eq c.args.known.now n) c.args.side.now c.loop-pattern.pattern-index c.pattern-item.result c.loop-pattern-test.true c.pattern-item.is (sym c.top_label.ensures ∙ c.in_default.is) a.has),
)

pub returns-in_default-get : goal.returns-in_default-get
returns-in_default-get c = (
  λ f. absurd cc,
  λ a. absurd (without_level (λ n. get nat_eq c.args.known.now n) c.args.side.now c.loop-pattern.pattern-index c.pattern-item.result c.loop-pattern-test.true c.pattern-item.is c.in-Some.label (sym c.top_label.ensures ∙ c.in-Some.is)
      (sym c.in_default-get.ensures.value) a.has),
)

pub returns-then-level-floor : goal.returns-then-level-floor
returns-then-level-floor c = (
  λ f. absurd cc,
  λ a. absurd (too_low (λ n. get nat_eq c.args.known.now n) c.args.side.now c.loop-pattern.pattern-index c.pattern-item.result c.loop-pattern-test.true c.pattern-item.is c.in-Some.label c.in-Some-get.level.now c.args.floor
      (sym c.top_label.ensures ∙ c.in-Some.is) (sym c.in-Some-get.ensures.value) c.if-level-floor.true a),
)

pub loop-pattern-preserved : goal.loop-pattern-preserved
loop-pattern-preserved c =
    above_more (λ n. get nat_eq c.args.known.now n) c.args.side.now c.loop-pattern.pattern-index c.pattern-item.result c.loop-pattern-test.true c.pattern-item.is c.in-Some.label (sym c.top_label.ensures ∙ c.in-Some.is)
    c.in-Some-get.level.now (sym c.in-Some-get.ensures.value) c.args.floor c.if-level-floor.false c.loop-pattern.invariant
