use Rattle.std.proofs.Common.{List, nat_eq, refl, subst, arith}
use Rattle.std.specs.Prelude.{MatchOption}
use Rattle.std.specs.HashMap.{get}
use Rattle.std.proofs.lemmas.List.{take_all}
use Rattle.qs_tree.specs.Lists.{◌∈◌}
use Rattle.qs_tree.proofs.Members.{in_read}
use Rattle.qs_pattern.specs.Rules.{Rule, IsAccepted}
use Rattle.qs_levels.specs.working.Accepting.{IsWellFormed, AreLevels, Rises}
use Rattle.qs_levels.proofs.TopLists.{one_more_rule}
use Rattle.qs_levels.proofs.Known.{fits_rises, rises_fits}
use Rattle.qs_levels.proofs.Bound.{closes}
use Rattle.qs_levels.proofs.accepting.accepts.Goals as goal

pub returns-then-not-rises-clause-fits : goal.returns-then-not-rises-clause-fits
returns-then-not-rises-clause-fits c =
    let (w, a) = (subst (λ o. MatchOption o (IsWellFormed c.args.levels.now → ⊥) (λ known. IsWellFormed c.args.levels.now × AreLevels c.args.levels.now.of (λ n. get nat_eq known n))) c.in-Some.is c.in_ok-known.ensures) in (
      (λ f. absurd cc),
      (λ f. c.if-not-rises.ensures.rises.1 (fits_rises c.args.rules.now c.args.levels.now (λ n. get nat_eq c.in-Some.known n) a f c.rule-item.result (in_read c.args.rules.now c.loop-rule.rule-index c.rule-item.result c.loop-rule-test.true c.rule-item.is))),
    )

pub loop-rule-preserved : goal.loop-rule-preserved
loop-rule-preserved c = (
  one_more_rule c.args.rules.now c.loop-rule.rule-index c.rule-item.result c.loop-rule-test.true c.rule-item.is (Rises (λ n. get nat_eq c.in-Some.known n)) c.loop-rule.invariant.0 (c.if-not-rises.ensures.rises.0 refl),
  one_more_rule c.args.rules.now c.loop-rule.rule-index c.rule-item.result c.loop-rule-test.true c.rule-item.is IsAccepted c.loop-rule.invariant.1 c.rises.ensures.accepted,
)

pub returns-clause-fits : goal.returns-clause-fits
returns-clause-fits c =
    let (w, a) = (subst (λ o. MatchOption o (IsWellFormed c.args.levels.now → ⊥) (λ known. IsWellFormed c.args.levels.now × AreLevels c.args.levels.now.of (λ n. get nat_eq known n))) c.in-Some.is c.in_ok-known.ensures) in
    let all = subst (λ (rules : List Rule). (rule : Rule) → rule ∈ rules → Rises (λ n. get nat_eq c.in-Some.known n) rule) (take_all c.loop-rule.rule-index c.args.rules.now (omega arith)) c.loop-rule.invariant.0 in
    ((λ t. rises_fits c.args.rules.now c.args.levels.now (λ n. get nat_eq c.in-Some.known n) a w all), (λ f. refl))

pub returns-clause-bound : goal.returns-clause-bound
returns-clause-bound c = λ t G.
    let (w, a) = (subst (λ o. MatchOption o (IsWellFormed c.args.levels.now → ⊥) (λ known. IsWellFormed c.args.levels.now × AreLevels c.args.levels.now.of (λ n. get nat_eq known n))) c.in-Some.is c.in_ok-known.ensures) in
    let all = subst (λ (rules : List Rule). (rule : Rule) → rule ∈ rules → Rises (λ n. get nat_eq c.in-Some.known n) rule) (take_all c.loop-rule.rule-index c.args.rules.now (omega arith)) c.loop-rule.invariant.0 in
    let accepted = subst (λ (rules : List Rule). (rule : Rule) → rule ∈ rules → IsAccepted rule) (take_all c.loop-rule.rule-index c.args.rules.now (omega arith)) c.loop-rule.invariant.1 in
    closes c.args.rules.now accepted c.args.levels.now (rises_fits c.args.rules.now c.args.levels.now (λ n. get nat_eq c.in-Some.known n) a w all) G
