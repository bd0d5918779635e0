use Rattle.std.proofs.Common.{◌≡◌, ◌<◌, ℕ, Some, None, slice_get, sym, ap, ◌∙◌, subst, arith}
use Rattle.std.proofs.lemmas.Option.{slice_get_within}
use Rattle.std.proofs.lemmas.List.{take_all}
use Rattle.qs_tree.specs.Lists.{◌∈◌}
use Rattle.qs_join.specs.Heads.{asking_from}
use Rattle.qs_join.proofs.Listing.{one_rule, one_accepted}
use Rattle.qs_pattern.specs.Rules.{Rule}
use Rattle.qs_join.proofs.Below.{below_rule}
use Rattle.qs_join.proofs.heads.Heads.new.Goals as goal

pub loop-number-preserved : goal.loop-number-preserved
loop-number-preserved c =
    let R = c.args.rules.now in
    let n = c.loop-number.number in
    record {
      lists = λ r. one_rule r _ _ n R c.index-rules-number.result c.loop-number-test.true c.index-rules-number.is (c.loop-number.invariant.lists r) (c.in_ok-add_rule.ensures.places r);
      below = below_rule R n c.index-rules-number.result c.loop-number-test.true c.index-rules-number.is _ _ c.loop-number.invariant.below c.in_ok-add_rule.ensures.below;
      accepted = one_accepted R n c.index-rules-number.result c.loop-number-test.true c.index-rules-number.is c.loop-number.invariant.accepted c.in_ok-add_rule.ensures.accepted;
    }

pub returns : goal.returns
returns c =
    let R = c.args.rules.now in
    let x = c.loop-number.invariant in
    let all = take_all c.loop-number.number R c.loop-number-test.false in
    let low : (pair : ℕ × ℕ) (rule : Rule) → slice_get R pair.0 ≡ Some rule → pair.0 < c.loop-number.number = λ pair rule at. omega (arith, slice_get_within R pair.0 rule at, c.loop-number-test.false) in
    record {
      exact = λ l. x.lists (Some l) ∙ ap (asking_from (Some l) 0) all;
      wild = x.lists None ∙ ap (asking_from None 0) all;
      places = x.below.places;
      asking = λ l f pair asks. x.below.asking l f pair (low pair asks.0 asks.1) asks;
      accepted = λ rule i. x.accepted rule (subst (λ rs. rule ∈ rs) (sym all) i);
    }
