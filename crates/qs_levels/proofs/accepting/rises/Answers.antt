use Rattle.std.proofs.Common.{nat_eq, sym, subst}
use Rattle.std.specs.HashMap.{get}
use Rattle.qs_pattern.specs.Patterns.{Patterns}
use Rattle.qs_levels.specs.working.Accepting.{IsGreatestOf, AreAbove}
use Rattle.qs_levels.proofs.Greatest.{rises_above, above_rises}
use Rattle.qs_levels.proofs.accepting.rises.Goals as goal

pub returns-in-Some-clause-rises : goal.returns-in-Some-clause-rises
returns-in-Some-clause-rises c =
    let g : IsGreatestOf (λ n. get nat_eq c.args.known.now n) c.args.rule.now.left c.in-Some.greatest = subst (λ (side : Patterns). IsGreatestOf (λ n. get nat_eq c.args.known.now n) side c.in-Some.greatest) c.left.ensures.value c.in-Some.ensures in (
      (λ t.
          let a : AreAbove (λ n. get nat_eq c.args.known.now n) c.args.rule.now.right c.in-Some.greatest = subst (λ (side : Patterns). AreAbove (λ n. get nat_eq c.args.known.now n) side c.in-Some.greatest) c.right.ensures.value (c.are_above.ensures.0 t) in
          record { left = g.has; right = a.has; rises = rises_above (λ n. get nat_eq c.args.known.now n) c.args.rule.now.left c.args.rule.now.right c.in-Some.greatest g a }),
      (λ r. c.are_above.ensures.1 (subst (λ (side : Patterns). AreAbove (λ n. get nat_eq c.args.known.now n) side c.in-Some.greatest) (sym c.right.ensures.value)
          (above_rises (λ n. get nat_eq c.args.known.now n) c.args.rule.now.left c.args.rule.now.right c.in-Some.greatest c.left.ensures.accepted.left.some g r.right r.rises))),
    )
