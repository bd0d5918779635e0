use Rattle.std.proofs.Common.{◌≡◌, sym, ◌∙◌, eq-eqb, length, arith}
use Rattle.std.proofs.lemmas.Bool.{eqb-true, leb-true, le-leb}
use Rattle.qs_pattern.specs.Patterns.{patterns}
use Rattle.qs_match.specs.working.Counts.{singles}
use Rattle.qs_match.proofs.Sides.{fit_all, fit_all-is, fit_some}
use Rattle.qs_match.proofs.counts.can_fit.Goals as goal

pub returns-then-single-side : goal.returns-then-single-side
returns-then-single-side c =
    let single = c.single_count-single.ensures in
    let count = c.len.ensures in
    let all : singles (patterns c.args.side.now) ≡ length c.args.side.now = sym single ∙ c.if-single-side.true in (
      λ h. fit_all c.args.side.now _ all (sym count ∙ eqb-true c.len.result c.single_count-single.result h ∙ single),
      λ f. eq-eqb c.len.result c.single_count-single.result (count ∙ fit_all-is c.args.side.now _ all f ∙ sym single),
    )

pub returns-else-single-side : goal.returns-else-single-side
returns-else-single-side c =
    let single = c.single_count-single.ensures in
    let count = c.len-else-single-side.ensures in (
      λ h.
          let l = leb-true c.single_count-single.result c.len-else-single-side.result h in
          fit_some c.args.side.now _ (λ e. c.if-single-side.false (single ∙ e)) (omega arith),
      λ f. let l = f.least in le-leb c.single_count-single.result c.len-else-single-side.result (omega arith),
    )
