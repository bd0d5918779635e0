use Rattle.std.proofs.Common.{◌≡◌, sym, ◌∙◌, length, arith}
use Rattle.qs_pattern.specs.Patterns.{patterns}
use Rattle.qs_match.specs.working.Counts.{singles}
use Rattle.qs_match.proofs.Sides.{fit_all-is}
use Rattle.qs_match.proofs.counts.lengths_before.Goals as goal

pub returns-then-single-side-clause-some : goal.returns-then-single-side-clause-some
returns-then-single-side-clause-some c n m e f =
    let all : singles (patterns c.args.side.now) ≡ length c.args.side.now = sym c.single_count-single.ensures ∙ c.if-single-side.true in
    let is = fit_all-is c.args.side.now m all f in
    (omega (arith, c.single_count-single.ensures, c.len-count.ensures), omega (arith, c.single_count-single.ensures, c.len-count.ensures))
