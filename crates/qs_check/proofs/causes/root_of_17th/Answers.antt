use Rattle.std.proofs.Common.{◌≡◌, length, take, ap, arith}
use Rattle.qs_pattern.specs.Limits.{most_patterns}
use Rattle.qs_pattern.specs.Patterns.{patterns}
use Rattle.qs_check.specs.Cells.{written}
use Rattle.qs_pattern.proofs.PatternLemmas.{count-patterns}
use Rattle.qs_check.proofs.Sides.{has_17th}
use Rattle.qs_check.proofs.causes.root_of_17th.Goals as goal

pub returns-then-side-le-MOST_PATTERNS : goal.returns-then-side-le-MOST_PATTERNS
returns-then-side-le-MOST_PATTERNS c = omega (arith, count-patterns c.args.side.now, c.if-side-le-MOST_PATTERNS.true)

pub returns : goal.returns
returns c =
    let long : length c.in_ok-before.before.items ≡ length (written (patterns (take most_patterns c.args.side.now))) = ap length c.in_ok-before.ensures in
    has_17th c.args.side.now c.len.result (omega (arith, c.if-side-le-MOST_PATTERNS.false)) (omega (arith, long, c.len.ensures, c.in_ok-before.before.ok.0))
