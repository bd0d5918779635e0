use Rattle.std.proofs.Common.{refl, ap, ◌∙◌}
use Rattle.qs_lex.specs.Grammar.{part}
use Rattle.qs_pattern.specs.Patterns.{patterns}
use Rattle.qs_reader.proofs.Steps.{hands_on, token_read, then_read, part_read, part_ends, first_ends}
use Rattle.qs_reader.proofs.Lists.{first_read, next_read, no_more_read, next_ends}
use Rattle.qs_ruletext.specs.Grammar.{side}
use Rattle.qs_ruletext.specs.working.Readers.{Ends}
use Rattle.qs_ruletext.proofs.Growing.{patterns_push, side_first, side_next, side_last}
use Rattle.qs_ruletext.proofs.sides.side.Goals as goal

pub returns-in_err-first-clause-ends : goal.returns-in_err-first-clause-ends
returns-in_err-first-clause-ends c = hands_on c.from_residual.result (Ends (part side) c.args.reader.now) c.from_residual.ensures.1 (part_ends (first_ends c.in_err-first.ensures.ends))

pub loop-reader-init : goal.loop-reader-init
loop-reader-init c = first_read (side_first (patterns c.in_ok-trees.trees.items) (ap patterns c.in_ok-trees.ensures.items)) c.in_ok-first.ensures.read

pub returns-in_err-next-clause-ends : goal.returns-in_err-next-clause-ends
returns-in_err-next-clause-ends c =
    hands_on c.from_residual-in_err-next.result (Ends (part side) c.args.reader.now) c.from_residual-in_err-next.ensures.1
    (part_ends (next_ends c.loop-reader.invariant (c.loop-reader-test.ensures.yes refl) c.in_err-next.ensures.ends))

pub loop-reader-preserved : goal.loop-reader-preserved
loop-reader-preserved c =
    next_read (side_next (patterns c.loop-reader.trees.items) (patterns c.push.new.self.items) (ap patterns c.in_ok-push.ensures.items ∙ patterns_push c.loop-reader.trees.items c.in_ok-next.next))
    c.loop-reader.invariant (then_read (token_read c.loop-reader.names refl (c.loop-reader-test.ensures.yes refl)) c.in_ok-next.ensures.read)

pub returns-clause-read : goal.returns-clause-read
returns-clause-read c = part_read (no_more_read side_last c.loop-reader.invariant (c.loop-reader-test.ensures.no refl))
