use Rattle.std.proofs.Common.{refl}
use Rattle.qs_lex.specs.Grammar.{plus}
use Rattle.qs_reader.proofs.Steps.{hands_on, token_read, then_read, first_ends}
use Rattle.qs_reader.proofs.Lists.{first_read, next_read, no_more_read, next_ends}
use Rattle.qs_graphtext.specs.working.Readers.{Ends, plains_with}
use Rattle.qs_graphtext.proofs.ChainSteps.{trees_first, trees_next, trees_last}
use Rattle.qs_graphtext.proofs.reading.trees.Goals as goal

pub returns-in_err-first-clause-ends : goal.returns-in_err-first-clause-ends
returns-in_err-first-clause-ends c = hands_on c.from_residual.result (Ends (plains_with plus) c.args.reader.now) c.from_residual.ensures.1 (first_ends c.in_err-first.ensures.ends)

pub loop-reader-init : goal.loop-reader-init
loop-reader-init c = first_read (trees_first c.in_ok-trees.trees.items c.in_ok-at.at.items c.in_ok-trees.ensures.items c.in_ok-at.ensures.items) c.in_ok-first.ensures.read

pub returns-in_err-next-clause-ends : goal.returns-in_err-next-clause-ends
returns-in_err-next-clause-ends c =
    hands_on c.from_residual-in_err-next.result (Ends (plains_with plus) c.args.reader.now) c.from_residual-in_err-next.ensures.1
    (next_ends c.loop-reader.invariant (c.loop-reader-test.ensures.yes refl) c.in_err-next.ensures.ends)

pub loop-reader-preserved : goal.loop-reader-preserved
loop-reader-preserved c =
    next_read (trees_next c.loop-reader.trees.items c.push.new.self.items c.loop-reader.at.items c.push-in-loop-reader.new.self.items c.in_ok-push.ensures.items c.in_ok-push-2.ensures.items)
    c.loop-reader.invariant (then_read (token_read c.loop-reader.names refl (c.loop-reader-test.ensures.yes refl)) c.in_ok-next.ensures.read)

pub returns-clause-read : goal.returns-clause-read
returns-clause-read c = no_more_read trees_last c.loop-reader.invariant (c.loop-reader-test.ensures.no refl)
