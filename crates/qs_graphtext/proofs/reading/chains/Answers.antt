use Rattle.std.proofs.Common.{refl}
use Rattle.qs_reader.proofs.Steps.{hands_on, first_ends}
use Rattle.qs_reader.proofs.Lists.{first_read, next_read, last_read, member_ends}
use Rattle.qs_graphtext.specs.working.Readers.{Ends, some_chains}
use Rattle.qs_graphtext.proofs.ChainSteps.{chains_first, chains_next, chains_last}
use Rattle.qs_graphtext.proofs.reading.chains.Goals as goal

pub returns-in_err-first-clause-ends : goal.returns-in_err-first-clause-ends
returns-in_err-first-clause-ends c = hands_on c.from_residual.result (Ends some_chains c.args.reader.now) c.from_residual.ensures.1 (first_ends c.in_err-first.ensures.ends)

pub loop-reader-init : goal.loop-reader-init
loop-reader-init c = first_read (chains_first c.in_ok-chains.chains.items c.in_ok-chains.ensures.items) c.in_ok-first.ensures.read

pub returns-in_err-next-clause-ends : goal.returns-in_err-next-clause-ends
returns-in_err-next-clause-ends c =
    hands_on c.from_residual-in_err-next.result (Ends some_chains c.args.reader.now) c.from_residual-in_err-next.ensures.1
    (member_ends c.loop-reader.invariant (c.is_at_mark.ensures.yes c.loop-reader-test.true) refl c.in_err-next.ensures.ends)

pub loop-reader-preserved : goal.loop-reader-preserved
loop-reader-preserved c = next_read (chains_next c.loop-reader.chains.items c.push.new.self.items c.in_ok-push.ensures.items) c.loop-reader.invariant c.in_ok-next.ensures.read

pub returns-clause-read : goal.returns-clause-read
returns-clause-read c = last_read chains_last c.loop-reader.invariant (c.is_at_mark.ensures.no c.loop-reader-test.false)
