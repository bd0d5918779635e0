use Rattle.std.proofs.Common.{refl}
use Rattle.qs_reader.proofs.Steps.{hands_on, first_ends}
use Rattle.qs_reader.proofs.Lists.{first_read, next_read, last_read, member_ends}
use Rattle.qs_deck.specs.working.Readers.{Ends, some_systems}
use Rattle.qs_deck.proofs.Steps.{shallow_on, systems_first, systems_next}
use Rattle.qs_deck.proofs.reading.systems.Goals as goal

pub system-requires-in-loop-reader-clause-shallow : goal.system-requires-in-loop-reader-clause-shallow
system-requires-in-loop-reader-clause-shallow c = shallow_on c.loop-reader.invariant.goes_on.tokens c.requires.shallow

pub returns-in_err-first-clause-ends : goal.returns-in_err-first-clause-ends
returns-in_err-first-clause-ends c = hands_on c.from_residual.result (Ends some_systems c.args.reader.now) c.from_residual.ensures.1 (first_ends c.in_err-first.ensures.ends)

pub loop-reader-init : goal.loop-reader-init
loop-reader-init c = first_read (systems_first c.in_ok-systems.systems.items c.in_ok-systems.ensures.items) c.in_ok-first.ensures.read

pub returns-in_err-next-clause-ends : goal.returns-in_err-next-clause-ends
returns-in_err-next-clause-ends c =
    hands_on c.from_residual-in_err-next.result (Ends some_systems c.args.reader.now) c.from_residual-in_err-next.ensures.1
    (member_ends c.loop-reader.invariant (c.loop-reader-test.ensures.yes refl) refl c.in_err-next.ensures.ends)

pub loop-reader-preserved : goal.loop-reader-preserved
loop-reader-preserved c = next_read (systems_next c.loop-reader.systems.items c.push.new.self.items c.in_ok-push.ensures.items) c.loop-reader.invariant c.in_ok-next.ensures.read

pub returns-clause-read : goal.returns-clause-read
returns-clause-read c = last_read (λ names text ts rest x. x) c.loop-reader.invariant (c.loop-reader-test.ensures.no refl)
