use Rattle.std.proofs.Common.{ℕ, List, [], Some, ◌∙◌, ap, arith, map, subst}
use Rattle.std.specs.String.{string_bytes}
use Rattle.qs_io.specs.Standard.{OverReader, OverWriter}
use Rattle.qs_io.specs.TracedSinks.{Traced}
use Rattle.qs_program.specs.Calls.{AnswersWords, TellsReadFaults, TellsWriteFaults}
use Rattle.qs_program.proofs.FromTheFirst.{from_the_first, only_memory, risen}
use Rattle.qs_program.proofs.over.run_over.Goals as goal

pub returns-clause-headline : goal.returns-clause-headline
returns-clause-headline g c = λ job is.
    from_the_first job c.new-source.result.given c.qsys-status.new.source.given c.new-sink.result.taken c.qsys-status.new.sink.taken c.qsys-status.result
    (ap (λ (s : OverReader _). s.given) c.new-source.ensures) (ap (λ (s : Traced _). s.taken) c.new-sink.ensures)
    (c.qsys-status.ensures.does_job job is).as_given

pub returns-clause-ended : goal.returns-clause-ended
returns-clause-ended g c = λ job is reads whole. (c.qsys-status.ensures.does_job job is).ended reads whole

pub returns-clause-nothing_read_by_made : goal.returns-clause-nothing_read_by_made
returns-clause-nothing_read_by_made g c = λ job is made.
    ap (λ (s : OverReader _). s.given) ((c.qsys-status.ensures.does_job job is).nothing_read_by_made made ∙ c.new-source.ensures)

pub returns-clause-made_answers : goal.returns-clause-made_answers
returns-clause-made_answers g c = λ job is made. (c.qsys-status.ensures.does_job job is).made_answers made

pub returns-clause-complete : goal.returns-clause-complete
returns-clause-complete g c = λ job is few no_read_fault no_write_fault.
    let none_read = ap (λ (s : OverReader _). s.faults) c.new-source.ensures in
    let none_written = ap (λ (s : Traced _). s.sink.faults) c.new-sink.ensures ∙ ap (λ (s : OverWriter _). s.faults) c.new.ensures in
    only_memory job c.qsys-status.new.source.given _ _ c.qsys-status.result (returns-clause-headline g c job is) few
    (λ bad. let rose = risen _ _ none_read (c.qsys-status.ensures.cause.reads.read_fault bad) in omega (arith, rose, no_read_fault))
    (λ bad. let rose = risen _ _ none_written (c.qsys-status.ensures.cause.writes.write_fault bad) in omega (arith, rose, no_write_fault))

pub returns-clause-words : goal.returns-clause-words
returns-clause-words g c =
    subst (λ (front : List ℕ). AnswersWords (map string_bytes c.args.words.now) (Some front) (Some c.qsys-status.new.sink.taken) c.qsys-status.result)
    (ap (λ (s : Traced _). s.taken) c.new-sink.ensures) c.qsys-status.ensures.words

pub returns-clause-reads : goal.returns-clause-reads
returns-clause-reads g c =
    subst (λ (before : ℕ). TellsReadFaults before c.qsys-status.new.source.faults [] c.qsys-status.new.source.given c.qsys-status.result)
    (ap (λ (s : OverReader _). s.faults) c.new-source.ensures)
    (subst (λ (front : List ℕ). TellsReadFaults c.new-source.result.faults c.qsys-status.new.source.faults front c.qsys-status.new.source.given c.qsys-status.result)
    (ap (λ (s : OverReader _). s.given) c.new-source.ensures) c.qsys-status.ensures.cause.reads)

pub returns-clause-writes : goal.returns-clause-writes
returns-clause-writes g c =
    subst (λ (before : ℕ). TellsWriteFaults before c.qsys-status.new.sink.sink.faults c.qsys-status.result)
    (ap (λ (s : Traced _). s.sink.faults) c.new-sink.ensures ∙ ap (λ (s : OverWriter _). s.faults) c.new.ensures)
    c.qsys-status.ensures.cause.writes
