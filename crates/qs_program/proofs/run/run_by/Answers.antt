use Rattle.std.proofs.Common.{[], sym, refl, subst}
use Rattle.std.proofs.lemmas.List.{append-nil}
use Rattle.qs_program.specs.Defined.{Reads}
use Rattle.qs_program.proofs.Calls.{answer_of_made, nothing_read}
use Rattle.qs_program.proofs.FromTheFirst.{only_memory}
use Rattle.qs_program.proofs.run.run_by.Goals as goal

pub returns-in-Made-clause-headline : goal.returns-in-Made-clause-headline
returns-in-Made-clause-headline g c = λ bytes told. c.tell_made.ensures.headline bytes

pub returns-in-Made-clause-does_job : goal.returns-in-Made-clause-does_job
returns-in-Made-clause-does_job g c =
    let of_made = answer_of_made c.tell_made.result c.tell_made.ensures.kinds in
    record {
      complete = λ bytes told few calm_source calm_sink.
          only_memory c.args.job.now bytes _ _ c.tell_made.result (c.tell_made.ensures.headline bytes) few
          of_made.not_read_fault (λ bad. calm_sink (c.tell_made.ensures.writes.write_fault bad));
      as_given = record { bytes = []; are_given = sym (append-nil _); ends = c.tell_made.ensures.headline [] };
      ended = λ reads whole. absurd (subst Reads c.in-Made.is reads);
      read_to_end = λ reads whole. absurd (subst Reads c.in-Made.is reads);
      nothing_read_by_made = λ made. refl;
      made_answers = λ made. of_made;
    }

pub returns-in-Made-clause-cause : goal.returns-in-Made-clause-cause
returns-in-Made-clause-cause g c =
    let of_made = answer_of_made c.tell_made.result c.tell_made.ensures.kinds in
    nothing_read g.S.Source g.K.Sink _ _ _ c.tell_made.result of_made.not_read_fault of_made.not_too_long c.tell_made.ensures.writes
