use Rattle.std.proofs.Common.{rules, subst}
use Rattle.qs_program.specs.Defined.{Reads}
use Rattle.qs_program.proofs.run.read_and_answer.Goals as goal

pub returns-clause-does_job : goal.returns-clause-does_job
returns-clause-does_job g c = record {
  complete = λ bytes told few calm_source calm_sink. search rules;
  as_given = record { bytes = c.in-Ok.bytes.items; are_given = c.in-Ok.ensures.given; ends = search rules };
  ended = λ reads whole. c.in-Ok.ensures.ended;
  read_to_end = λ reads whole. c.in-Ok.ensures.end;
  nothing_read_by_made = λ made. absurd (subst Reads made c.requires.reads);
  made_answers = λ made. absurd (subst Reads made c.requires.reads);
}
