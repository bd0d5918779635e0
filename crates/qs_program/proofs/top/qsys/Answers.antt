use Rattle.std.proofs.Common.{inl, inr, Err, ap, map, subst, sym, ◌∙◌}
use Rattle.std.specs.String.{string_bytes}
use Rattle.qs_command.specs.declared.job.Job.{Job}
use Rattle.qs_command.proofs.ReadWords.{not_both, same_job}
use Rattle.qs_program.specs.Answers.{EndsAsDefined}
use Rattle.qs_program.specs.Calls.{DoesJob}
use Rattle.qs_program.proofs.Calls.{nothing_done, nothing_read}
use Rattle.qs_program.proofs.top.qsys.Goals as goal

-- a job that is read from the words is the one that they give
pub returns-in-Ok-clause-headline : goal.returns-in-Ok-clause-headline
returns-in-Ok-clause-headline g c = λ job is bytes told.
    subst (λ (j : Job). EndsAsDefined j bytes (g.K.Sink.written c.args.sink.now) (g.K.Sink.written c.do_job.new.sink) c.do_job.result)
    (same_job (map string_bytes c.args.words.now) c.in-Ok.job job c.in-Ok.ensures.job is)
    (c.do_job.ensures.headline bytes told)

pub returns-in-Ok-clause-does_job : goal.returns-in-Ok-clause-does_job
returns-in-Ok-clause-does_job g c = λ job is.
    subst (λ (j : Job). DoesJob g.S.Source g.K.Sink j c.args.source.now c.do_job.new.source c.args.sink.now c.do_job.new.sink c.do_job.result)
    (same_job (map string_bytes c.args.words.now) c.in-Ok.job job c.in-Ok.ensures.job is)
    c.do_job.ensures.does_job

pub returns-in-Ok-clause-words : goal.returns-in-Ok-clause-words
returns-in-Ok-clause-words g c = record {
  usage = λ told. absurd (c.do_job.ensures.not_usage told);
  refused_words = λ refused. absurd (not_both (map string_bytes c.args.words.now) c.in-Ok.job c.in-Ok.ensures.job refused);
}

-- words that are refused give no job
pub returns-in-Err-Usage-clause-headline : goal.returns-in-Err-Usage-clause-headline
returns-in-Err-Usage-clause-headline g c = λ job is bytes told. absurd (not_both (map string_bytes c.args.words.now) job is (c.in-Err-Usage.ensures.usage (ap Err c.in-Err-Usage.field-0-is)))

pub returns-in-Err-Usage-clause-does_job : goal.returns-in-Err-Usage-clause-does_job
returns-in-Err-Usage-clause-does_job g c = λ job is. absurd (not_both (map string_bytes c.args.words.now) job is (c.in-Err-Usage.ensures.usage (ap Err c.in-Err-Usage.field-0-is)))

pub returns-in-Err-Usage-clause-words : goal.returns-in-Err-Usage-clause-words
returns-in-Err-Usage-clause-words g c = record {
  usage = λ told. (c.in-Err-Usage.ensures.usage (ap Err c.in-Err-Usage.field-0-is), c.write_usage.ensures.usage.written told);
  refused_words = λ refused. elim c.write_usage.ensures.usage.answers [ inl told ↦ inl told | inr failed ↦ inr (inl failed) ];
}

pub returns-in-Err-Usage-clause-cause : goal.returns-in-Err-Usage-clause-cause
returns-in-Err-Usage-clause-cause g c =
    let answers = c.write_usage.ensures.usage.answers in
    nothing_read g.S.Source g.K.Sink _ _ _ c.write_usage.result
    (λ bad. elim answers [ inl told ↦ let other = sym told ∙ bad in absurd cc | inr failed ↦ let other = sym failed.0 ∙ bad in absurd cc ])
    (λ long. elim answers [ inl told ↦ let other = sym told ∙ long in absurd cc | inr failed ↦ let other = sym failed.0 ∙ long in absurd cc ])
    c.write_usage.ensures.writes

-- no memory
pub returns-in-Err-Memory-clause-does_job : goal.returns-in-Err-Memory-clause-does_job
returns-in-Err-Memory-clause-does_job g c = λ job is. nothing_done g.S.Source g.K.Sink c.args.source.now job c.args.sink.now
