use Rattle.std.proofs.Common.{◌≡◌, ◌∙◌, ap, sym}
use Rattle.clap.specs.Values.{kind_of}
use Rattle.clap.specs.declared.error.kind.ErrorKind.TheVariants.{OutOfMemory}
use Rattle.qs_command.proofs.CommandLemmas.{has_numbers}
use Rattle.qs_command.proofs.ReadWords.{answered, job_refused, job_taken}
use Rattle.qs_command.proofs.words.read_words.Goals as goal

pub job_in-requires : goal.job_in-requires
job_in-requires c = has_numbers c.in_ok-command.command c.in_ok-command.ensures c.in-Ok.matches c.in-Ok.ensures.parsed

pub returns-in-Ok-clause-job : goal.returns-in-Ok-clause-job
returns-in-Ok-clause-job c =
    (answered _ c.job_in.result c.ok_or.result
    (job_taken c.in_ok-command.command _ c.in-Ok.matches c.in_ok-command.ensures c.in-Ok.ensures.matches c.in-Ok.ensures.kinds ∙ sym c.job_in.ensures.job)
    c.ok_or.ensures.value).0

pub returns-in-Ok-clause-usage : goal.returns-in-Ok-clause-usage
returns-in-Ok-clause-usage c =
    (answered _ c.job_in.result c.ok_or.result
    (job_taken c.in_ok-command.command _ c.in-Ok.matches c.in_ok-command.ensures c.in-Ok.ensures.matches c.in-Ok.ensures.kinds ∙ sym c.job_in.ensures.job)
    c.ok_or.ensures.value).1

pub returns-in-Err-2-clause-usage : goal.returns-in-Err-2-clause-usage
returns-in-Err-2-clause-usage c =
    let same : c.in-Err.error ≡ c.in-Err-2.field-0 = cc (c.in-Err.is, c.in-Err-2.is) in
    λ _. job_refused c.in_ok-command.command _ c.in-Err-2.field-0 c.in_ok-command.ensures
    (λ memory.
    let kind : c.kind.result ≡ OutOfMemory = c.kind.ensures ∙ ap kind_of same ∙ memory in
    let is_memory = rw kind at c.eq.ensures in
    cc (is_memory, c.if-eq.false))
    c.in-Err-2.ensures.kinds
