use Rattle.qs_telling.specs.Summaries.{summary}
use Rattle.qs_telling.specs.Ends.{left_of}
use Rattle.qs_program.proofs.MadeEnds.{made_defined, written_ends}
use Rattle.qs_program.proofs.run.tell_made.Goals as goal

pub returns-clause-headline : goal.returns-clause-headline
returns-clause-headline g c = λ bytes.
    written_ends c.args.job.now bytes _ _ c.write_text.result c.summary.result (summary c.args.job.now.limit c.args.job.now.size (left_of c.in-Ok.end)) c.status_of-status.result
    c.status_of-status.ensures.kinds (made_defined c.args.job.now bytes c.in-Ok.end c.status_of-status.result c.requires.command c.in-Ok.ensures c.status_of-status.ensures.value)
    c.summary.ensures c.write_text.ensures.written
