use Rattle.std.proofs.Common.{◌≡◌, ◌∙◌, None, arith, codes, sym}
use Rattle.clap.specs.Matches.{first_value, found_of}
use Rattle.qs_deck.specs.Limits.{most_size as most_of_size}
use Rattle.qs_command.specs.Limits.{most_limit, most_workers as most_of_workers, most_readings as most_of_readings}
use Rattle.qs_command.proofs.ReadWords.{job_by_word, job_read, no_job_read}
use Rattle.qs_command.proofs.words.job_in.Goals as goal

pub returns-in_err-get_str-clause-job : goal.returns-in_err-get_str-clause-job
returns-in_err-get_str-clause-job c =
    let word : first_value (found_of c.args.matches.now) (codes "command") ≡ None = sym c.in_err-get_str.ensures in
    c.from_residual.ensures ∙ sym (job_by_word (found_of c.args.matches.now) None word)

pub returns-in_err-command-clause-job : goal.returns-in_err-command-clause-job
returns-in_err-command-clause-job c =
    c.from_residual-in_err-command.ensures
    ∙ sym (no_job_read (found_of c.args.matches.now) c.in_ok-get_str.field-0.now (sym c.in_ok-get_str.ensures) (sym c.in_err-command.ensures))

pub number_in-requires : goal.number_in-requires
number_in-requires c = record { least = 1; most = most_limit; fits = omega arith; number = c.requires.limit }

pub number_in-requires-2 : goal.number_in-requires-2
number_in-requires-2 c = record { least = 1; most = most_of_workers; fits = omega arith; number = c.requires.workers }

pub number_in-requires-3 : goal.number_in-requires-3
number_in-requires-3 c = record { least = 0; most = most_of_size; fits = omega arith; number = c.requires.size }

pub number_in-requires-4 : goal.number_in-requires-4
number_in-requires-4 c = record { least = 1; most = most_of_readings; fits = omega arith; number = c.requires.readings }

pub returns-clause-job : goal.returns-clause-job
returns-clause-job c =
    job_read (found_of c.args.matches.now) c.in_ok-get_str.field-0.now c.in_ok-command.command c.number_in.result c.number_in-2.result c.number_in-3.result c.number_in-4.result
    (sym c.in_ok-get_str.ensures) (sym c.in_ok-command.ensures) c.number_in.ensures.number c.number_in-2.ensures.number c.number_in-3.ensures.number c.number_in-4.ensures.number

pub returns-clause-range : goal.returns-clause-range
returns-clause-range c =
    let limit = c.number_in.ensures.range 1 most_limit (omega arith) c.requires.limit in
    let workers = c.number_in-2.ensures.range 1 most_of_workers (omega arith) c.requires.workers in
    let size = c.number_in-3.ensures.range 0 most_of_size (omega arith) c.requires.size in
    let readings = c.number_in-4.ensures.range 1 most_of_readings (omega arith) c.requires.readings in
    record {
      limit = record { low = limit.0; high = limit.1 };
      least_workers = workers.0;
      most_workers = workers.1;
      most_size = size.1;
      least_readings = readings.0;
      most_readings = readings.1;
    }
