-- The words that follow the program's name, and the job that they give. They are read as clap reads the words of one
-- simple command: clap's own definitions say which faults it finds in words (`fault_of`) and what a command's arguments
-- are where it finds none (`matches_of`). What the command is, and what is made of its arguments,
-- is this project's own.
use Rattle.std.specs.Prelude.{◌≡◌, ℕ, ◌≤◌, pos, true, List, [], ◌∷◌, Option, None, Some, codes, if◌then◌else◌}
use Rattle.std.specs.Prelude.{option_and_then, option_map}
use Rattle.std.specs.Option.{option_map_or}
use Rattle.std.specs.Str.{bytes_eq}
use Rattle.std.specs.Str.Parse.{digits_value, without_leading_plus}
use Rattle.clap.specs.Words.{App, Row, Rule, fault_of, first_of, matches_of, new_app, new_rule, one_of, with_rule}
use Rattle.clap.specs.Walk.{is_empty}
use Rattle.clap.specs.Simple.{on_top}
use Rattle.clap.specs.declared.builder.ArgAction.TheVariants.{Set}
use Rattle.clap.specs.declared.builder.value_parser.ValueParser.TheVariants as parser
use Rattle.qs_command.specs.declared.job.Command.{Command}
use Rattle.qs_command.specs.declared.job.Command.TheVariants.{Run, Check, Graph, Made, Explain, Levels, Phrase}
use Rattle.qs_command.specs.declared.job.Job.{Job}
use Rattle.qs_deck.specs.Limits.{most_size as most_of_size}
use Rattle.qs_command.specs.Limits.{IsLimit, most_limit, most_workers as most_of_workers}
use Rattle.qs_command.specs.Limits.{most_readings as most_of_readings}

-- The numbers of a job are in their ranges: a limit, 1 to 32 workers, a size from 0 to 13, and 1 to 1,000 readings.
pub record IsInRange (job : Job) : Type 0 where
  pub limit : IsLimit job.limit
  pub least_workers : 1 ≤ job.workers
  pub most_workers : job.workers ≤ most_of_workers
  pub most_size : job.size ≤ most_of_size
  pub least_readings : 1 ≤ job.readings
  pub most_readings : job.readings ≤ most_of_readings

-- An argument that is one word, without an option before it, and has to be there.
abbrev pub required_word : List ℕ → Rule
required_word name = record (new_rule name) { required = true; action = Some Set }

-- An option with this name, which takes a number between these two,
-- and has the last word's number where it isn't given.
abbrev pub number_option : List ℕ → ℕ → ℕ → List ℕ → Rule
number_option name least most default = record (new_rule name) {
  long = Some name;
  action = Some Set;
  parser = Some (parser.Signed (pos least) (pos most));
  defaults = default ∷ [];
}

-- A command whose words don't begin with the program's name.
abbrev pub without_program : App → App
without_program = on_top (λ shape. record shape { no_binary_name = true })

-- The simple command: the command word, and the options `--limit` (from 1 to 1,000,000, else 10,000), `--workers` (from
-- 1 to 32, else 4), `--size` (from 0 to 13, else 8) and `--readings` (from 1 to 1,000, else 10).
unfoldable pub simple_command : App
simple_command =
    with_rule
    (with_rule
    (with_rule (with_rule (with_rule (without_program (new_app (codes "qsys"))) (required_word (codes "command")))
    (number_option (codes "limit") 1 most_limit (codes "10000")))
    (number_option (codes "workers") 1 most_of_workers (codes "4")))
    (number_option (codes "size") 0 most_of_size (codes "8")))
    (number_option (codes "readings") 1 most_of_readings (codes "10"))

-- The command that a command word names: a line for each one that is known.
abbrev pub command_of : List ℕ → Option Command
command_of word =
    if bytes_eq word (codes "run") then Some Run
    else if bytes_eq word (codes "check") then Some Check
    else if bytes_eq word (codes "graph") then Some Graph
    else if bytes_eq word (codes "made") then Some Made
    else if bytes_eq word (codes "explain") then Some Explain
    else if bytes_eq word (codes "levels") then Some Levels
    else if bytes_eq word (codes "phrase") then Some Phrase
    else None

-- The number that the option of this name has among the arguments, in decimal.
abbrev pub number_in : List Row → List ℕ → ℕ
number_in arguments name = option_map_or (λ text. digits_value 10 (without_leading_plus text)) (one_of name arguments) 0

-- The job of these arguments, with this command.
abbrev pub job_with : List Row → Command → Job
job_with arguments command = record {
  command = command;
  limit = number_in arguments (codes "limit");
  workers = number_in arguments (codes "workers");
  size = number_in arguments (codes "size");
  readings = number_in arguments (codes "readings");
}

-- The job of these arguments: none where the command word isn't one that is known.
abbrev pub job_in : List Row → Option Job
job_in arguments = option_map (job_with arguments) (option_and_then command_of (first_of (codes "command") arguments))

-- The job of these words: none where clap defines a fault for them or the command word isn't one that is known.
unfoldable pub job_of : List (List ℕ) → Option Job
job_of words = if is_empty (fault_of simple_command words) then job_in (matches_of simple_command words) else None

-- The words give this job.
abbrev pub IsJobOf : List (List ℕ) → Job → Type 0
IsJobOf words job = job_of words ≡ Some job

-- The words are refused: they give no job.
abbrev pub AreRefused : List (List ℕ) → Type 0
AreRefused words = job_of words ≡ None
