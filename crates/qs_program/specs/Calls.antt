-- What several calls of the program promise alike, of the answer and of a source and a sink before the call and behind
-- it. Each fact stands here once, as a field with a name of its own. This project's own.
use Rattle.std.specs.Prelude.{◌≡◌, ◌≢◌, ◌⊎◌, ◌↔◌, ℕ, ◌+◌, ◌≤◌, List, length, Option, Some}
use Rattle.std.specs.Io.KnownBytes.{IsAtEnd, append_known}
use Rattle.qs_io.specs.declared.device.Source.{Ghosts as SourceFacts}
use Rattle.qs_io.specs.declared.device.Sink.{Ghosts as SinkFacts}
use Rattle.qs_io.specs.Devices.{AppendsProperPrefix, Gives, HasRisen, TakesBytes}
use Rattle.qs_io.specs.Limits.{most_text_bytes}
use Rattle.qs_command.specs.declared.job.Job.{Job}
use Rattle.qs_command.specs.declared.job.Command.TheVariants.{Made}
use Rattle.qs_command.specs.declared.status.Status.{Status}
use Rattle.qs_command.specs.declared.status.Status.TheVariants.{Usage, Refused, ReadFault, TooLong, WriteFault, Memory}
use Rattle.qs_command.specs.Words.{AreRefused}
use Rattle.qs_program.specs.Usage.{usage_line}
use Rattle.qs_program.specs.Defined.{Reads}
use Rattle.qs_program.specs.Answers.{EndsAsGiven, IsOfWholeText, WritesDefined}

-- By a sink's count of faults before a call and behind it: the sink failed exactly where the answer says so.
pub record TellsWriteFaults (before behind : ℕ) (status : Status) : Type 0 where
  -- this answer comes only where the sink failed
  pub write_fault : status ≡ WriteFault → HasRisen before behind
  -- so where a whole text was written, the usage line or another, no fault was counted
  pub no_write_fault : status ≢ WriteFault → behind ≡ before
  -- the count never falls
  pub sink_count : before ≤ behind

-- By a source's count of faults and by what it has given, before a call and behind it: it failed exactly where the
-- answer says so, and gave too many bytes exactly where the answer says so.
pub record TellsReadFaults (before behind : ℕ) (given given' : List ℕ) (status : Status) : Type 0 where
  -- this answer comes only where the source failed
  pub read_fault : status ≡ ReadFault → HasRisen before behind
  -- with every other answer no fault was counted
  pub no_read_fault : status ≢ ReadFault → behind ≡ before
  -- the count never falls
  pub source_count : before ≤ behind
  -- at most one byte more than a text may have is given, and a text is too long exactly where it is
  pub gives : Gives given given' (most_text_bytes + 1) (status ≡ TooLong)

-- Why an answer comes that is no whole text, and what was done with the source and the sink then.
pub record HasCause {X Y : Type 0} (S : SourceFacts X) (K : SinkFacts Y) (source source' : X) (sink sink' : Y)
    (status : Status) : Type 0 where
  pub reads : TellsReadFaults (S.faults source) (S.faults source') (S.given source) (S.given source') status
  pub writes : TellsWriteFaults (K.faults sink) (K.faults sink') status
  -- at most one byte more than a text may have is taken from what was left, and a text is too long exactly where it is
  pub too_long : (n : ℕ) × TakesBytes (S.left source) (S.left source') n × (n ≤ most_text_bytes + 1)
      × (status ≡ TooLong ↔ (n ≡ most_text_bytes + 1))
  -- where the source failed or has too many bytes, nothing is written
  pub nothing_written : (status ≡ ReadFault) ⊎ (status ≡ TooLong) → K.written sink' ≡ K.written sink

-- The answers that the command `made` can have: it reads nothing, so it is never answered as if it had.
pub record IsAnswerOfMade (status : Status) : Type 0 where
  pub not_refused : status ≢ Refused
  pub not_read_fault : status ≢ ReadFault
  pub not_too_long : status ≢ TooLong

-- A job was done, from a source to a sink.
pub record DoesJob {X Y : Type 0} (S : SourceFacts X) (K : SinkFacts Y) (job : Job) (source source' : X)
    (sink sink' : Y) (status : Status) : Type 0 where
  -- with no fault and not too many bytes, only memory can be wanting
  pub complete : (bytes : List ℕ) → S.left source ≡ Some bytes → length bytes ≤ most_text_bytes
      → ¬ HasRisen (S.faults source) (S.faults source') → ¬ HasRisen (K.faults sink) (K.faults sink')
      → WritesDefined job bytes (K.written sink) (K.written sink') status ⊎ (status ≡ Memory)
  -- what was written is what is defined for the bytes that the reads of this call gave, which every source tells
  pub as_given : EndsAsGiven job (S.given source) (S.given source') (K.written sink) (K.written sink') status
  -- a command that reads, reads to the end before it writes
  pub ended : Reads job.command → IsOfWholeText status → S.has_ended source'
  pub read_to_end : Reads job.command → IsOfWholeText status → IsAtEnd (S.left source')
  -- the one that makes a deck reads nothing
  pub nothing_read_by_made : job.command ≡ Made → source' ≡ source
  pub made_answers : job.command ≡ Made → IsAnswerOfMade status

-- The usage line was written, or a proper prefix of it where the sink failed.
pub record WritesUsage (old new : Option (List ℕ)) (status : Status) : Type 0 where
  pub written : status ≡ Usage → new ≡ append_known old usage_line
  pub answers : (status ≡ Usage) ⊎ ((status ≡ WriteFault) × AppendsProperPrefix old new usage_line)

-- Words that give no job are answered with the usage line, where there is memory to read them.
pub record AnswersWords (words : List (List ℕ)) (old new : Option (List ℕ)) (status : Status) : Type 0 where
  pub usage : status ≡ Usage → AreRefused words × (new ≡ append_known old usage_line)
  pub refused_words : AreRefused words
      → (status ≡ Usage) ⊎ ((status ≡ WriteFault) × AppendsProperPrefix old new usage_line)
      ⊎ ((status ≡ Memory) × (new ≡ old))
