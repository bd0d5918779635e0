-- What an answer of the program says of the bytes that were read and of those that were written. Whether a sink tells
-- what was written to it never changes, so an equation between optional lists says both. This project's own.
use Rattle.std.specs.Prelude.{◌≡◌, ◌⊎◌, ℕ, ◌<◌, List, ◌++◌, length, Option}
use Rattle.std.specs.Io.KnownBytes.{append_known}
use Rattle.qs_io.specs.Devices.{AppendsProperPrefix}
use Rattle.qs_io.specs.Limits.{most_text_bytes}
use Rattle.qs_graph.specs.Graphs.{QGraph}
use Rattle.qs_tree.specs.declared.cell.Label.{Label}
use Rattle.qs_deck.specs.Decks.{Grammar, IsDeckOf}
use Rattle.qs_deck.specs.PhraseTexts.{IsPhraseText}
use Rattle.qs_command.specs.declared.job.Command.{Command}
use Rattle.qs_command.specs.declared.job.Command.TheVariants as command
use Rattle.qs_command.specs.declared.job.Job.{Job}
use Rattle.qs_command.specs.declared.status.Status.{Status}
use Rattle.qs_command.specs.declared.status.Status.TheVariants.{Done, Usage, Refused, Limit, ReadFault, TooLong}
use Rattle.qs_command.specs.declared.status.Status.TheVariants.{WriteFault, Memory}
use Rattle.qs_telling.specs.Outcomes.{BeginsOutcome}
use Rattle.qs_telling.specs.Explanations.{BeginsExplanation}
use Rattle.qs_telling.specs.PhraseTexts.{BeginsPhrases}
use Rattle.qs_program.specs.Defined.{IsDefined}

-- The whole text that is defined for these bytes, with this status, was written.
pub record WritesDefined (job : Job) (bytes : List ℕ) (old new : Option (List ℕ)) (status : Status) : Type 0 where
  pub text : List ℕ
  pub defined : IsDefined job bytes text status
  pub written : new ≡ append_known old text

-- A proper prefix of the text that is defined for these bytes was written: at least its last byte is missing.
pub record WritesProperPrefix (job : Job) (bytes : List ℕ) (old new : Option (List ℕ)) : Type 0 where
  pub text : List ℕ
  pub status : Status
  pub defined : IsDefined job bytes text status
  pub written : AppendsProperPrefix old new text

-- The first blocks, fewer than all, of what this command writes for a deck block by block. The other commands write
-- their text at once.
abbrev pub BeginsDone : Command → ℕ → List (List ℕ) → List Grammar → QGraph → List ℕ → Type 0
BeginsDone command.Run limit names grammars graph text = BeginsOutcome limit names graph grammars text
BeginsDone command.Check limit names grammars graph text = ⊥
BeginsDone command.Graph limit names grammars graph text = ⊥
BeginsDone command.Made limit names grammars graph text = ⊥
BeginsDone command.Explain limit names grammars graph text = BeginsExplanation limit names graph grammars text
BeginsDone command.Levels limit names grammars graph text = ⊥
BeginsDone command.Phrase limit names grammars graph text = ⊥

-- The first blocks, fewer than all, of what is defined for a deck that these bytes mean, or for lines of words.
pub data AreFirstBlocks (job : Job) (bytes text : List ℕ) : Type 0 where
  of_deck : (version : ℕ) (names : List (List ℕ)) (grammars : List Grammar) (graph : QGraph)
      → IsDeckOf bytes version names grammars graph → BeginsDone job.command job.limit names grammars graph text
      → AreFirstBlocks job bytes text
  of_phrases : (version : ℕ) (names : List (List ℕ)) (grammars : List Grammar) (lines : List (List Label))
      → job.command ≡ command.Phrase → IsPhraseText bytes version names grammars lines
      → BeginsPhrases job.limit job.readings names grammars 1 lines text → AreFirstBlocks job bytes text

-- The first blocks were written, each of them whole, and fewer than all; so it is a proper prefix of the text that is
-- defined.
pub record WritesFirstBlocks (job : Job) (bytes : List ℕ) (old new : Option (List ℕ)) : Type 0 where
  pub front : List ℕ
  pub are_first : AreFirstBlocks job bytes front
  pub written : new ≡ append_known old front
  pub prefix : WritesProperPrefix job bytes old new

-- Nothing was written, or the first blocks. So where the command writes its text at once, or the bytes are refused,
-- nothing was.
abbrev pub KeepsToBlocks : Job → List ℕ → Option (List ℕ) → Option (List ℕ) → Type 0
KeepsToBlocks job bytes old new = (new ≡ old) ⊎ WritesFirstBlocks job bytes old new

-- What was written, by the answer, where these bytes were left in the source: the whole text that is defined, with its
-- status; or nothing, where the source failed or the bytes are too many; or a proper prefix, where the sink failed; or
-- nothing or the first blocks, fewer than all, where memory was wanting. No other answer comes.
abbrev pub EndsAsDefined : Job → List ℕ → Option (List ℕ) → Option (List ℕ) → Status → Type 0
EndsAsDefined job bytes old new Done = WritesDefined job bytes old new Done
EndsAsDefined job bytes old new Refused = WritesDefined job bytes old new Refused
EndsAsDefined job bytes old new Limit = WritesDefined job bytes old new Limit
EndsAsDefined job bytes old new ReadFault = new ≡ old
EndsAsDefined job bytes old new TooLong = (most_text_bytes < length bytes) × (new ≡ old)
EndsAsDefined job bytes old new WriteFault = WritesProperPrefix job bytes old new
EndsAsDefined job bytes old new Memory = KeepsToBlocks job bytes old new
EndsAsDefined job bytes old new Usage = ⊥

-- The answers with which a run ends when it has written its whole text.
abbrev pub IsOfWholeText : Status → Type 0
IsOfWholeText status = (status ≡ Done) ⊎ (status ≡ Refused) ⊎ (status ≡ Limit)

-- The reads between two moments gave some bytes, by what the source had given before and behind them; and what was
-- written is, by the answer, what is defined for these bytes.
pub record EndsAsGiven (job : Job) (given given' : List ℕ) (old new : Option (List ℕ)) (status : Status) : Type 0 where
  pub bytes : List ℕ
  pub are_given : given' ≡ given ++ bytes
  pub ends : EndsAsDefined job bytes old new status
