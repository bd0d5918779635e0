-- How far a run has come, and what it answers. `run_still` is proved against `Answers`, and not against this.
use Rattle.std.specs.Prelude.{◌≡◌, ◌⊎◌, ℕ, List, ◌++◌, Option, Result, Ok, Err}
use Rattle.std.proofs.Common.{Global}
use Rattle.std.specs.declared.vec.Vec.{Vec}
use Rattle.std.specs.Io.KnownBytes.{append_known}
use Rattle.qs_graph.specs.Graphs.{QGraph}
use Rattle.qs_io.specs.Devices.{AppendsProperPrefix}
use Rattle.qs_clean.specs.Cascades.{Ending}
use Rattle.qs_deck.specs.Decks.{Grammar}
use Rattle.qs_command.specs.declared.job.Job.{Job}
use Rattle.qs_command.specs.declared.status.Status.{Status}
use Rattle.qs_command.specs.declared.status.Status.TheVariants.{WriteFault, Memory}
use Rattle.qs_telling.specs.declared.telling.Telling.{Telling}
use Rattle.qs_telling.specs.working.Telling.{Begins, Tells}
use Rattle.qs_program.specs.Defined.{IsDefined, status_of}
use Rattle.qs_program.specs.Answers.{KeepsToBlocks, WritesProperPrefix}

-- Of a text that is to be written with this status, all was written, and the answer is the status; or a proper
-- prefix, and the answer is that the sink failed.
abbrev pub Delivers : Option (List ℕ) → Option (List ℕ) → List ℕ → Status → Status → Type 0
Delivers old new text status answer =
    ((answer ≡ status) × (new ≡ append_known old text))
    ⊎ ((answer ≡ WriteFault) × AppendsProperPrefix old new text)

-- Where there was memory for the text, it was delivered; where there was none, nothing was written.
abbrev pub IsWritten : {E : Type 0} → Result (Vec ℕ Global) E → Option (List ℕ) → Option (List ℕ) → Status → Status
    → Type 0
IsWritten (Ok text) old new status answer = Delivers old new text.items status answer
IsWritten (Err e) old new status answer = (answer ≡ Memory) × (new ≡ old)

-- Nothing was written, or a proper prefix of the text that is defined. (Where nothing was written, no clause says
-- that a text is defined: memory may have been wanting before it was found.)
abbrev pub KeepsToDefined : Job → List ℕ → Option (List ℕ) → Option (List ℕ) → Type 0
KeepsToDefined job bytes old new = (new ≡ old) ⊎ WritesProperPrefix job bytes old new

-- Memory was wanting for a block of this text: the blocks in front of it were written, of which `Begun` holds.
pub record StopsBetween (Begun : List ℕ → Type 0) (text : List ℕ) (old new : Option (List ℕ)) (answer : Status)
    : Type 0 where
  pub wanting : answer ≡ Memory
  pub front : List ℕ
  pub begins : Begun front
  pub written : new ≡ append_known old front
  pub prefix : AppendsProperPrefix old new text

-- A text that is written block by block, of which `Whole` holds with its ending, was delivered; or its first blocks
-- were written, of which `Begun` holds.
pub record DeliversBlocks (Whole : List ℕ → Ending → Type 0) (Begun : List ℕ → Type 0) (old new : Option (List ℕ))
    (answer : Status) : Type 0 where
  pub text : List ℕ
  pub ending : Ending
  pub outcome : Whole text ending
  pub delivered : Delivers old new text (status_of ending) answer ⊎ StopsBetween Begun text old new answer

-- So it is with what is told of a cascade.
abbrev pub DeliversCascade : Telling → ℕ → List (List ℕ) → QGraph → List Grammar → Option (List ℕ) → Option (List ℕ)
    → Status → Type 0
DeliversCascade telling limit names graph grammars old new answer =
    DeliversBlocks (Tells telling limit names graph grammars) (Begins telling limit names graph grammars) old new answer

-- The text that is defined was delivered.
pub record DeliversDefined (job : Job) (bytes : List ℕ) (old new : Option (List ℕ)) (answer : Status) : Type 0 where
  pub text : List ℕ
  pub status : Status
  pub defined : IsDefined job bytes text status
  pub delivered : Delivers old new text status answer

-- That, or memory was wanting, and nothing was written or the first blocks.
abbrev pub IsAnswered : Job → List ℕ → Option (List ℕ) → Option (List ℕ) → Status → Type 0
IsAnswered job bytes old new answer =
    ((answer ≡ Memory) × KeepsToBlocks job bytes old new) ⊎ DeliversDefined job bytes old new answer

-- Some blocks of a text were written: with what is left to write of it behind them, of which `Rest` holds with its
-- ending, it is a text of which `Whole` holds. In the same way the first of its blocks are these and the first ones
-- that are left.
pub record HasCome (Whole Rest : List ℕ → Ending → Type 0) (Begun RestBegun : List ℕ → Type 0)
    (old new : Option (List ℕ)) : Type 0 where
  pub front : List ℕ
  pub written : new ≡ append_known old front
  pub goes_on : (text : List ℕ) (ending : Ending) → Rest text ending → Whole (front ++ text) ending
  pub begins : (text : List ℕ) → RestBegun text → Begun (front ++ text)

-- Some grammars of a cascade from a graph have been run and have left the graph `now`; what is told of them was
-- written. The others go on with that graph: what is told of them is what is left to write.
abbrev pub HasRun : Telling → ℕ → List (List ℕ) → QGraph → List Grammar → Option (List ℕ) → Option (List ℕ) → QGraph
    → List Grammar → Type 0
HasRun telling limit names graph grammars old new now others =
    HasCome (Tells telling limit names graph grammars) (Tells telling limit names now others)
    (Begins telling limit names graph grammars) (Begins telling limit names now others) old new
