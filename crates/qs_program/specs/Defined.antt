-- What a job is defined to write, for the bytes that it read where it reads, and with which status it is to end. This
-- project's own.
use Rattle.std.specs.Prelude.{◌≡◌, ℕ, List, [], ◌∷◌}
use Rattle.qs_tree.specs.declared.cell.Label.{Label}
use Rattle.qs_lex.specs.declared.refusal.Refusal.{Refusal}
use Rattle.qs_lex.specs.Refusals.{IsRefusedFor}
use Rattle.qs_graph.specs.Graphs.{QGraph}
use Rattle.qs_graphtext.specs.Texts.{graph_text}
use Rattle.qs_clean.specs.Cascades.{Cascade, Left, Ending, all_done, by_limit}
use Rattle.qs_deck.specs.Decks.{Grammar, IsDeckOf}
use Rattle.qs_deck.specs.Refusals.{IsRefusalOf}
use Rattle.qs_deck.specs.PhraseTexts.{IsPhraseText, IsPhraseFault}
use Rattle.qs_deck.specs.Texts.{deck_text}
use Rattle.qs_deck.specs.MadeDecks.{made_grammar, made_graph}
use Rattle.qs_command.specs.declared.job.Command.{Command}
use Rattle.qs_command.specs.declared.job.Command.TheVariants as command
use Rattle.qs_command.specs.declared.job.Job.{Job}
use Rattle.qs_command.specs.declared.status.Status.{Status}
use Rattle.qs_command.specs.declared.status.Status.TheVariants.{Done, Refused, Limit}
use Rattle.qs_telling.specs.Texts.{refusal_line}
use Rattle.qs_telling.specs.Outcomes.{IsOutcome}
use Rattle.qs_telling.specs.Summaries.{summary}
use Rattle.qs_telling.specs.Explanations.{Explains}
use Rattle.qs_telling.specs.LevelTexts.{TellsLevels}
use Rattle.qs_telling.specs.PhraseTexts.{TellsPhrases}

-- A cascade that met the limit gives the status Limit, any other one Done.
abbrev pub status_of : Ending → Status
status_of all_done = Done
status_of by_limit = Limit

-- All commands read, but the command `made`.
abbrev pub Reads : Command → Type 0
Reads command.Run = Unit {0}
Reads command.Check = Unit {0}
Reads command.Graph = Unit {0}
Reads command.Made = ⊥
Reads command.Explain = Unit {0}
Reads command.Levels = Unit {0}
Reads command.Phrase = Unit {0}

-- All that read read a deck, but the command `phrase`, which reads a phrase text.
abbrev pub ReadsDeck : Command → Type 0
ReadsDeck command.Run = Unit {0}
ReadsDeck command.Check = Unit {0}
ReadsDeck command.Graph = Unit {0}
ReadsDeck command.Made = ⊥
ReadsDeck command.Explain = Unit {0}
ReadsDeck command.Levels = Unit {0}
ReadsDeck command.Phrase = ⊥

-- Four commands run grammars, which is what workers do; the other three only write what they read, or tell of it.
abbrev pub RunsGrammars : Command → Type 0
RunsGrammars command.Run = Unit {0}
RunsGrammars command.Check = ⊥
RunsGrammars command.Graph = ⊥
RunsGrammars command.Made = Unit {0}
RunsGrammars command.Explain = Unit {0}
RunsGrammars command.Levels = ⊥
RunsGrammars command.Phrase = Unit {0}

-- A job is for one worker: it says so, or has nothing that workers do.
abbrev pub IsForOneWorker : Job → Type 0
IsForOneWorker job = RunsGrammars job.command → job.workers ≡ 1

-- For a text that isn't accepted the line is defined that tells its first fault, whatever is to be done with it.
pub record IsRefusal (bytes text : List ℕ) (status : Status) : Type 0 where
  pub refusal : Refusal
  pub refused : IsRefusalOf bytes refusal
  pub text_is : text ≡ refusal_line refusal
  pub status_is : status ≡ Refused

-- To run is to write the blocks of the cascade.
pub record IsRunOf (limit : ℕ) (names : List (List ℕ)) (grammars : List Grammar) (graph : QGraph) (text : List ℕ)
    (status : Status) : Type 0 where
  pub ending : Ending
  pub outcome : IsOutcome limit names graph grammars text ending
  pub status_is : status ≡ status_of ending

-- To check is to write the whole deck.
pub record IsCheckOf (version : ℕ) (names : List (List ℕ)) (grammars : List Grammar) (graph : QGraph) (text : List ℕ)
    (status : Status) : Type 0 where
  pub text_is : text ≡ deck_text version names grammars graph
  pub status_is : status ≡ Done

-- The command `graph` writes the graph of the deck, on which no grammar was run.
pub record IsGraphOf (names : List (List ℕ)) (graph : QGraph) (text : List ℕ) (status : Status) : Type 0 where
  pub text_is : text ≡ graph_text names graph
  pub status_is : status ≡ Done

-- To explain is to write the blocks of the cascade, each of a graph with its support behind it.
pub record IsExplainOf (limit : ℕ) (names : List (List ℕ)) (grammars : List Grammar) (graph : QGraph) (text : List ℕ)
    (status : Status) : Type 0 where
  pub ending : Ending
  pub explains : Explains limit names graph grammars text ending
  pub status_is : status ≡ status_of ending

-- The command `levels` writes what is found of the levels of each grammar.
pub record IsLevelsOf (names : List (List ℕ)) (grammars : List Grammar) (text : List ℕ) (status : Status) : Type 0 where
  pub tells : TellsLevels names grammars text
  pub status_is : status ≡ Done

-- What is done with a deck that was read, by the command.
abbrev pub IsDone : Command → ℕ → ℕ → List (List ℕ) → List Grammar → QGraph → List ℕ → Status → Type 0
IsDone command.Run limit version names grammars graph text status = IsRunOf limit names grammars graph text status
IsDone command.Check limit version names grammars graph text status = IsCheckOf version names grammars graph text status
IsDone command.Graph limit version names grammars graph text status = IsGraphOf names graph text status
IsDone command.Made limit version names grammars graph text status = ⊥
IsDone command.Explain limit version names grammars graph text status =
    IsExplainOf limit names grammars graph text status
IsDone command.Levels limit version names grammars graph text status = IsLevelsOf names grammars text status
IsDone command.Phrase limit version names grammars graph text status = ⊥

-- With an accepted text the command is done.
pub record IsAnswer (job : Job) (bytes text : List ℕ) (status : Status) : Type 0 where
  pub version : ℕ
  pub names : List (List ℕ)
  pub grammars : List Grammar
  pub graph : QGraph
  pub deck : IsDeckOf bytes version names grammars graph
  pub done : IsDone job.command job.limit version names grammars graph text status

-- The command `made` runs the grammar of the made deck of a size on its graph, and tells what is left.
pub record IsMadeOf (limit size : ℕ) (text : List ℕ) (status : Status) : Type 0 where
  pub left : Left
  pub ending : Ending
  pub cascade : Cascade limit (made_graph size) ((made_grammar size).rules ∷ []) (left ∷ []) ending
  pub text_is : text ≡ summary limit size left
  pub status_is : status ≡ status_of ending

-- In the same way of a phrase text: of one that means no grammars and lines of words its first fault is told.
pub record IsPhraseRefusal (bytes text : List ℕ) (status : Status) : Type 0 where
  pub refusal : Refusal
  pub refused : IsRefusedFor IsPhraseFault bytes refusal
  pub text_is : text ≡ refusal_line refusal
  pub status_is : status ≡ Refused

-- With one that is accepted the blocks of its lines are written.
pub record IsPhraseAnswer (limit most : ℕ) (bytes text : List ℕ) (status : Status) : Type 0 where
  pub version : ℕ
  pub names : List (List ℕ)
  pub grammars : List Grammar
  pub lines : List (List Label)
  pub phrases : IsPhraseText bytes version names grammars lines
  pub ending : Ending
  pub tells : TellsPhrases limit most names grammars 1 lines text ending
  pub status_is : status ≡ status_of ending

-- For this job and these bytes this text is defined, with this status. Where the job reads, the bytes are a text that
-- is refused, or mean a deck, with which the command is done, or, for `phrase`, grammars and lines of words; `made`
-- doesn't depend on them.
pub data IsDefined (job : Job) (bytes text : List ℕ) (status : Status) : Type 0 where
  of_refused : ReadsDeck job.command → IsRefusal bytes text status → IsDefined job bytes text status
  of_deck : IsAnswer job bytes text status → IsDefined job bytes text status
  of_made : job.command ≡ command.Made → IsMadeOf job.limit job.size text status → IsDefined job bytes text status
  of_refused_phrases : job.command ≡ command.Phrase → IsPhraseRefusal bytes text status
      → IsDefined job bytes text status
  of_phrases : job.command ≡ command.Phrase → IsPhraseAnswer job.limit job.readings bytes text status
      → IsDefined job bytes text status
