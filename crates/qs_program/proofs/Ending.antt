-- What is delivered of a deck is what is defined for its text.
use Rattle.std.proofs.Common.{◌≡◌, ℕ, List, Option, Global, refl, sym, subst, inl, inr, ⊎_elim}
use Rattle.std.specs.Prelude.{Result, Ok, Err, IfOk}
use Rattle.std.specs.declared.vec.Vec.{Vec}
use Rattle.qs_lex.specs.declared.refusal.Refusal.{Refusal}
use Rattle.qs_graph.specs.Graphs.{QGraph}
use Rattle.std.specs.Io.KnownBytes.{append_known}
use Rattle.qs_io.specs.Devices.{AppendsProperPrefix}
use Rattle.qs_graphtext.specs.Texts.{graph_text}
use Rattle.qs_deck.specs.Decks.{Grammar, IsDeckOf}
use Rattle.qs_deck.specs.Texts.{deck_text}
use Rattle.qs_deck.specs.Refusals.{IsRefusalOf}
use Rattle.qs_deck.specs.PhraseTexts.{IsPhraseText, IsPhraseFault}
use Rattle.qs_lex.specs.Refusals.{IsRefusedFor}
use Rattle.qs_tree.specs.declared.cell.Label.{Label}
use Rattle.qs_command.specs.declared.job.Command.{Command}
use Rattle.qs_command.specs.declared.job.Command.TheVariants as command
use Rattle.qs_command.specs.declared.job.Job.{Job}
use Rattle.qs_command.specs.declared.status.Status.{Status}
use Rattle.qs_command.specs.declared.status.Status.TheVariants.{Done, Refused}
use Rattle.qs_telling.specs.Texts.{refusal_line}
use Rattle.qs_telling.specs.LevelTexts.{TellsLevels}
use Rattle.qs_telling.specs.declared.telling.Telling.TheVariants as telling
use Rattle.qs_program.specs.Defined.{IsDefined, of_refused, of_deck, of_refused_phrases, of_phrases, IsDone, ReadsDeck, status_of}
use Rattle.qs_program.specs.Answers.{BeginsDone, WritesFirstBlocks}
use Rattle.qs_program.specs.Answers as answers
use Rattle.qs_program.specs.working.Cascading.{DeliversCascade, IsAnswered, IsWritten}
use Rattle.qs_program.specs.working.Phrasing.{DeliversPhrases}

module _ (job : Job) (bytes : List ℕ) (version : ℕ) (names : List (List ℕ)) (grammars : List Grammar) (graph : QGraph) (deck : IsDeckOf bytes version names grammars graph) where
  -- what is done with a deck is what is defined for its text
  done_defined : (which : Command) (text : List ℕ) (status : Status) → job.command ≡ which → IsDone which job.limit version names grammars graph text status
      → IsDefined job bytes text status
  done_defined which text status is done =
      of_deck (record {
        version = version;
        names = names;
        grammars = grammars;
        graph = graph;
        deck = deck;
        done = subst (λ (c : Command). IsDone c job.limit version names grammars graph text status) (sym is) done;
      })

  -- the first blocks of what is told of its cascade
  first_defined : (which : Command) → job.command ≡ which → (text : List ℕ) (status : Status) → IsDone which job.limit version names grammars graph text status
      → (old new : Option (List ℕ)) (front : List ℕ) → BeginsDone which job.limit names grammars graph front → new ≡ append_known old front → AppendsProperPrefix old new text
      → WritesFirstBlocks job bytes old new
  first_defined which is text status done old new front first written prefix = record {
    front = front;
    are_first = answers.of_deck version names grammars graph deck (subst (λ (c : Command). BeginsDone c job.limit names grammars graph front) (sym is) first);
    written = written;
    prefix = record { text = text; status = status; defined = done_defined which text status is done; written = prefix };
  }

  -- what is told of the cascade of a deck, or its first blocks
  pub cascade_defined : (old new : Option (List ℕ)) (answer : Status) → job.command ≡ command.Run
      → DeliversCascade telling.Blocks job.limit names graph grammars old new answer → IsAnswered job bytes old new answer
  cascade_defined old new answer run d =
      let done : IsDone command.Run job.limit version names grammars graph d.text (status_of d.ending) = record { ending = d.ending; outcome = d.outcome; status_is = refl } in
      ⊎_elim
      (λ all. inr (record { text = d.text; status = status_of d.ending; defined = done_defined command.Run d.text (status_of d.ending) run done; delivered = all }))
      (λ between. inl (between.wanting, inr (first_defined command.Run run d.text (status_of d.ending) done old new between.front between.begins between.written between.prefix)))
      d.delivered

  pub explanation_defined : (old new : Option (List ℕ)) (answer : Status) → job.command ≡ command.Explain
      → DeliversCascade telling.Supports job.limit names graph grammars old new answer → IsAnswered job bytes old new answer
  explanation_defined old new answer explain d =
      let done : IsDone command.Explain job.limit version names grammars graph d.text (status_of d.ending) = record { ending = d.ending; explains = d.outcome; status_is = refl } in
      ⊎_elim
      (λ all. inr (record { text = d.text; status = status_of d.ending; defined = done_defined command.Explain d.text (status_of d.ending) explain done; delivered = all }))
      (λ between. inl (between.wanting, inr (first_defined command.Explain explain d.text (status_of d.ending) done old new between.front between.begins between.written between.prefix)))
      d.delivered

  -- a deck that is checked, its graph, and what is told of the levels of its grammars
  pub check_defined : job.command ≡ command.Check → IsDefined job bytes (deck_text version names grammars graph) Done
  check_defined check = done_defined command.Check (deck_text version names grammars graph) Done check (record { text_is = refl; status_is = refl })

  pub graph_defined : job.command ≡ command.Graph → IsDefined job bytes (graph_text names graph) Done
  graph_defined drawn = done_defined command.Graph (graph_text names graph) Done drawn (record { text_is = refl; status_is = refl })

  pub levels_defined : job.command ≡ command.Levels → (text : List ℕ) → TellsLevels names grammars text → IsDefined job bytes text Done
  levels_defined levels text tells = done_defined command.Levels text Done levels (record { tells = tells; status_is = refl })

-- the line of a text that is refused
pub refused_defined : (job : Job) (bytes : List ℕ) (refusal : Refusal) → ReadsDeck job.command → IsRefusalOf bytes refusal → IsDefined job bytes (refusal_line refusal) Refused
refused_defined job bytes refusal reads is = of_refused reads (record { refusal = refusal; refused = is; text_is = refl; status_is = refl })

-- the line of a phrase text that is refused
pub refused_phrases_defined : (job : Job) (bytes : List ℕ) (refusal : Refusal) → job.command ≡ command.Phrase → IsRefusedFor IsPhraseFault bytes refusal → IsDefined job bytes (refusal_line refusal) Refused
refused_phrases_defined job bytes refusal phrase is = of_refused_phrases phrase (record { refusal = refusal; refused = is; text_is = refl; status_is = refl })

-- what is told of the lines of a phrase text, or its first blocks
pub phrases_defined : (job : Job) (bytes : List ℕ) (version : ℕ) (names : List (List ℕ)) (grammars : List Grammar) (lines : List (List Label)) → job.command ≡ command.Phrase
    → IsPhraseText bytes version names grammars lines → (old new : Option (List ℕ)) (answer : Status)
    → DeliversPhrases job.limit job.readings names grammars lines old new answer → IsAnswered job bytes old new answer
phrases_defined job bytes version names grammars lines phrase is old new answer d =
    let defined : IsDefined job bytes d.text (status_of d.ending) =
    of_phrases phrase (record { version = version; names = names; grammars = grammars; lines = lines; phrases = is; ending = d.ending; tells = d.outcome; status_is = refl }) in
    ⊎_elim
    (λ all. inr (record { text = d.text; status = status_of d.ending; defined = defined; delivered = all }))
    (λ between. inl (
      between.wanting,
      inr (record {
        front = between.front;
        are_first = answers.of_phrases version names grammars lines phrase is between.begins;
        written = between.written;
        prefix = record { text = d.text; status = status_of d.ending; defined = defined; written = between.prefix };
      }),
    ))
    d.delivered

-- a text of which this holds, for which it is defined, and which was written
pub told_defined : {E : Type 0} (P : List ℕ → Type 0) (job : Job) (bytes : List ℕ) (old new : Option (List ℕ)) (answer : Status) (status : Status)
    → ((text : List ℕ) → P text → IsDefined job bytes text status)
    → (made : Result (Vec ℕ Global) E) → IfOk made (λ t. P t.items) → IsWritten made old new status answer → IsAnswered job bytes old new answer
told_defined P job bytes old new answer status defined (Ok t) holds is = inr (record { text = t.items; status = status; defined = defined t.items holds; delivered = is })
told_defined P job bytes old new answer status defined (Err e) holds is = inl (is.0, inl is.1)

-- a text that is defined and was written
pub written_defined : {E : Type 0} (job : Job) (bytes : List ℕ) (old new : Option (List ℕ)) (answer : Status) (text : List ℕ) (status : Status) → IsDefined job bytes text status
    → (made : Result (Vec ℕ Global) E) → IfOk made (λ t. t.items ≡ text) → IsWritten made old new status answer → IsAnswered job bytes old new answer
written_defined job bytes old new answer text status defined made same is =
    told_defined (λ t. t ≡ text) job bytes old new answer status (λ t e. subst (λ (b : List ℕ). IsDefined job bytes b status) (sym e) defined) made same is
