-- For given bytes and a given job one text is defined at most, where a text has one refusal or one deck.
use Rattle.std.proofs.Common.{◌≡◌, ℕ, List, [], ◌∷◌, Option, sym, ap, ◌∙◌, subst, inl, inr, arith}
use Rattle.qs_program.proofs.GoingOn.{nothing_more}
use Rattle.qs_io.specs.Devices.{AppendsProperPrefix}
use Rattle.qs_io.specs.working.Devices.{AppendsPrefix}
use Rattle.qs_lex.specs.declared.refusal.Refusal.{Refusal}
use Rattle.qs_graph.specs.Graphs.{QGraph}
use Rattle.qs_pattern.specs.Rules.{Rule}
use Rattle.qs_clean.specs.Cascades.{Cascade, Left, over, Ending}
use Rattle.qs_deck.specs.Decks.{Grammar, IsDeckOf}
use Rattle.qs_deck.specs.Refusals.{IsRefusalOf}
use Rattle.qs_deck.specs.PhraseTexts.{IsPhraseText, IsPhraseFault}
use Rattle.qs_lex.specs.Refusals.{IsRefusedFor}
use Rattle.qs_tree.specs.declared.cell.Label.{Label}
use Rattle.qs_command.specs.declared.status.Status.{Status}
use Rattle.qs_command.specs.declared.job.Command.{Command}
use Rattle.qs_command.specs.declared.job.Command.TheVariants as command
use Rattle.qs_command.specs.declared.job.Job.{Job}
use Rattle.qs_telling.specs.Texts.{refusal_line}
use Rattle.qs_telling.specs.Outcomes.{IsOutcome}
use Rattle.qs_deck.specs.MadeDecks.{made_grammar, made_graph}
use Rattle.qs_telling.specs.Summaries.{summary}
use Rattle.qs_telling.proofs.Tellings.{one_explanation}
use Rattle.qs_telling.specs.PhraseTexts.{TellsPhrases}
use Rattle.qs_telling.proofs.LevelsTold.{one_telling}
use Rattle.qs_telling.proofs.PhrasesTold.{one_phrases}
use Rattle.qs_program.specs.Defined.{IsDefined, of_refused, of_deck, of_made, of_refused_phrases, of_phrases, IsDone, IsMadeOf, IsPhraseAnswer, ReadsDeck, status_of}
use Rattle.qs_program.specs.Answers.{KeepsToBlocks}
use Rattle.qs_program.specs.working.Cascading.{KeepsToDefined}

-- a cascade has one outcome
abbrev pub OneOutcome : Type 0
OneOutcome = (limit : ℕ) (names : List (List ℕ)) (graph : QGraph) (grammars : List Grammar) (t u : List ℕ) (e d : Ending)
    → IsOutcome limit names graph grammars t e → IsOutcome limit names graph grammars u d → (t ≡ u) × (e ≡ d)

abbrev pub OneCascade : Type 0
OneCascade = (L : ℕ) (G : QGraph) (Rs : List (List Rule)) (l m : List Left) (e d : Ending) → Cascade L G Rs l e → Cascade L G Rs m d → (l ≡ m) × (e ≡ d)

-- what is left first
abbrev first_left : List Left → Left
first_left [] = over
first_left (left ∷ lefts) = left

-- a text has one deck or one refusal
pub record OneDeck : Type 0 where
  pub deck : (text : List ℕ) (v w : ℕ) (names others : List (List ℕ)) (grammars more : List Grammar) (G H : QGraph)
      → IsDeckOf text v names grammars G → IsDeckOf text w others more H → (v ≡ w) × (names ≡ others) × (grammars ≡ more) × (G ≡ H)
  pub refusal : (text : List ℕ) (r s : Refusal) → IsRefusalOf text r → IsRefusalOf text s → r ≡ s
  pub not_both : (text : List ℕ) (version : ℕ) (names : List (List ℕ)) (grammars : List Grammar) (G : QGraph) (r : Refusal)
      → IsDeckOf text version names grammars G → IsRefusalOf text r → ⊥

-- a phrase text has one meaning or one refusal
pub record OnePhraseText : Type 0 where
  pub phrases : (text : List ℕ) (v w : ℕ) (names others : List (List ℕ)) (grammars more : List Grammar) (lines further : List (List Label))
      → IsPhraseText text v names grammars lines → IsPhraseText text w others more further → (v ≡ w) × (names ≡ others) × (grammars ≡ more) × (lines ≡ further)
  pub refusal : (text : List ℕ) (r s : Refusal) → IsRefusedFor IsPhraseFault text r → IsRefusedFor IsPhraseFault text s → r ≡ s
  pub not_both : (text : List ℕ) (version : ℕ) (names : List (List ℕ)) (grammars : List Grammar) (lines : List (List Label)) (r : Refusal)
      → IsPhraseText text version names grammars lines → IsRefusedFor IsPhraseFault text r → ⊥

module _ (one_outcome : OneOutcome) where
  -- with a deck one thing is done
  same_done : (which : Command) (L version : ℕ) (names : List (List ℕ)) (grammars : List Grammar) (graph : QGraph) (t u : List ℕ) (s r : Status)
      → IsDone which L version names grammars graph t s → IsDone which L version names grammars graph u r → (t ≡ u) × (s ≡ r)
  same_done command.Run L version names grammars graph t u s r a b =
      let both = one_outcome L names graph grammars t u a.ending b.ending a.outcome b.outcome in
      (both.0, a.status_is ∙ ap status_of both.1 ∙ sym b.status_is)
  same_done command.Check L version names grammars graph t u s r a b = (a.text_is ∙ sym b.text_is, a.status_is ∙ sym b.status_is)
  same_done command.Graph L version names grammars graph t u s r a b = (a.text_is ∙ sym b.text_is, a.status_is ∙ sym b.status_is)
  same_done command.Made L version names grammars graph t u s r a b = absurd a
  same_done command.Explain L version names grammars graph t u s r a b =
      let both = one_explanation a.explains b.explains in
      (both.0, a.status_is ∙ ap status_of both.1 ∙ sym b.status_is)
  same_done command.Phrase L version names grammars graph t u s r a b = absurd a
  same_done command.Levels L version names grammars graph t u s r a b = (one_telling names grammars t u a.tells b.tells, a.status_is ∙ sym b.status_is)

  module _ (one_cascade : OneCascade) where
    -- of a made deck one thing is told
    same_made : (L size : ℕ) (t u : List ℕ) (s r : Status) → IsMadeOf L size t s → IsMadeOf L size u r → (t ≡ u) × (s ≡ r)
    same_made L size t u s r a b =
        let both = one_cascade L (made_graph size) ((made_grammar size).rules ∷ []) (a.left ∷ []) (b.left ∷ []) a.ending b.ending a.cascade b.cascade in
        (a.text_is ∙ ap (λ lefts. summary L size (first_left lefts)) both.0 ∙ sym b.text_is, a.status_is ∙ ap status_of both.1 ∙ sym b.status_is)

    -- of a phrase text one thing is told
    same_phrases : OnePhraseText → (L most : ℕ) (bytes t u : List ℕ) (s r : Status) → IsPhraseAnswer L most bytes t s → IsPhraseAnswer L most bytes u r → (t ≡ u) × (s ≡ r)
    same_phrases one L most bytes t u s r a b =
        let (version, names, grammars, lines) = one.phrases bytes a.version b.version a.names b.names a.grammars b.grammars a.lines b.lines a.phrases b.phrases in
        let P : List (List ℕ) × List Grammar × List (List Label) → Type 0 = λ x. TellsPhrases L most x.0 x.1 1 x.2 t a.ending in
        let same : ◌≡◌ {A = List (List ℕ) × List Grammar × List (List Label)} (a.names, a.grammars, a.lines) (b.names, b.grammars, b.lines) = λ i. (names i, grammars i, lines i) in
        let both = one_phrases L most b.names b.grammars one_cascade (subst P same a.tells) b.tells in
        (both.0, a.status_is ∙ ap status_of both.1 ∙ sym b.status_is)

    pub same_definition : OneDeck → OnePhraseText → (job : Job) (bytes t u : List ℕ) (s r : Status) → IsDefined job bytes t s → IsDefined job bytes u r → (t ≡ u) × (s ≡ r)
    same_definition one phrases job bytes t u s r (of_refused p a) (of_refused q b) =
        (a.text_is ∙ ap refusal_line (one.refusal bytes a.refusal b.refusal a.refused b.refused) ∙ sym b.text_is, a.status_is ∙ sym b.status_is)
    same_definition one phrases job bytes t u s r (of_refused p a) (of_deck b) = absurd (one.not_both bytes b.version b.names b.grammars b.graph a.refusal b.deck a.refused)
    same_definition one phrases job bytes t u s r (of_deck a) (of_refused q b) = absurd (one.not_both bytes a.version a.names a.grammars a.graph b.refusal a.deck b.refused)
    same_definition one phrases job bytes t u s r (of_deck a) (of_deck b) =
        let (version, names, grammars, graph) = one.deck bytes a.version b.version a.names b.names a.grammars b.grammars a.graph b.graph a.deck b.deck in
        let P : ℕ × List (List ℕ) × List Grammar × QGraph → Type 0 = λ x. IsDone job.command job.limit x.0 x.1 x.2 x.3 t s in
        let same : ◌≡◌ {A = ℕ × List (List ℕ) × List Grammar × QGraph} (a.version, a.names, a.grammars, a.graph) (b.version, b.names, b.grammars, b.graph) =
        λ i. (version i, names i, grammars i, graph i) in
        same_done job.command job.limit b.version b.names b.grammars b.graph t u s r (subst P same a.done) b.done
    same_definition one phrases job bytes t u s r (of_made m a) (of_made n b) = same_made job.limit job.size t u s r a b
    same_definition one phrases job bytes t u s r (of_made m a) (of_refused q b) = absurd (subst ReadsDeck m q)
    same_definition one phrases job bytes t u s r (of_refused p a) (of_made n b) = absurd (subst ReadsDeck n p)
    same_definition one phrases job bytes t u s r (of_made m a) (of_deck b) = absurd (subst (λ which. IsDone which job.limit b.version b.names b.grammars b.graph u r) m b.done)
    same_definition one phrases job bytes t u s r (of_deck a) (of_made n b) = absurd (subst (λ which. IsDone which job.limit a.version a.names a.grammars a.graph t s) n a.done)
    same_definition one phrases job bytes t u s r (of_refused p a) (of_refused_phrases n b) = absurd (subst ReadsDeck n p)
    same_definition one phrases job bytes t u s r (of_refused p a) (of_phrases n b) = absurd (subst ReadsDeck n p)
    same_definition one phrases job bytes t u s r (of_deck a) (of_refused_phrases n b) = absurd (subst (λ which. IsDone which job.limit a.version a.names a.grammars a.graph t s) n a.done)
    same_definition one phrases job bytes t u s r (of_deck a) (of_phrases n b) = absurd (subst (λ which. IsDone which job.limit a.version a.names a.grammars a.graph t s) n a.done)
    same_definition one phrases job bytes t u s r (of_made m a) (of_refused_phrases n b) = absurd (let other : command.Made ≡ command.Phrase = sym m ∙ n in cc)
    same_definition one phrases job bytes t u s r (of_made m a) (of_phrases n b) = absurd (let other : command.Made ≡ command.Phrase = sym m ∙ n in cc)
    same_definition one phrases job bytes t u s r (of_refused_phrases m a) (of_refused q b) = absurd (subst ReadsDeck m q)
    same_definition one phrases job bytes t u s r (of_refused_phrases m a) (of_deck b) = absurd (subst (λ which. IsDone which job.limit b.version b.names b.grammars b.graph u r) m b.done)
    same_definition one phrases job bytes t u s r (of_refused_phrases m a) (of_made n b) = absurd (let other : command.Phrase ≡ command.Made = sym m ∙ n in cc)
    same_definition one phrases job bytes t u s r (of_refused_phrases m a) (of_refused_phrases n b) =
        (a.text_is ∙ ap refusal_line (phrases.refusal bytes a.refusal b.refusal a.refused b.refused) ∙ sym b.text_is, a.status_is ∙ sym b.status_is)
    same_definition one phrases job bytes t u s r (of_refused_phrases m a) (of_phrases n b) = absurd (phrases.not_both bytes b.version b.names b.grammars b.lines a.refusal b.phrases a.refused)
    same_definition one phrases job bytes t u s r (of_phrases m a) (of_refused q b) = absurd (subst ReadsDeck m q)
    same_definition one phrases job bytes t u s r (of_phrases m a) (of_deck b) = absurd (subst (λ which. IsDone which job.limit b.version b.names b.grammars b.graph u r) m b.done)
    same_definition one phrases job bytes t u s r (of_phrases m a) (of_made n b) = absurd (let other : command.Phrase ≡ command.Made = sym m ∙ n in cc)
    same_definition one phrases job bytes t u s r (of_phrases m a) (of_refused_phrases n b) = absurd (phrases.not_both bytes a.version a.names a.grammars a.lines b.refusal a.phrases b.refused)
    same_definition one phrases job bytes t u s r (of_phrases m a) (of_phrases n b) = same_phrases phrases job.limit job.readings bytes t u s r a b

    -- where memory was wanting nothing was written, or a proper prefix of the text that is defined
    pub keeps_to_defined : (job : Job) (bytes : List ℕ) (old new : Option (List ℕ)) → KeepsToBlocks job bytes old new → KeepsToDefined job bytes old new
    keeps_to_defined job bytes old new (inl same) = inl same
    keeps_to_defined job bytes old new (inr w) = inr w.prefix

    -- so what was written is a prefix of whatever text is defined
    pub prefix_of_each : OneDeck → OnePhraseText → (job : Job) (bytes : List ℕ) (old new : Option (List ℕ)) → KeepsToDefined job bytes old new
        → (text : List ℕ) (status : Status) → IsDefined job bytes text status → AppendsPrefix old new text
    prefix_of_each one phrases job bytes old new (inl same) text status defined = (0, omega arith, same ∙ nothing_more old)
    prefix_of_each one phrases job bytes old new (inr w) text status defined =
        let same = (same_definition one phrases job bytes w.text text w.status status w.defined defined).0 in
        let (n, within, begun) = subst (AppendsProperPrefix old new) same w.written in (n, omega (arith, within), begun)
