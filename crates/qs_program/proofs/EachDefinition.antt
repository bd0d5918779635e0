-- For each job and all bytes a text is defined, with its status.
use Rattle.std.proofs.Common.{◌≡◌, ℕ, ◌+◌, ◌^◌, ◌<◌, List, [], ◌∷◌, length, map, refl, sym, subst, ⊎_elim, arith}
use Rattle.std.specs.Prelude.{◌⊎◌}
use Rattle.std.specs.List.{range_with_len}
use Rattle.std.proofs.lemmas.Nat.{pow_pos}
use Rattle.std.proofs.lemmas.List.FromFn.{length-map-range_with_len}
use Rattle.qs_tree.specs.Lists.{◌∈◌}
use Rattle.qs_tree.proofs.Members.{from_map}
use Rattle.qs_lex.specs.declared.refusal.Refusal.{Refusal}
use Rattle.qs_pattern.specs.Patterns.{no_pattern}
use Rattle.qs_pattern.specs.Rules.{Rule, IsAccepted}
use Rattle.qs_graph.specs.Graphs.{QGraph, IsValid}
use Rattle.qs_graph.proofs.Lines.{line_valid}
use Rattle.qs_clean.specs.Cascades.{Cascade, Left, a_graph, no_arc, over, Ending, all_done, by_limit, no_more, limit, empty, goes_on}
use Rattle.qs_clean.proofs.CascadeExistence.{has_outcome}
use Rattle.qs_graphtext.specs.Texts.{graph_text}
use Rattle.qs_deck.specs.Decks.{Grammar, IsDeckOf}
use Rattle.qs_deck.specs.Refusals.{IsRefusalOf}
use Rattle.qs_deck.specs.PhraseTexts.{IsPhraseText, IsPhraseFault}
use Rattle.qs_lex.specs.Refusals.{IsRefusedFor}
use Rattle.qs_tree.specs.declared.cell.Label.{Label}
use Rattle.qs_deck.specs.Texts.{deck_text}
use Rattle.qs_deck.specs.MadeDecks.{first_var, second_var, of_level, level_rule, made_grammar, word_tree, words, made_graph}
use Rattle.qs_deck.proofs.MadeLemmas.{rule_accepted}
use Rattle.qs_deck.proofs.DecksAccepted.{deck_accepted}
use Rattle.qs_command.specs.declared.status.Status.{Status}
use Rattle.qs_command.specs.declared.status.Status.TheVariants.{Done, Limit, Refused}
use Rattle.qs_command.specs.declared.job.Command.{Command}
use Rattle.qs_command.specs.declared.job.Command.TheVariants as command
use Rattle.qs_command.specs.declared.job.Job.{Job}
use Rattle.qs_telling.specs.Texts.{refusal_line}
use Rattle.qs_telling.specs.Summaries.{summary}
use Rattle.qs_telling.proofs.Outcomes.{some_outcome}
use Rattle.qs_telling.proofs.Tellings.{some_explained}
use Rattle.qs_telling.proofs.LevelsTold.{some_telling}
use Rattle.qs_telling.proofs.PhrasesTold.{lines_some, some_phrases}
use Rattle.qs_telling.proofs.PhraseRuns.{phrases_accepted}
use Rattle.qs_program.specs.Defined.{IsDefined, of_refused, of_deck, of_made, of_refused_phrases, of_phrases, ReadsDeck, IsDone, IsMadeOf, status_of}

-- a text means a deck or is refused
abbrev pub SomeAnswer : Type 0
SomeAnswer = (text : List ℕ) → ((version : ℕ) × (names : List (List ℕ)) × (grammars : List Grammar) × (G : QGraph) × IsDeckOf text version names grammars G) ⊎ ((r : Refusal) × IsRefusalOf text r)

-- and in the same way a phrase text
abbrev pub SomePhrases : Type 0
SomePhrases = (text : List ℕ)
    → ((version : ℕ) × (names : List (List ℕ)) × (grammars : List Grammar) × (lines : List (List Label)) × IsPhraseText text version names grammars lines)
    ⊎ ((r : Refusal) × IsRefusedFor IsPhraseFault text r)

-- what is done with a deck that was read

some_done : (which : Command) → ReadsDeck which → (L : ℕ) (bytes : List ℕ) (version : ℕ) (names : List (List ℕ)) (grammars : List Grammar) (graph : QGraph) → IsDeckOf bytes version names grammars graph
    → (text : List ℕ) × (status : Status) × IsDone which L version names grammars graph text status
some_done command.Run reads L bytes version names grammars graph deck =
    let o = some_outcome L names graph grammars (deck_accepted deck) deck.valid in (o.0, status_of o.1, record { ending = o.1; outcome = o.2; status_is = refl })
some_done command.Check reads L bytes version names grammars graph deck = (deck_text version names grammars graph, Done, record { text_is = refl; status_is = refl })
some_done command.Graph reads L bytes version names grammars graph deck = (graph_text names graph, Done, record { text_is = refl; status_is = refl })
some_done command.Made reads L bytes version names grammars graph deck = absurd reads
some_done command.Explain reads L bytes version names grammars graph deck =
    let o = some_explained L names grammars (deck_accepted deck) graph deck.valid in (o.0, status_of o.1, record { ending = o.1; explains = o.2; status_is = refl })
some_done command.Phrase reads L bytes version names grammars graph deck = absurd reads
some_done command.Levels reads L bytes version names grammars graph deck =
    let told = some_telling names grammars in (told.0, Done, record { tells = told.1; status_is = refl })

some_read : SomeAnswer → (job : Job) → ReadsDeck job.command → (bytes : List ℕ) → (text : List ℕ) × (status : Status) × IsDefined job bytes text status
some_read some job reads bytes =
    ⊎_elim
    (λ d. let done = some_done job.command reads job.limit bytes d.0 d.1 d.2 d.3 d.4 in
    (done.0, done.1, of_deck (record { version = d.0; names = d.1; grammars = d.2; graph = d.3; deck = d.4; done = done.2 })))
    (λ r. (refusal_line r.0, Refused, of_refused reads (record { refusal = r.0; refused = r.1; text_is = refl; status_is = refl })))
    (some bytes)

-- what is told of a phrase text that was read

some_told_of : SomePhrases → (job : Job) → job.command ≡ command.Phrase → (bytes : List ℕ) → (text : List ℕ) × (status : Status) × IsDefined job bytes text status
some_told_of some job phrase bytes =
    ⊎_elim
    (λ (version, names, grammars, lines, is).
    let (text, ending, tells) = some_phrases job.limit job.readings names grammars (phrases_accepted is) lines (lines_some is) 1 in (
      text,
      status_of ending,
      of_phrases phrase (record { version = version; names = names; grammars = grammars; lines = lines; phrases = is; ending = ending; tells = tells; status_is = refl }),
    ))
    (λ r. (refusal_line r.0, Refused, of_refused_phrases phrase (record { refusal = r.0; refused = r.1; text_is = refl; status_is = refl })))
    (some bytes)

-- what a made deck leaves

made_accepted : (k : ℕ) (rule : Rule) → rule ∈ (made_grammar k).rules → IsAccepted rule
made_accepted k =
    from_map level_rule (range_with_len 0 k) IsAccepted
    (λ i among. rule_accepted i (of_level i first_var (of_level i second_var no_pattern)) (of_level (i + 1) first_var no_pattern) refl refl)

made_valid : (k : ℕ) → IsValid (made_graph k)
made_valid k =
    let some : 0 < length (map (word_tree k) (words k)) = omega (arith, length-map-range_with_len (word_tree k) 1 (2 ^ k), pow_pos k) in
    line_valid 1 2 (map (word_tree k) (words k)) some refl (omega arith) (omega arith)

made_of : (L size : ℕ) (lefts : List Left) (ending : Ending) → Cascade L (made_graph size) ((made_grammar size).rules ∷ []) lefts ending
    → (text : List ℕ) × (status : Status) × IsMadeOf L size text status
made_of L size lefts ending (limit needs) =
    (summary L size over, Limit, record { left = over; ending = by_limit; cascade = limit needs; text_is = refl; status_is = refl })
made_of L size lefts ending (empty {C = C} closes few cleans none) =
    let left : Left = no_arc (length C.done) in
    (summary L size left, Done, record { left = left; ending = all_done; cascade = empty closes few cleans none; text_is = refl; status_is = refl })
made_of L size lefts ending (goes_on {H = H} {C = C} closes few cleans some no_more) =
    let left : Left = a_graph (length C.done) H in
    (summary L size left, Done, record { left = left; ending = all_done; cascade = goes_on closes few cleans some no_more; text_is = refl; status_is = refl })

some_made : (L size : ℕ) → (text : List ℕ) × (status : Status) × IsMadeOf L size text status
some_made L size =
    let accepted : (R : List Rule) → R ∈ ((made_grammar size).rules ∷ []) → (rule : Rule) → rule ∈ R → IsAccepted rule =
    λ R among. ⊎_elim (λ same. subst (λ (Q : List Rule). (rule : Rule) → rule ∈ Q → IsAccepted rule) (sym same) (made_accepted size)) (λ none. absurd none) among in
    let o = has_outcome L ((made_grammar size).rules ∷ []) accepted (made_graph size) (made_valid size) in
    made_of L size o.0 o.1 o.2

-- what is defined

some_for : SomeAnswer → SomePhrases → (job : Job) (bytes : List ℕ) (which : Command) → job.command ≡ which → (text : List ℕ) × (status : Status) × IsDefined job bytes text status
some_for some phrases job bytes command.Run same = some_read some job (subst ReadsDeck (sym same) tt) bytes
some_for some phrases job bytes command.Check same = some_read some job (subst ReadsDeck (sym same) tt) bytes
some_for some phrases job bytes command.Graph same = some_read some job (subst ReadsDeck (sym same) tt) bytes
some_for some phrases job bytes command.Explain same = some_read some job (subst ReadsDeck (sym same) tt) bytes
some_for some phrases job bytes command.Levels same = some_read some job (subst ReadsDeck (sym same) tt) bytes
some_for some phrases job bytes command.Phrase same = some_told_of phrases job same bytes
some_for some phrases job bytes command.Made same = let made = some_made job.limit job.size in (made.0, made.1, of_made same made.2)

pub some_definition : SomeAnswer → SomePhrases → (job : Job) (bytes : List ℕ) → (text : List ℕ) × (status : Status) × IsDefined job bytes text status
some_definition some phrases job bytes = some_for some phrases job bytes job.command refl
