-- What is told of lines of words: there is one text of it.
use Rattle.std.proofs.Common.{◌≡◌, ◌<◌, ◌+◌, ℕ, Option, Some, None, slice_get, List, [], ◌∷◌, ◌++◌, length, map, true, refl, sym, ◌∙◌, ap, subst, inl, inr, arith, length-append}
use Rattle.std.specs.Prelude.{codes}
use Rattle.std.proofs.lemmas.List.{length-map}
use Rattle.std.proofs.lemmas.Bool.Decides.{nat_tests}
use Rattle.qs_tree.specs.declared.cell.Label.{Label}
use Rattle.qs_tree.specs.Lists.{◌∈◌}
use Rattle.qs_tree.proofs.Members.{from_filter}
use Rattle.qs_pattern.specs.Rules.{Rule}
use Rattle.qs_graph.specs.Graphs.{QGraph, IsValid}
use Rattle.qs_graph.proofs.Lines.{line_valid}
use Rattle.qs_graphtext.specs.Texts.{line}
use Rattle.qs_clean.specs.Cascades.{Cascade, Left, a_graph, no_arc, over, Ending, all_done, by_limit, no_more, limit, empty, goes_on}
use Rattle.qs_clean.proofs.CascadeExistence.{reached_valid, has_outcome, AllAccepted}
use Rattle.qs_cascade.specs.declared.stages.StageEnd.TheVariants as end
use Rattle.qs_cascade.specs.Stages.{LeavesGraph, IsStageEnd}
use Rattle.qs_phrase.specs.Words.{word_tree, graph_of_words}
use Rattle.qs_deck.specs.Decks.{Grammar}
use Rattle.qs_deck.specs.Segments.{Segment}
use Rattle.qs_deck.specs.PhraseTexts.{IsPhraseText, has_words, lines_behind, lines_with_words, named_by, words_of, written_in}
use Rattle.qs_telling.specs.Cascading.{AreAccepted}
use Rattle.qs_telling.specs.Texts.{limit_line}
use Rattle.qs_telling.specs.Outcomes.{last_graph}
use Rattle.qs_telling.specs.PhraseTexts.{EndsWith, TellsLast, TellsPhrase, TellsPhrases, no_line, line_first, either_by_limit, phrase_line}
use Rattle.qs_telling.proofs.Outcomes.{all_accepted}
use Rattle.qs_telling.proofs.ReadingsTold.{one_readings, some_readings}

-- a cascade leaves one list
abbrev pub OneCascade : Type 0
OneCascade = (L : ℕ) (G : QGraph) (Rs : List (List Rule)) (l m : List Left) (e d : Ending) → Cascade L G Rs l e → Cascade L G Rs m d → (l ≡ m) × (e ≡ d)

-- ---- how the cascade of a line ends

module _ (L : ℕ) where
  -- without grammars the graph is left
  pub none_ends : (G : QGraph) → EndsWith L [] G all_done (Some G)
  none_ends G = record { lefts = []; cascade = no_more; last_is = refl }

  -- a grammar that leaves a graph, and then the others
  pub more_ends : (G H : QGraph) (firings : ℕ) (grammar : Grammar) (others : List Grammar) (ending : Ending) (last : Option QGraph)
      → LeavesGraph grammar.rules G L firings H → 0 < length H.arcs → EndsWith L others H ending last → EndsWith L (grammar ∷ others) G ending last
  more_ends G H firings grammar others ending last leaves some o = record {
    lefts = a_graph (length leaves.closure.done) H ∷ o.lefts;
    cascade = goes_on leaves.closes leaves.few leaves.cleans some o.cascade;
    last_is = o.last_is;
  }

  -- a grammar that leaves no arc is the last one
  pub empty_ends : (G E : QGraph) (firings : ℕ) (grammar : Grammar) (others : List Grammar) → LeavesGraph grammar.rules G L firings E → E.arcs ≡ []
      → EndsWith L (grammar ∷ others) G all_done None
  empty_ends G E firings grammar others leaves none = record {
    lefts = no_arc (length leaves.closure.done) ∷ [];
    cascade = empty leaves.closes leaves.few leaves.cleans none;
    last_is = refl;
  }

  -- and so is one that needs more firings than the limit
  pub limit_ends : (G : QGraph) (grammar : Grammar) (others : List Grammar) → IsStageEnd grammar.rules G L end.Over → EndsWith L (grammar ∷ others) G by_limit None
  limit_ends G grammar others needs = record { lefts = over ∷ []; cascade = limit needs; last_is = refl }

one_end : OneCascade → (L : ℕ) (grammars : List Grammar) (G : QGraph) (e d : Ending) (l m : Option QGraph) → EndsWith L grammars G e l → EndsWith L grammars G d m → (e ≡ d) × (l ≡ m)
one_end one_cascade L grammars G e d l m a b =
    let both = one_cascade L G (map (λ grammar. grammar.rules) grammars) a.lefts b.lefts e d a.cascade b.cascade in
    (both.1, sym a.last_is ∙ ap (last_graph G) both.0 ∙ b.last_is)

-- a graph that is left at last is valid
last_valid : {L : ℕ} {G : QGraph} {Rs : List (List Rule)} {lefts : List Left} {ending : Ending} → Cascade L G Rs lefts ending → AllAccepted Rs → IsValid G
    → (H : QGraph) → last_graph G lefts ≡ Some H → IsValid H
last_valid no_more accepted valid H e = subst IsValid (some_same e) valid
  where
    some_same : {G H : QGraph} → Some G ≡ Some H → G ≡ H
    some_same e = cc
last_valid (limit needs) accepted valid H e = absurd cc
last_valid (empty closes few cleans none) accepted valid H e = absurd cc
last_valid {G = G} (goes_on {H = K} {R = R} {C = C} closes few cleans some rest) accepted valid H e =
    last_valid rest (λ Q i. accepted Q (inr i)) (reached_valid R (accepted R (inl refl)) G valid closes.rounds C closes.reached K cleans some) H e

-- ---- the block of a line

one_last : (L most : ℕ) (names : List (List ℕ)) (ending : Ending) (last : Option QGraph) (t u : List ℕ) → TellsLast L most names ending last t → TellsLast L most names ending last u → t ≡ u
one_last L most names all_done (Some G) t u a b = one_readings most names G t u a b
one_last L most names all_done None t u a b = a ∙ sym b
one_last L most names by_limit last t u a b = a ∙ sym b

some_last : (L most : ℕ) (names : List (List ℕ)) (ending : Ending) (last : Option QGraph) → ((G : QGraph) → last ≡ Some G → IsValid G) → (text : List ℕ) × TellsLast L most names ending last text
some_last L most names all_done (Some G) valid = some_readings G (valid G refl) most names
some_last L most names all_done None valid = (line (codes "-VIDE-."), refl)
some_last L most names by_limit last valid = (limit_line L, refl)

module _ (L most : ℕ) (names : List (List ℕ)) (grammars : List Grammar) where
  pub one_phrase : OneCascade → (G : QGraph) (t u : List ℕ) (e d : Ending) → TellsPhrase L most names grammars G t e → TellsPhrase L most names grammars G u d → (t ≡ u) × (e ≡ d)
  one_phrase one_cascade G t u e d a b =
      let both = one_end one_cascade L grammars G e d a.last b.last a.ends b.ends in
      let told : TellsLast L most names d b.last t =
      subst (λ l. TellsLast L most names d l t) both.1 (subst (λ f. TellsLast L most names f a.last t) both.0 a.told) in
      (one_last L most names d b.last t u told b.told, both.0)

  pub some_phrase : AreAccepted grammars → (G : QGraph) → IsValid G → (text : List ℕ) × (ending : Ending) × TellsPhrase L most names grammars G text ending
  some_phrase accepted G valid =
      let (lefts, ending, cascade) = has_outcome L (map (λ grammar. grammar.rules) grammars) (all_accepted grammars accepted) G valid in
      let (text, told) = some_last L most names ending (last_graph G lefts) (λ H e. last_valid cascade (all_accepted grammars accepted) valid H e) in
      (text, ending, record { last = last_graph G lefts; ends = record { lefts = lefts; cascade = cascade; last_is = refl }; told = told })

  -- ---- the blocks of lines

  pub one_phrases : OneCascade → {k : ℕ} {lines : List (List Label)} {t u : List ℕ} {e d : Ending} → TellsPhrases L most names grammars k lines t e → TellsPhrases L most names grammars k lines u d
      → (t ≡ u) × (e ≡ d)
  one_phrases one_cascade no_line no_line = (refl, refl)
  one_phrases one_cascade {k = k} (line_first {words = words} {text = t} {ending = e} a more) (line_first {text = u} {ending = d} b others) =
      let here = one_phrase one_cascade (graph_of_words words) t u e d a b in
      let there = one_phrases one_cascade more others in
      ((λ i. (phrase_line k ++ here.0 i) ++ there.0 i), (λ i. either_by_limit (here.1 i) (there.1 i)))

  -- the graph of a line with words is valid
  pub words_valid : (words : List Label) → 0 < length words → IsValid (graph_of_words words)
  words_valid words some = line_valid 1 2 (map word_tree words) (omega (arith, some, length-map words word_tree)) refl (omega arith) (omega arith)

  pub some_phrases : AreAccepted grammars → (lines : List (List Label)) → ((words : List Label) → words ∈ lines → 0 < length words) → (k : ℕ)
      → (text : List ℕ) × (ending : Ending) × TellsPhrases L most names grammars k lines text ending
  some_phrases accepted [] some k = ([], all_done, no_line)
  some_phrases accepted (words ∷ lines) some k =
      let (text, ending, told) = some_phrase accepted (graph_of_words words) (words_valid words (some words (inl refl))) in
      let (rest, others, tells) = some_phrases accepted lines (λ w i. some w (inr i)) (k + 1) in
      ((phrase_line k ++ text) ++ rest, either_by_limit ending others, line_first told tells)

  -- what is told of at least one line is not empty
  pub phrases_some : {k : ℕ} {words : List Label} {lines : List (List Label)} {text : List ℕ} {ending : Ending} → TellsPhrases L most names grammars k (words ∷ lines) text ending → 0 < length text
  phrases_some {k = k} (line_first {text = text} {rest = rest} told tells) =
      omega (arith, length-append (phrase_line k ++ text) rest, length-append (phrase_line k) text, line_some k)
    where
      line_some : (k : ℕ) → 0 < length (phrase_line k)
      line_some k = omega arith

-- ---- the lines of a phrase text have words

each_written : (lines : List (List Label)) (written : List (List Segment)) (names : List (List ℕ)) → map (named_by names) lines ≡ map written_in written
    → ((words : List Segment) → words ∈ written → 0 < length words) → (words : List Label) → words ∈ lines → 0 < length words
each_written [] written names e some words i = absurd i
each_written (line ∷ lines) [] names e some words i = absurd cc
each_written (line ∷ lines) (first ∷ written) names e some words (inl same) =
    let head : named_by names line ≡ written_in first = cc in
    let long : length line ≡ length first = sym (length-map line (λ label. slice_get names label.0)) ∙ ap length head ∙ length-map first (λ word. Some word.bytes) in
    omega (arith, ap length same, long, some first (inl refl))
each_written (line ∷ lines) (first ∷ written) names e some words (inr i) =
    let rest : map (named_by names) lines ≡ map written_in written = cc in
    each_written lines written names rest (λ w j. some w (inr j)) words i

pub lines_some : {bytes : List ℕ} {version : ℕ} {names : List (List ℕ)} {grammars : List Grammar} {lines : List (List Label)} → IsPhraseText bytes version names grammars lines
    → (words : List Label) → words ∈ lines → 0 < length words
lines_some {bytes = bytes} {names = names} {lines = lines} p =
    let all : List Segment = lines_behind bytes p.border in
    each_written lines (lines_with_words all) names p.lines_are
    (λ words i. let has : has_words words ≡ true = (from_filter has_words (map words_of all) words i).0 in grind (arith, nat_tests, has))
