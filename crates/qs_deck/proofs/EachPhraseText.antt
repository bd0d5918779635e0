-- Each text means a phrase text or has a first fault.
use Rattle.std.proofs.Common.{◌≡◌, ◌⊎◌, ℕ, ◌<◌, ◌≤◌, Bool, true, false, cond, refl, sym, ◌∙◌, ap, inl, inr, ⊎_elim, Option, Some, None, List, [], ◌∷◌, ◌++◌, length, map, slice_get, arith, nat_lt}
use Rattle.std.specs.Str.{IsUtf8, is_utf8}
use Rattle.std.specs.Str.Lossy.{utf8_valid_len}
use Rattle.std.specs.List.{All, flat_map}
use Rattle.std.proofs.lemmas.Bool.{false≢true, cases_lt, lt-ltb}
use Rattle.std.proofs.lemmas.List.Elements.{All-nil, All-cons}
use Rattle.std.proofs.lemmas.Str.{IsUtf8-from_is_utf8, is_utf8-from_IsUtf8}
use Rattle.qs_tree.proofs.Elements.{exists_at}
use Rattle.qs_lex.specs.declared.refusal.Cause.{Cause}
use Rattle.qs_lex.specs.declared.refusal.Cause.TheVariants.{NotUtf8, Syntax, TooManyArcs}
use Rattle.qs_lex.specs.declared.refusal.Refusal.{Refusal}
use Rattle.qs_lex.specs.Refusals.{IsRefusedFor}
use Rattle.qs_lex.proofs.Refusing.{some_refusal}
use Rattle.qs_tree.specs.declared.cell.Label.{Label}
use Rattle.qs_deck.specs.Limits.{most_words}
use Rattle.qs_deck.specs.WrittenDecks.{WrittenSystem}
use Rattle.qs_deck.specs.Decks.{Grammar, meaning_of}
use Rattle.qs_deck.specs.GrammarLists.{AreWritten, AreGrammarsOf}
use Rattle.qs_deck.specs.Segments.{Segment}
use Rattle.qs_deck.specs.PhraseTexts.{border_of, grammar_part, lines_behind, words_of, IsShort, lines_with_words, AddsWords, named_by, written_in, IsPhraseText, IsPhraseFault, bytes, unwritten, no_border, check, too_many_words}
use Rattle.qs_deck.specs.LinesOfWords.{parted}
use Rattle.qs_deck.specs.working.Phrases.{ends_of, flat}
use Rattle.qs_deck.proofs.Meanings.{list_can}
use Rattle.qs_deck.proofs.EachText.{checks_decided}
use Rattle.qs_deck.proofs.EachList.{written_or_not}
use Rattle.qs_deck.proofs.NamedWords.{words_keep}
use Rattle.qs_deck.proofs.LinesRead.{lines_apart}
use Rattle.qs_deck.proofs.BorderLines.{part_utf8}
use Rattle.qs_reader.proofs.Additions.{name_added}

-- ---- names

pub all_named : (words : List Segment) (old : List (List ℕ)) → (new : List (List ℕ)) × AddsWords words old new × (labels : List Label) × (named_by new labels ≡ written_in words)
all_named [] old = (old, refl, [], refl)
all_named (w ∷ words) old =
    let a = name_added old w.bytes in
    let more = all_named words a.0 in
    let here : slice_get more.0 a.2 ≡ Some w.bytes = words_keep words a.0 more.0 more.1 a.2 w.bytes a.3 in
    let labels = more.2 in
    let named = more.3 in
    (more.0, (a.0, a.1, more.1), record { 0 = a.2 } ∷ labels, λ i. here i ∷ named i)

-- the words of all lines are those of the lines with words
flat_same : (lines : List Segment) → flat (lines_with_words lines) ≡ flat_map words_of lines
flat_same [] = refl
flat_same (l ∷ lines) = ⊎_elim (some (flat_same lines)) (none (flat_same lines)) (cases_lt 0 (length (words_of l)))
  where
    some : flat (lines_with_words lines) ≡ flat_map words_of lines → 0 < length (words_of l) → flat (lines_with_words (l ∷ lines)) ≡ flat_map words_of (l ∷ lines)
    some more here =
        ap (λ b. flat (cond b (words_of l ∷ lines_with_words lines) (lines_with_words lines))) (lt-ltb 0 (length (words_of l)) here) ∙ ap (λ ws. words_of l ++ ws) more

    nothing : {X : Type 0} (xs : List X) → length xs ≡ 0 → [] ≡ xs
    nothing [] e = refl
    nothing (x ∷ xs) e = absurd (omega (arith, e))

    none : flat (lines_with_words lines) ≡ flat_map words_of lines → length (words_of l) ≤ 0 → flat (lines_with_words (l ∷ lines)) ≡ flat_map words_of (l ∷ lines)
    none more here =
        let empty : length (words_of l) ≡ 0 = omega (arith, here) in
        ap (λ k. flat (cond (nat_lt 0 k) (words_of l ∷ lines_with_words lines) (lines_with_words lines))) empty ∙ more ∙ ap (λ ws. ws ++ flat_map words_of lines) (nothing (words_of l) empty)

-- ---- lines

record HasLong (lines : List Segment) : Type 0 where
  front : List Segment
  line : Segment
  more : List Segment
  word : Segment
  are : lines ≡ front ++ line ∷ more
  short : All IsShort front
  word_is : slice_get (words_of line) most_words ≡ Some word

short_or_long : (lines : List Segment) → All IsShort lines ⊎ HasLong lines
short_or_long [] = inl (All-nil IsShort)
short_or_long (l ∷ lines) = ⊎_elim long (short (short_or_long lines)) (cases_lt most_words (length (words_of l)))
  where
    long : most_words < length (words_of l) → All IsShort (l ∷ lines) ⊎ HasLong (l ∷ lines)
    long more = let w = exists_at (words_of l) most_words more in inr (record { front = []; line = l; more = lines; word = w.0; are = refl; short = All-nil IsShort; word_is = w.1 })

    short : All IsShort lines ⊎ HasLong lines → length (words_of l) ≤ most_words → All IsShort (l ∷ lines) ⊎ HasLong (l ∷ lines)
    short others here =
        ⊎_elim (λ all. inl (All-cons IsShort l lines here all))
        (λ h. inr (record { front = l ∷ h.front; line = h.line; more = h.more; word = h.word; are = ap (λ ls. l ∷ ls) h.are; short = All-cons IsShort l h.front here h.short; word_is = h.word_is }))
        others

-- ---- texts

abbrev IsDecided : List ℕ → Type 0
IsDecided text =
    ((version : ℕ) × (names : List (List ℕ)) × (grammars : List Grammar) × (lines : List (List Label)) × IsPhraseText text version names grammars lines) ⊎ ((at : ℕ) × (cause : Cause) × IsPhraseFault text at cause)

of_grammars : (text : List ℕ) (border version : ℕ) (names : List (List ℕ)) (grammars : List Grammar) → IsUtf8 text → border_of text ≡ Some border → AreGrammarsOf (grammar_part text) version names grammars → IsDecided text
of_grammars text border version names grammars utf8 is of = ⊎_elim short long (short_or_long (lines_behind text border))
  where
    short : All IsShort (lines_behind text border) → IsDecided text
    short all =
        let n = all_named (flat_map words_of (lines_behind text border)) names in
        let same : named_by n.0 n.2 ≡ written_in (flat (lines_with_words (lines_behind text border))) = n.3 ∙ ap written_in (sym (flat_same (lines_behind text border))) in
        inl (
          version,
          n.0,
          grammars,
          parted 0 n.2 (ends_of 0 (lines_with_words (lines_behind text border))),
          record {
            utf8 = utf8;
            border = border;
            border_is = is;
            grammar_names = names;
            are_grammars = of;
            short = all;
            names_are = n.1;
            lines_are = lines_apart n.0 0 n.2 (lines_with_words (lines_behind text border)) same;
          },
        )

    long : HasLong (lines_behind text border) → IsDecided text
    long h = inr (h.word.at, TooManyArcs, too_many_words border version names grammars h.front h.more h.line h.word utf8 is of h.are h.short h.word_is)

of_written : (text : List ℕ) (version : ℕ) (names : List (List ℕ)) (systems : List WrittenSystem) → IsUtf8 text → AreWritten (grammar_part text) version names systems → IsDecided text
of_written text version names systems utf8 w = by (border_of text) refl
  where
    by : (o : Option ℕ) → border_of text ≡ o → IsDecided text
    by None e = inr (length text, Syntax, no_border version names systems utf8 w e)
    by (Some border) e =
        ⊎_elim
        (λ good. of_grammars text border version names (map meaning_of systems) utf8 e (record { written = systems; are_written = w; checked = good; grammars_are = refl }))
        (λ f. inr (f.0, f.1, check border version names systems utf8 e w f.2))
        (checks_decided systems (list_can (grammar_part text) version names systems w))

of_bytes : (text : List ℕ) → IsDecided text
of_bytes text = by (is_utf8 text) refl
  where
    by : (b : Bool) → is_utf8 text ≡ b → IsDecided text
    by true e =
        let utf8 = IsUtf8-from_is_utf8 text e in
        ⊎_elim (λ w. of_written text w.0 w.1 w.2 utf8 w.3) (λ f. inr (f.0, f.1, unwritten utf8 f.2)) (written_or_not (grammar_part text) (part_utf8 text utf8))
    by false e = inr (utf8_valid_len text, NotUtf8, bytes (λ utf8. false≢true (sym e ∙ is_utf8-from_IsUtf8 text utf8)))

-- a text means a phrase text or is refused
pub each_phrase_text : (text : List ℕ) → ((version : ℕ) × (names : List (List ℕ)) × (grammars : List Grammar) × (lines : List (List Label)) × IsPhraseText text version names grammars lines) ⊎ ((r : Refusal) × IsRefusedFor IsPhraseFault text r)
each_phrase_text text =
    ⊎_elim (λ d. inl d)
    (λ f. inr (some_refusal IsPhraseFault text f.0 f.1 f.2))
    (of_bytes text)
