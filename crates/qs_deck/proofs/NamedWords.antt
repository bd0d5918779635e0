-- Words that come behind names, one after the other, and the labels that they have there.
use Rattle.std.proofs.Common.{◌≡◌, ℕ, ◌+◌, ◌<◌, ◌≤◌, inl, inr, refl, sym, ◌∙◌, ap, subst, List, [], ◌∷◌, ◌++◌, length, map, arith, Some, slice_get, append_assoc, append-nil, length-append}
use Rattle.std.proofs.lemmas.List.{map-append, length-map}
use Rattle.std.proofs.lemmas.Option.{slice_get_within}
use Rattle.qs_tree.specs.declared.cell.Label.{Label}
use Rattle.qs_tree.specs.Names.{AreDistinct}
use Rattle.qs_tree.specs.Lists.{◌∈◌}
use Rattle.qs_tree.proofs.Decisions.{cons_parts}
use Rattle.qs_reader.specs.Names.{KeepsNames, AddsName}
use Rattle.qs_reader.proofs.Naming.{one_addition, still_distinct}
use Rattle.qs_reader.proofs.Additions.{addition_keeps}
use Rattle.qs_deck.specs.Segments.{Segment}
use Rattle.qs_deck.specs.PhraseTexts.{AddsWords, named_by, written_in}
use Rattle.qs_deck.specs.Named.{AreLinesNamed}
use Rattle.qs_deck.specs.working.Phrases.{AddsWord, AddsLabels}

-- ---- one name

longer : (old new : List (List ℕ)) (word : List ℕ) → AddsName old word new → length old ≤ length new
longer old new word (inl a) = omega (arith, ap length a.1)
longer old new word (inr a) = omega (arith, ap length a.1, length-append old (word ∷ []))

one_more : (old new : List (List ℕ)) (word : List ℕ) → AddsName old word new → length new ≤ length old + 1
one_more old new word (inl a) = omega (arith, ap length a.1)
one_more old new word (inr a) = omega (arith, ap length a.1, length-append old (word ∷ []))

-- ---- one after the other

pub words_on : (xs ys : List Segment) (old middle new : List (List ℕ)) → AddsWords xs old middle → AddsWords ys middle new → AddsWords (xs ++ ys) old new
words_on [] ys old middle new g h = subst (λ n. AddsWords ys n new) g h
words_on (x ∷ xs) ys old middle new g h = (g.0, g.1, words_on xs ys g.0 middle new g.2 h)

pub words_keep : (words : List Segment) (old new : List (List ℕ)) → AddsWords words old new → KeepsNames old new
words_keep [] old new g = λ k text e. subst (λ ns. slice_get ns k ≡ Some text) (sym g) e
words_keep (w ∷ words) old new g = λ k text e. words_keep words g.0 new g.2 k text (addition_keeps old g.0 w.bytes g.1 k text e)

pub words_longer : (words : List Segment) (old new : List (List ℕ)) → AddsWords words old new → length old ≤ length new
words_longer [] old new g = omega (arith, ap length g)
words_longer (w ∷ words) old new g = let more = words_longer words g.0 new g.2 in let here = longer old g.0 w.bytes g.1 in omega (arith, more, here)

pub one_adding : (words : List Segment) (old new other : List (List ℕ)) → AddsWords words old new → AddsWords words old other → new ≡ other
one_adding [] old new other g h = g ∙ sym h
one_adding (w ∷ words) old new other g h =
    let same : g.0 ≡ h.0 = one_addition old g.0 h.0 w.bytes g.1 h.1 in
    one_adding words h.0 new other (subst (λ n. AddsWords words n new) same g.2) h.2

pub words_distinct : (words : List Segment) (old new : List (List ℕ)) → AreDistinct old → AddsWords words old new → AreDistinct new
words_distinct [] old new distinct g = subst AreDistinct (sym g) distinct
words_distinct (w ∷ words) old new distinct g = words_distinct words g.0 new (still_distinct old g.0 w.bytes distinct g.1) g.2

-- ---- labels

-- labels stay those of their words
pub still_named : (labels : List Label) (words : List Segment) (old new : List (List ℕ)) → KeepsNames old new → named_by old labels ≡ written_in words → named_by new labels ≡ written_in words
still_named [] [] old new keep e = refl
still_named [] (w ∷ words) old new keep e = absurd cc
still_named (l ∷ labels) [] old new keep e = absurd cc
still_named (l ∷ labels) (w ∷ words) old new keep e =
    let here : slice_get new l.0 ≡ Some w.bytes = keep l.0 w.bytes (cons_parts e).0 in
    let more = still_named labels words old new keep (cons_parts e).1 in
    λ i. here i ∷ more i

-- labels of words behind others
pub named_on : (names : List (List ℕ)) (xs ys : List Label) (words more : List Segment) → named_by names xs ≡ written_in words → named_by names ys ≡ written_in more → named_by names (xs ++ ys) ≡ written_in (words ++ more)
named_on names xs ys words more e f =
    map-append (λ (l : Label). slice_get names l.0) xs ys ∙ (λ i. e i ++ f i) ∙ sym (map-append (λ (w : Segment). Some w.bytes) words more)

pub as_many : (names : List (List ℕ)) (labels : List Label) (words : List Segment) → named_by names labels ≡ written_in words → length labels ≡ length words
as_many names labels words e =
    sym (length-map labels (λ (l : Label). slice_get names l.0)) ∙ ap length e ∙ length-map words (λ (w : Segment). Some w.bytes)

-- no label and no word
pub adds_none : (names : List (List ℕ)) (before : List Label) → AddsLabels [] names names before before
adds_none names before = record { labels = []; adds = refl; named = refl; behind_is = sym (append-nil before) }

-- one word more
pub adds_one : (words : List Segment) (word : Segment) (old middle new : List (List ℕ)) (before between behind : List Label) → AddsLabels words old middle before between → AddsWord word.bytes middle new between behind
    → AddsLabels (words ++ word ∷ []) old new before behind
adds_one words word old middle new before between behind a b = record {
  labels = a.labels ++ b.label ∷ [];
  adds = words_on words (word ∷ []) old middle new a.adds (new, b.adds, refl);
  named = named_on new a.labels (b.label ∷ []) words (word ∷ []) (still_named a.labels words middle new (addition_keeps middle new word.bytes b.adds) a.named) (ap (λ o. o ∷ []) b.named);
  behind_is = b.behind_is ∙ ap (λ ls. ls ++ b.label ∷ []) a.behind_is ∙ append_assoc before a.labels (b.label ∷ []);
}

pub few_after_one : (old new : List (List ℕ)) (word : List ℕ) (before behind : List Label) → AddsWord word old new before behind → (length new ≤ length old + 1) × (length behind ≡ length before + 1)
few_after_one old new word before behind a = (one_more old new word a.adds, ap length a.behind_is ∙ length-append before (a.label ∷ []))

-- lines whose labels stand for words have labels among the names
label_among : (names : List (List ℕ)) (labels : List Label) (words : List Segment) → named_by names labels ≡ written_in words → (label : Label) → label ∈ labels → label.0 < length names
label_among names [] words e label i = absurd i
label_among names (l ∷ labels) [] e label i = absurd cc
label_among names (l ∷ labels) (w ∷ words) e label (inl same) = subst (λ (x : Label). x.0 < length names) (sym same) (slice_get_within names l.0 w.bytes (cons_parts e).0)
label_among names (l ∷ labels) (w ∷ words) e label (inr i) = label_among names labels words (cons_parts e).1 label i

pub lines_named : (names : List (List ℕ)) (lines : List (List Label)) (words : List (List Segment)) → map (named_by names) lines ≡ map written_in words → AreLinesNamed (length names) lines
lines_named names [] words e line i label j = absurd i
lines_named names (l ∷ lines) [] e line i label j = absurd cc
lines_named names (l ∷ lines) (w ∷ words) e line (inl same) label j = label_among names l w (cons_parts e).0 label (subst (λ ls. label ∈ ls) same j)
lines_named names (l ∷ lines) (w ∷ words) e line (inr i) label j = lines_named names lines words (cons_parts e).1 line i label j

-- labels that stand for the same texts are the same
one_label : (names : List (List ℕ)) → AreDistinct names → (labels others : List Label) (words : List Segment) → named_by names labels ≡ written_in words → named_by names others ≡ written_in words → labels ≡ others
one_label names distinct [] [] words e f = refl
one_label names distinct [] (m ∷ others) [] e f = absurd cc
one_label names distinct [] (m ∷ others) (w ∷ words) e f = absurd cc
one_label names distinct (l ∷ labels) others [] e f = absurd cc
one_label names distinct (l ∷ labels) [] (w ∷ words) e f = absurd cc
one_label names distinct (l ∷ labels) (m ∷ others) (w ∷ words) e f =
    let here : l.0 ≡ m.0 = distinct l.0 m.0 w.bytes (cons_parts e).0 (cons_parts f).0 in
    let more = one_label names distinct labels others words (cons_parts e).1 (cons_parts f).1 in
    λ i. record { 0 = here i } ∷ more i

pub one_lines : (names : List (List ℕ)) → AreDistinct names → (lines others : List (List Label)) (words : List (List Segment)) → map (named_by names) lines ≡ map written_in words → map (named_by names) others ≡ map written_in words → lines ≡ others
one_lines names distinct [] [] words e f = refl
one_lines names distinct [] (m ∷ others) [] e f = absurd cc
one_lines names distinct [] (m ∷ others) (w ∷ words) e f = absurd cc
one_lines names distinct (l ∷ lines) others [] e f = absurd cc
one_lines names distinct (l ∷ lines) [] (w ∷ words) e f = absurd cc
one_lines names distinct (l ∷ lines) (m ∷ others) (w ∷ words) e f =
    let here = one_label names distinct l m w (cons_parts e).0 (cons_parts f).0 in
    let more = one_lines names distinct lines others words (cons_parts e).1 (cons_parts f).1 in
    λ i. here i ∷ more i
