-- A text means one phrase text, or has one first fault of such a text, and not both.
use Rattle.std.proofs.Common.{◌≡◌, ℕ, refl, sym, ◌∙◌, ap, subst, Option, Some, None, List, [], ◌∷◌, ◌++◌, map, slice_get, arith}
use Rattle.std.specs.List.{All, flat_map}
use Rattle.std.proofs.lemmas.List.Elements.{All-head, All-tail}
use Rattle.std.proofs.lemmas.Option.{slice_get_within}
use Rattle.qs_lex.specs.declared.refusal.Cause.{Cause}
use Rattle.qs_lex.specs.declared.refusal.Refusal.{Refusal}
use Rattle.qs_lex.specs.Refusals.{IsRefusedFor}
use Rattle.qs_lex.proofs.Refusing as refusing
use Rattle.qs_tree.specs.declared.cell.Label.{Label}
use Rattle.qs_reader.proofs.Naming.{grow_distinct}
use Rattle.qs_deck.specs.Limits.{most_words}
use Rattle.qs_deck.specs.Decks.{Grammar}
use Rattle.qs_deck.specs.Segments.{Segment}
use Rattle.qs_deck.specs.PhraseTexts.{grammar_part, lines_behind, words_of, IsShort, lines_with_words, AddsWords, named_by, written_in, IsPhraseText, IsPhraseFault, bytes, unwritten, no_border, check, too_many_words}
use Rattle.qs_deck.proofs.OneFault.{none_twice}
use Rattle.qs_deck.proofs.OneList as lists
use Rattle.qs_deck.proofs.NamedWords.{one_adding, words_distinct, one_lines}
use Rattle.qs_tree.proofs.Decisions.{cons_parts, same_there}

never_none : {x : ℕ} {o : Option ℕ} → o ≡ Some x → o ≡ None → ⊥
never_none e f = absurd cc

-- a line with too many words isn't short
not_short : (line word : Segment) → IsShort line → slice_get (words_of line) most_words ≡ Some word → ⊥
not_short line word short e = let l = slice_get_within (words_of line) most_words word e in absurd (omega (arith, short, l))

not_all_short : (front more : List Segment) (line word : Segment) (all : List Segment) → all ≡ front ++ line ∷ more → All IsShort all → slice_get (words_of line) most_words ≡ Some word → ⊥
not_all_short [] more line word [] are short e = absurd cc
not_all_short (l ∷ front) more line word [] are short e = absurd cc
not_all_short [] more line word (x ∷ all) are short e = not_short line word (subst IsShort (cons_parts are).0 (All-head IsShort x all short)) e
not_all_short (l ∷ front) more line word (x ∷ all) are short e = not_all_short front more line word all (cons_parts are).1 (All-tail IsShort x all short) e

-- the first line with too many words is one
one_long : (front others more further : List Segment) (line next word other : Segment) → front ++ line ∷ more ≡ others ++ next ∷ further → All IsShort front → All IsShort others
    → slice_get (words_of line) most_words ≡ Some word → slice_get (words_of next) most_words ≡ Some other → word.at ≡ other.at
one_long [] [] more further line next word other same a b e f =
    let here : line ≡ next = (cons_parts same).0 in
    let found : Some word ≡ Some other = sym e ∙ ap (λ (l : Segment). slice_get (words_of l) most_words) here ∙ f in
    by_some found
  where
    by_some : {x y : Segment} → Some x ≡ Some y → x.at ≡ y.at
    by_some h = cc
one_long [] (x ∷ others) more further line next word other same a b e f =
    absurd (not_short line word (subst IsShort (sym (cons_parts same).0) (All-head IsShort x others b)) e)
one_long (x ∷ front) [] more further line next word other same a b e f =
    absurd (not_short next other (subst IsShort (cons_parts same).0 (All-head IsShort x front a)) f)
one_long (x ∷ front) (y ∷ others) more further line next word other same a b e f =
    one_long front others more further line next word other (cons_parts same).1 (All-tail IsShort x front a) (All-tail IsShort y others b) e f

-- each phase finds a fault only where those in front of it find none
one_fault : {text : List ℕ} {p q : ℕ} {c d : Cause} → IsPhraseFault text p c → IsPhraseFault text q d → (p ≡ q) × (c ≡ d)
one_fault (bytes not) (bytes never) = (refl, refl)
one_fault (bytes not) (unwritten utf8 g) = absurd (not utf8)
one_fault (bytes not) (no_border w others e utf8 g h) = absurd (not utf8)
one_fault (bytes not) (check b w others e utf8 g h k) = absurd (not utf8)
one_fault (bytes not) (too_many_words b w others e front more line word utf8 g h k l m) = absurd (not utf8)
one_fault (unwritten utf8 f) (bytes never) = absurd (never utf8)
one_fault (unwritten utf8 f) (unwritten too g) = lists.one_list_fault f g
one_fault (unwritten utf8 f) (no_border w others e too g h) = absurd (lists.written_without_fault g f)
one_fault (unwritten utf8 f) (check b w others e too g h k) = absurd (lists.written_without_fault h f)
one_fault (unwritten utf8 f) (too_many_words b w others e front more line word too g h k l m) = absurd (lists.written_without_fault h.are_written f)
one_fault (no_border v names s utf8 f n) (bytes never) = absurd (never utf8)
one_fault (no_border v names s utf8 f n) (unwritten too g) = absurd (lists.written_without_fault f g)
one_fault (no_border v names s utf8 f n) (no_border w others e too g h) = (refl, refl)
one_fault (no_border v names s utf8 f n) (check b w others e too g h k) = absurd (never_none g n)
one_fault (no_border v names s utf8 f n) (too_many_words b w others e front more line word too g h k l m) = absurd (never_none g n)
one_fault (check a v names s utf8 i f j) (bytes never) = absurd (never utf8)
one_fault (check a v names s utf8 i f j) (unwritten too g) = absurd (lists.written_without_fault f g)
one_fault (check a v names s utf8 i f j) (no_border w others e too g h) = absurd (never_none i h)
one_fault (check a v names s utf8 i f j) (check b w others e too g h k) = lists.one_check_fault f h j k
one_fault (check a v names s utf8 i f j) (too_many_words b w others e front more line word too g h k l m) = absurd (lists.grammars_without_check h f j)
one_fault (too_many_words a v names s front more line word utf8 i f j o r) (bytes never) = absurd (never utf8)
one_fault (too_many_words a v names s front more line word utf8 i f j o r) (unwritten too g) = absurd (lists.written_without_fault f.are_written g)
one_fault (too_many_words a v names s front more line word utf8 i f j o r) (no_border w others e too g h) = absurd (never_none i h)
one_fault (too_many_words a v names s front more line word utf8 i f j o r) (check b w others e too g h k) = absurd (lists.grammars_without_check f h k)
one_fault {text} (too_many_words a v names s front more line word utf8 i f j o r) (too_many_words b w others e before behind next other too g h k l m) =
    let same : a ≡ b = same_there i g in
    (one_long front before more behind line next word other (sym j ∙ ap (lines_behind text) same ∙ k) o l r m, refl)

no_fault : {text : List ℕ} {version : ℕ} {names : List (List ℕ)} {grammars : List Grammar} {lines : List (List Label)} {p : ℕ} {c : Cause} → IsPhraseText text version names grammars lines → IsPhraseFault text p c → ⊥
no_fault of (bytes never) = never of.utf8
no_fault of (unwritten utf8 f) = lists.written_without_fault of.are_grammars.are_written f
no_fault of (no_border w others e utf8 g h) = never_none of.border_is h
no_fault of (check b w others e utf8 g h k) = lists.grammars_without_check of.are_grammars h k
no_fault {text} of (too_many_words b w others e front more line word utf8 g h k l m) =
    let same : of.border ≡ b = same_there of.border_is g in
    not_all_short front more line word (lines_behind text of.border) (ap (lines_behind text) same ∙ k) of.short m

-- ---- the answers

pub one_meaning : {text : List ℕ} {v w : ℕ} {names others : List (List ℕ)} {grammars more : List Grammar} {lines further : List (List Label)}
    → IsPhraseText text v names grammars lines → IsPhraseText text w others more further → (v ≡ w) × (names ≡ others) × (grammars ≡ more) × (lines ≡ further)
one_meaning {text} {names = names} {others = others} {lines = lines} {further = further} a b =
    let border : b.border ≡ a.border = same_there b.border_is a.border_is in
    let one = lists.one_meaning a.are_grammars b.are_grammars in
    let adds = subst (λ old. AddsWords (flat_map words_of (lines_behind text a.border)) old others) (sym one.1) (subst (λ at. AddsWords (flat_map words_of (lines_behind text at)) b.grammar_names others) border b.names_are) in
    let same : names ≡ others = one_adding (flat_map words_of (lines_behind text a.border)) a.grammar_names names others a.names_are adds in
    let written = a.are_grammars.are_written in
    let distinct = words_distinct (flat_map words_of (lines_behind text a.border)) a.grammar_names names (grow_distinct (grammar_part text) written.body [] a.grammar_names none_twice written.names_are) a.names_are in
    let rest : map (named_by names) further ≡ map written_in (lines_with_words (lines_behind text a.border)) =
    ap (λ ns. map (named_by ns) further) same ∙ b.lines_are ∙ ap (λ at. map written_in (lines_with_words (lines_behind text at))) border
    in
    (one.0, same, one.2, one_lines names distinct lines further (lines_with_words (lines_behind text a.border)) a.lines_are rest)

pub one_refusal : {text : List ℕ} {r s : Refusal} → IsRefusedFor IsPhraseFault text r → IsRefusedFor IsPhraseFault text s → r ≡ s
one_refusal a b = refusing.one_refusal (λ p q c d f g. one_fault f g) a b

pub not_both : {text : List ℕ} {version : ℕ} {names : List (List ℕ)} {grammars : List Grammar} {lines : List (List Label)} {r : Refusal} → IsPhraseText text version names grammars lines → IsRefusedFor IsPhraseFault text r → ⊥
not_both of refused = no_fault of refused.fault
