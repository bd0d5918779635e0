-- Tokens begin and end between characters.
use Rattle.std.proofs.Common.{◌≡◌, ℕ, zero, suc, ◌+◌, ◌-◌, ◌<◌, ◌≤◌, Bool, true, false, cond, List, [], ◌∷◌, ◌++◌, length, get_or, drop, refl, sym, ap, ◌∙◌, subst, ⊎_elim, inl, inr, arith, IsUtf8, length-drop, length-append, length-take, ◌||◌, eqb, ltb}
use Rattle.std.specs.Prelude.{◌⊎◌, IsCharBoundary, slice_range, decimal}
use Rattle.std.specs.Char.{is_ascii_digit}
use Rattle.std.proofs.lemmas.List.{get_or-drop, get_or-take, get_or_at}
use Rattle.std.proofs.lemmas.Bool.{eqb-true, ltb-true, or_parts, cases_lt}
use Rattle.std.proofs.lemmas.Bool.Decides.{nat_tests}
use Rattle.std.proofs.lemmas.Str.{IsCharBoundary-end, IsCharBoundary-before_ascii, IsCharBoundary-after_ascii}
use Rattle.qs_tree.specs.Text.{is_label_byte, doubled}
use Rattle.qs_lex.specs.Characters.{is_space, is_variable_letter, Each, BeginsWithNo}
use Rattle.qs_lex.specs.Spelling.{Spells, EndsBefore, name_of, suffix_of}
use Rattle.qs_lex.specs.Tokens.{blank_len, comment_len, next_place, StandsIn}
use Rattle.qs_lex.specs.declared.token.Token.{Token}
use Rattle.qs_lex.specs.declared.token.Kind.{Kind}
use Rattle.qs_lex.specs.declared.token.Kind.TheVariants.{Bare, Quoted, Variable, Node, Word as a_word, Opening, Closing, Comma, Plus, Slash, Equals, Stop}
use Rattle.qs_lex.proofs.Choices.{each_weaker}
use Rattle.qs_lex.proofs.Scanned.{suffix_digits}
use Rattle.qs_lex.proofs.Standing.{has_byte}

-- the byte before n is ASCII
pub record IsBehindAscii (bytes : List ℕ) (n : ℕ) : Type 0 where
  pub before : ℕ
  pub next : n ≡ before + 1
  pub within : before < length bytes
  pub ascii : get_or bytes before 0 < 128

-- n bytes on is the end or is behind an ASCII byte
abbrev EndsWell : List ℕ → ℕ → Type 0
EndsWell bytes n = (n ≡ length bytes) ⊎ IsBehindAscii bytes n

behind_first : (b : ℕ) (bs : List ℕ) → b < 128 → EndsWell (b ∷ bs) 1
behind_first b bs ascii = inr (record { before = 0; next = refl; within = omega arith; ascii = ascii })

one_on : (b : ℕ) (bs : List ℕ) (n : ℕ) → EndsWell bs n → EndsWell (b ∷ bs) (suc n)
one_on b bs n ends =
    ⊎_elim
    (λ e. inl (ap suc e))
    (λ a. inr (record { before = suc a.before; next = omega (arith, a.next); within = omega (arith, a.within); ascii = a.ascii }))
    ends

-- the same, or nothing
abbrev StaysOrEndsWell : List ℕ → ℕ → Type 0
StaysOrEndsWell bytes n = (n ≡ 0) ⊎ EndsWell bytes n

one_on_ascii : (b : ℕ) (bs : List ℕ) (n : ℕ) → b < 128 → StaysOrEndsWell bs n → EndsWell (b ∷ bs) (suc n)
one_on_ascii b bs n ascii ends =
    ⊎_elim
    (λ z. let P : ℕ → Type 0 = λ k. EndsWell (b ∷ bs) (suc k) in subst P (sym z) (behind_first b bs ascii))
    (λ e. one_on b bs n e)
    ends

comment_step : (b : ℕ) (bs : List ℕ) (t : Bool) → eqb b 10 ≡ t → StaysOrEndsWell bs (blank_len bs) → EndsWell bs (comment_len bs) → EndsWell (b ∷ bs) (suc (cond t (blank_len bs) (comment_len bs)))
comment_step b bs true e blank comment = one_on_ascii b bs (blank_len bs) (omega (arith, eqb-true b 10 e)) blank
comment_step b bs false e blank comment = one_on b bs (comment_len bs) comment

space_ascii : (b : ℕ) → is_space b ≡ true → b < 128
space_ascii b e = grind (arith, nat_tests)

space_step : (b : ℕ) (bs : List ℕ) (t : Bool) → is_space b ≡ t → StaysOrEndsWell bs (blank_len bs) → StaysOrEndsWell (b ∷ bs) (cond t (suc (blank_len bs)) 0)
space_step b bs true e blank = inr (one_on_ascii b bs (blank_len bs) (space_ascii b e) blank)
space_step b bs false e blank = inl refl

blank_step : (b : ℕ) (bs : List ℕ) (t : Bool) → eqb b 35 ≡ t → StaysOrEndsWell bs (blank_len bs) → EndsWell bs (comment_len bs) → StaysOrEndsWell (b ∷ bs) (cond t (suc (comment_len bs)) (cond (is_space b) (suc (blank_len bs)) 0))
blank_step b bs true e blank comment = inr (one_on b bs (comment_len bs) comment)
blank_step b bs false e blank comment = space_step b bs (is_space b) refl blank

both_end : (bytes : List ℕ) → StaysOrEndsWell bytes (blank_len bytes) × EndsWell bytes (comment_len bytes)
both_end [] = (inl refl, inl refl)
both_end (b ∷ bs) =
    let rest = both_end bs in
    (blank_step b bs (eqb b 35) refl rest.0 rest.1, comment_step b bs (eqb b 10) refl rest.0 rest.1)

-- within the text, and between characters
pub next_border : (text : List ℕ) (at : ℕ) → IsUtf8 text → IsCharBoundary text at → IsCharBoundary text (next_place text at)
next_border text at utf8 border =
    let n = blank_len (drop at text) in
    let P : ℕ → Type 0 = IsCharBoundary text in
    ⊎_elim
    (λ z. let same : at ≡ at + n = omega arith in subst P same border)
    (λ ends.
    ⊎_elim
    (λ e. let whole : length text ≡ at + n = omega (arith, length-drop at text, border.0) in subst P whole (IsCharBoundary-end text))
    (λ a.
    let place : at + a.before + 1 ≡ at + n = omega (arith, a.next) in
    let byte : get_or text (at + a.before) 0 ≡ get_or (drop at text) a.before 0 = sym (get_or-drop at text a.before 0) in
    subst P place (IsCharBoundary-after_ascii text (at + a.before) utf8 (omega (arith, a.within, length-drop at text)) (omega (arith, a.ascii))))
    ends)
    (both_end (drop at text)).0

-- the last byte of a token that is no bare label is ASCII
abbrev EndsInAscii : List ℕ → Type 0
EndsInAscii bytes = get_or bytes (length bytes - 1) 0 < 128

quote_last : (xs bytes : List ℕ) (c : ℕ) → c < 128 → bytes ≡ xs ++ (c ∷ []) → EndsInAscii bytes
quote_last xs bytes c ascii e =
    let size = ap length e ∙ length-append xs (c ∷ []) in
    let last : get_or bytes (length bytes - 1) 0 ≡ c = ap (λ ys. get_or ys (length bytes - 1) 0) e ∙ get_or_at xs c [] 0 (length bytes - 1) (omega arith) in
    omega arith

each_ascii : (bytes : List ℕ) (i : ℕ) → Each (λ b. ltb b 128) bytes → get_or bytes i 0 < 128
each_ascii [] i each = omega arith
each_ascii (b ∷ bs) zero each = ltb-true b 128 each.0
each_ascii (b ∷ bs) (suc i) each = each_ascii bs i each.1

digit_ascii : (b : ℕ) → is_ascii_digit b ≡ true → ltb b 128 ≡ true
digit_ascii b e = grind (arith, nat_tests)

letter_ascii : (b : ℕ) → is_variable_letter b ≡ true → ltb b 128 ≡ true
letter_ascii b e = grind (arith, nat_tests)

variable_last : (letter n : ℕ) (bytes : List ℕ) → is_variable_letter letter ≡ true → n ≤ 99 → bytes ≡ letter ∷ 42 ∷ suffix_of n → EndsInAscii bytes
variable_last letter n bytes letter_is small e =
    let each : Each (λ b. ltb b 128) (letter ∷ 42 ∷ suffix_of n) = (letter_ascii letter letter_is, (refl, each_weaker is_ascii_digit (λ b. ltb b 128) digit_ascii (suffix_of n) (suffix_digits n small))) in
    let P : List ℕ → Type 0 = λ xs. Each (λ b. ltb b 128) xs in
    each_ascii bytes (length bytes - 1) (subst P (sym e) each)

last_ascii : (k : Kind) (bytes : List ℕ) → (k ≡ Bare → ⊥) → Spells k bytes → EndsInAscii bytes
last_ascii Bare bytes other s = absurd (other refl)
last_ascii Quoted bytes other s = quote_last (34 ∷ doubled s.0) bytes 34 (omega arith) s.2
last_ascii (Variable l n) bytes other s = variable_last l n bytes s.0 s.1 s.2
last_ascii (Node n) bytes other s = quote_last (45 ∷ decimal n) bytes 45 (omega arith) s.2
last_ascii (a_word w) bytes other s = quote_last (45 ∷ name_of w) bytes 45 (omega arith) s
last_ascii Opening bytes other s = quote_last [] bytes 40 (omega arith) s
last_ascii Closing bytes other s = quote_last [] bytes 41 (omega arith) s
last_ascii Comma bytes other s = quote_last [] bytes 44 (omega arith) s
last_ascii Plus bytes other s = quote_last [] bytes 43 (omega arith) s
last_ascii Slash bytes other s = quote_last [] bytes 47 (omega arith) s
last_ascii Equals bytes other s = quote_last (61 ∷ []) bytes 61 (omega arith) s
last_ascii Stop bytes other s = quote_last [] bytes 46 (omega arith) s

-- behind a bare label stands no byte of a label character, so none of 128 and more
no_label_ascii : (b : ℕ) → is_label_byte b ≡ false → b < 128
no_label_ascii b e = grind (arith, nat_tests)

behind_bare : (rest : List ℕ) → BeginsWithNo (λ b. is_label_byte b || eqb b 42) rest → get_or rest 0 0 < 128
behind_bare [] ends = omega arith
behind_bare (b ∷ bs) ends = no_label_ascii b (or_parts (is_label_byte b) (eqb b 42) ends).0

bare_border : (text : List ℕ) (to : ℕ) → to ≤ length text → BeginsWithNo (λ b. is_label_byte b || eqb b 42) (drop to text) → IsCharBoundary text to
bare_border text to within ends =
    let byte : get_or (drop to text) 0 0 ≡ get_or text to 0 = get_or-drop to text 0 0 ∙ ap (λ i. get_or text i 0) (omega arith) in
    let low = behind_bare (drop to text) ends in
    ⊎_elim
    (λ inside. IsCharBoundary-before_ascii text to inside (omega arith))
    (λ past. let whole : length text ≡ to = omega arith in let P : ℕ → Type 0 = IsCharBoundary text in subst P whole (IsCharBoundary-end text))
    (cases_lt to (length text))

other_border : (text : List ℕ) (from to : ℕ) → IsUtf8 text → from < to → to ≤ length text → EndsInAscii (slice_range text from to) → IsCharBoundary text to
other_border text from to utf8 some within ascii =
    let size : length (slice_range text from to) ≡ to - from = omega (arith, length-take (to - from) (drop from text), length-drop from text) in
    let last : get_or (slice_range text from to) (length (slice_range text from to) - 1) 0 ≡ get_or text (to - 1) 0 =
    ap (λ i. get_or (slice_range text from to) (i - 1) 0) size ∙ get_or-take (to - from) (drop from text) (to - from - 1) 0 (omega arith) ∙ get_or-drop from text (to - from - 1) 0 ∙ ap (λ i. get_or text i 0) (omega arith) in
    let next : to - 1 + 1 ≡ to = omega arith in
    let P : ℕ → Type 0 = IsCharBoundary text in
    subst P next (IsCharBoundary-after_ascii text (to - 1) utf8 (omega arith) (omega arith))

by_kind : (text : List ℕ) (k : Kind) (from to : ℕ) → IsUtf8 text → from < to → to ≤ length text → Spells k (slice_range text from to) → EndsBefore k (drop to text) → IsCharBoundary text to
by_kind text Bare from to utf8 some within s e = bare_border text to within e
by_kind text Quoted from to utf8 some within s e = other_border text from to utf8 some within (last_ascii Quoted (slice_range text from to) (λ no. cc) s)
by_kind text (Variable l n) from to utf8 some within s e = other_border text from to utf8 some within (last_ascii (Variable l n) (slice_range text from to) (λ no. cc) s)
by_kind text (Node n) from to utf8 some within s e = other_border text from to utf8 some within (last_ascii (Node n) (slice_range text from to) (λ no. cc) s)
by_kind text (a_word w) from to utf8 some within s e = other_border text from to utf8 some within (last_ascii (a_word w) (slice_range text from to) (λ no. cc) s)
by_kind text Opening from to utf8 some within s e = other_border text from to utf8 some within (last_ascii Opening (slice_range text from to) (λ no. cc) s)
by_kind text Closing from to utf8 some within s e = other_border text from to utf8 some within (last_ascii Closing (slice_range text from to) (λ no. cc) s)
by_kind text Comma from to utf8 some within s e = other_border text from to utf8 some within (last_ascii Comma (slice_range text from to) (λ no. cc) s)
by_kind text Plus from to utf8 some within s e = other_border text from to utf8 some within (last_ascii Plus (slice_range text from to) (λ no. cc) s)
by_kind text Slash from to utf8 some within s e = other_border text from to utf8 some within (last_ascii Slash (slice_range text from to) (λ no. cc) s)
by_kind text Equals from to utf8 some within s e = other_border text from to utf8 some within (last_ascii Equals (slice_range text from to) (λ no. cc) s)
by_kind text Stop from to utf8 some within s e = other_border text from to utf8 some within (last_ascii Stop (slice_range text from to) (λ no. cc) s)

-- a token ends between characters
pub token_border : (text : List ℕ) (t : Token) → IsUtf8 text → StandsIn text t → IsCharBoundary text t.to
token_border text t utf8 s = by_kind text t.kind t.from t.to utf8 (has_byte s) s.within s.spelled s.ended
