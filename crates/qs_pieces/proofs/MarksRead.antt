-- Where a token stands at what is written as a mark, it is this mark, and so its number is not too great for one.
use Rattle.std.proofs.Common.{◌≡◌, ℕ, zero, suc, ◌+◌, ◌*◌, ◌/◌, ◌%◌, ◌<◌, ◌≤◌, ◌==◌, Bool, true, false, cond, refl, sym, ap, ◌∙◌, ⊎_elim, List, [], ◌∷◌, ◌++◌, length, drop, get_or, arith, append_assoc, eqb-true, lit<}
use Rattle.std.specs.Prelude.{decimal}
use Rattle.std.specs.Fmt.{digits, digits_onto, digit_glyph}
use Rattle.std.specs.Char.{is_ascii_digit}
use Rattle.std.proofs.lemmas.Bool.{cases_lt}
use Rattle.std.proofs.lemmas.Bool.Decides.{nat_tests}
use Rattle.std.proofs.lemmas.Fmt.{length-decimal-le}
use Rattle.qs_tree.specs.Text.{is_label_byte}
use Rattle.qs_lex.specs.Characters.{Each, is_variable_letter}
use Rattle.qs_lex.specs.Spelling.{Spells, name_of}
use Rattle.qs_lex.specs.declared.token.Word.{Word}
use Rattle.qs_lex.specs.declared.token.Word.TheVariants.{Systeme, Graphe, Fin, Dans, Hors, Et, Ou, Non, Version, Egal, Unique}
use Rattle.qs_lex.specs.declared.token.Kind.{Kind}
use Rattle.qs_lex.specs.declared.token.Kind.TheVariants.{Bare, Quoted, Variable, Node, Word as a_word, Opening, Closing, Comma, Plus, Slash, Equals, Stop}

-- ---- digits

-- what is written of any number is digits
glyph_digit : (n : ℕ) → is_ascii_digit (digit_glyph false (n % 10)) ≡ true
glyph_digit n = grind (arith, nat_tests)

each_digit : (k n : ℕ) (acc : List ℕ) → Each is_ascii_digit acc → Each is_ascii_digit (digits_onto k 10 false n acc)
each_digit zero n acc each = each
each_digit (suc k) n acc each = by (n / 10 == 0) (each_digit k (n / 10) (digit_glyph false (n % 10) ∷ acc) (glyph_digit n, each))
  where
    by : (b : Bool) → Each is_ascii_digit (digits_onto k 10 false (n / 10) (digit_glyph false (n % 10) ∷ acc))
        → Each is_ascii_digit (cond b (digit_glyph false (n % 10) ∷ acc) (digits_onto k 10 false (n / 10) (digit_glyph false (n % 10) ∷ acc)))
    by true more = (glyph_digit n, each)
    by false more = more

decimal_digits : (n : ℕ) → Each is_ascii_digit (decimal n)
unfolding digits
decimal_digits n = each_digit 64 n [] tt

-- the least number with so many digits behind its first
abbrev power : ℕ → ℕ
power zero = 1
power (suc j) = 10 * power j

power_some : (j : ℕ) → 0 < power j
power_some zero = omega arith
power_some (suc j) = omega (arith, power_some j)

onto_more : (k n : ℕ) (acc : List ℕ) → length acc ≤ length (digits_onto k 10 false n acc)
onto_more zero n acc = omega arith
onto_more (suc k) n acc = by (n / 10 == 0) (onto_more k (n / 10) (digit_glyph false (n % 10) ∷ acc))
  where
    by : (b : Bool) → suc (length acc) ≤ length (digits_onto k 10 false (n / 10) (digit_glyph false (n % 10) ∷ acc))
        → length acc ≤ length (cond b (digit_glyph false (n % 10) ∷ acc) (digits_onto k 10 false (n / 10) (digit_glyph false (n % 10) ∷ acc)))
    by true more = omega arith
    by false more = omega (arith, more)

-- a number that is not less is written with as many digits
as_long : (j k n : ℕ) (acc : List ℕ) → power j ≤ n → j < k → suc j + length acc ≤ length (digits_onto k 10 false n acc)
as_long j zero n acc high fits = absurd (omega arith)
as_long zero (suc k) n acc high fits = by (n / 10 == 0)
  where
    by : (b : Bool) → 1 + length acc ≤ length (cond b (digit_glyph false (n % 10) ∷ acc) (digits_onto k 10 false (n / 10) (digit_glyph false (n % 10) ∷ acc)))
    by true = omega arith
    by false = omega (arith, onto_more k (n / 10) (digit_glyph false (n % 10) ∷ acc))
as_long (suc j) (suc k) n acc high fits =
    by (n / 10 == 0) refl (as_long j k (n / 10) (digit_glyph false (n % 10) ∷ acc) (omega (arith, high)) (omega (arith, fits)))
  where
    by : (b : Bool) → (n / 10 == 0) ≡ b → suc j + suc (length acc) ≤ length (digits_onto k 10 false (n / 10) (digit_glyph false (n % 10) ∷ acc))
        → suc (suc j) + length acc ≤ length (cond b (digit_glyph false (n % 10) ∷ acc) (digits_onto k 10 false (n / 10) (digit_glyph false (n % 10) ∷ acc)))
    by true e more = absurd (omega (arith, high, power_some j, eqb-true (n / 10) 0 e))
    by false e more = omega (arith, more)

decimal_long : (n : ℕ) → 1000000000 ≤ n → 10 ≤ length (decimal n)
unfolding digits
decimal_long n high = as_long 9 64 n [] high (omega arith)

-- numbers that are written alike are both too great for a mark, or both not
fits_too : (m n : ℕ) → m ≤ 999999999 → decimal m ≡ decimal n → n ≤ 999999999
fits_too m n small e = ⊎_elim (λ less. omega arith)
    (λ high. absurd (omega (arith, decimal_long n high, ap length e, length-decimal-le 9 m (omega arith) (omega (arith, small)) (omega (arith, small)))))
    (cases_lt n 1000000000)

-- ---- the token at a mark

-- the digits before the next dash
same_digits : (xs ys a b : List ℕ) → Each is_ascii_digit xs → Each is_ascii_digit ys → xs ++ (45 ∷ a) ≡ ys ++ (45 ∷ b) → xs ≡ ys
same_digits [] [] a b ex ey e = refl
same_digits [] (y ∷ ys) a b ex ey e =
    let first : 45 ≡ y = ap (λ bs. get_or bs 0 0) e in
    absurd (let no : false ≡ true = ap is_ascii_digit first ∙ ey.0 in cc)
same_digits (x ∷ xs) [] a b ex ey e =
    let first : 45 ≡ x = sym (ap (λ bs. get_or bs 0 0) e) in
    absurd (let no : false ≡ true = ap is_ascii_digit first ∙ ex.0 in cc)
same_digits (x ∷ xs) (y ∷ ys) a b ex ey e =
    let first : x ≡ y = ap (λ bs. get_or bs 0 0) e in
    let rest = same_digits xs ys a b ex.1 ey.1 (ap (drop 1) e) in
    λ i. first i ∷ rest i

-- digits and a dash begin with neither a letter
low_first : (ds a : List ℕ) → Each is_ascii_digit ds → get_or (ds ++ (45 ∷ a)) 0 0 ≤ 57
low_first [] a each = omega arith
low_first (d ∷ ds) a each = digit_low d each.0
  where
    digit_low : (d : ℕ) → is_ascii_digit d ≡ true → d ≤ 57
    digit_low d e = grind (arith, nat_tests)

-- and a word does
high_first : (w : Word) (a : List ℕ) → 64 < get_or (name_of w ++ a) 0 0
high_first Systeme a = lit< tt
high_first Graphe a = lit< tt
high_first Fin a = lit< tt
high_first Dans a = lit< tt
high_first Hors a = lit< tt
high_first Et a = lit< tt
high_first Ou a = lit< tt
high_first Non a = lit< tt
high_first Version a = lit< tt
high_first Egal a = lit< tt
high_first Unique a = lit< tt

module _ (n : ℕ) (left : List ℕ) where
  -- only the mark of a number that is not too great can stand there
  pub number_fits : (kind : Kind) (bytes rest : List ℕ) → Spells kind bytes → bytes ++ rest ≡ 45 ∷ (decimal n ++ (45 ∷ left)) → n ≤ 999999999
  number_fits Bare [] rest s e = absurd (omega (arith, s.0))
  number_fits Bare (b ∷ bs) rest s e =
      let first : b ≡ 45 = ap (λ xs. get_or xs 0 0) e in
      absurd (let no : false ≡ true = ap is_label_byte (sym first) ∙ s.1.0 in cc)
  number_fits Quoted bytes rest s e =
      let no : 34 ≡ 45 = ap (λ (bs : List ℕ). get_or (bs ++ rest) 0 0) (sym s.2) ∙ ap (λ xs. get_or xs 0 0) e in
      absurd (omega (arith, no))
  number_fits (Variable letter number) bytes rest s e =
      let first : letter ≡ 45 = ap (λ (bs : List ℕ). get_or (bs ++ rest) 0 0) (sym s.2) ∙ ap (λ xs. get_or xs 0 0) e in
      absurd (let no : false ≡ true = ap is_variable_letter (sym first) ∙ s.0 in cc)
  number_fits (Node m) bytes rest s e =
      let tail : (decimal m ++ (45 ∷ [])) ++ rest ≡ decimal n ++ (45 ∷ left) = ap (λ (bs : List ℕ). drop 1 (bs ++ rest)) (sym s.2) ∙ ap (drop 1) e in
      let same : decimal m ++ (45 ∷ rest) ≡ decimal n ++ (45 ∷ left) = sym (append_assoc (decimal m) (45 ∷ []) rest) ∙ tail in
      fits_too m n s.1 (same_digits (decimal m) (decimal n) rest left (decimal_digits m) (decimal_digits n) same)
  number_fits (a_word w) bytes rest s e =
      let tail : (name_of w ++ (45 ∷ [])) ++ rest ≡ decimal n ++ (45 ∷ left) = ap (λ (bs : List ℕ). drop 1 (bs ++ rest)) (sym s) ∙ ap (drop 1) e in
      let same : name_of w ++ (45 ∷ rest) ≡ decimal n ++ (45 ∷ left) = sym (append_assoc (name_of w) (45 ∷ []) rest) ∙ tail in
      absurd (omega (arith, high_first w (45 ∷ rest), ap (λ (bs : List ℕ). get_or bs 0 0) same, low_first (decimal n) left (decimal_digits n)))
  number_fits Opening bytes rest s e = let no : 40 ≡ 45 = ap (λ (bs : List ℕ). get_or (bs ++ rest) 0 0) (sym s) ∙ ap (λ xs. get_or xs 0 0) e in absurd (omega (arith, no))
  number_fits Closing bytes rest s e = let no : 41 ≡ 45 = ap (λ (bs : List ℕ). get_or (bs ++ rest) 0 0) (sym s) ∙ ap (λ xs. get_or xs 0 0) e in absurd (omega (arith, no))
  number_fits Comma bytes rest s e = let no : 44 ≡ 45 = ap (λ (bs : List ℕ). get_or (bs ++ rest) 0 0) (sym s) ∙ ap (λ xs. get_or xs 0 0) e in absurd (omega (arith, no))
  number_fits Plus bytes rest s e = let no : 43 ≡ 45 = ap (λ (bs : List ℕ). get_or (bs ++ rest) 0 0) (sym s) ∙ ap (λ xs. get_or xs 0 0) e in absurd (omega (arith, no))
  number_fits Slash bytes rest s e = let no : 47 ≡ 45 = ap (λ (bs : List ℕ). get_or (bs ++ rest) 0 0) (sym s) ∙ ap (λ xs. get_or xs 0 0) e in absurd (omega (arith, no))
  number_fits Equals bytes rest s e = let no : 61 ≡ 45 = ap (λ (bs : List ℕ). get_or (bs ++ rest) 0 0) (sym s) ∙ ap (λ xs. get_or xs 0 0) e in absurd (omega (arith, no))
  number_fits Stop bytes rest s e = let no : 46 ≡ 45 = ap (λ (bs : List ℕ). get_or (bs ++ rest) 0 0) (sym s) ∙ ap (λ xs. get_or xs 0 0) e in absurd (omega (arith, no))
