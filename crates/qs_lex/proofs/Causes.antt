-- The cause of a fault goes by the first byte.
use Rattle.std.proofs.Common.{◌≡◌, ℕ, ◌+◌, ◌<◌, Bool, true, false, cond, List, [], ◌∷◌, length, get_or, take, drop, Option, Some, None, Ok, Err, refl, subst, arith, eqb}
use Rattle.std.specs.Prelude.{take_while, slice_index}
use Rattle.std.specs.List.{prefix_len}
use Rattle.std.specs.Char.{is_ascii_digit}
use Rattle.qs_lex.specs.Limits.{most_node_number}
use Rattle.qs_tree.specs.Text.{is_label_byte}
use Rattle.qs_lex.specs.Characters.{is_variable_letter}
use Rattle.qs_lex.specs.working.Characters.{is_capital_or_digit}
use Rattle.qs_lex.specs.Refusals.{cause_at}
use Rattle.qs_lex.specs.working.Scan.{Found, scan, label_at, variable_of, with_digits, numbered, number_after, quote_len, quoted_of, mark_at, named, node_of, word_of, punctuation}
use Rattle.qs_lex.specs.declared.token.Word.{Word}
use Rattle.qs_lex.specs.declared.token.Kind.TheVariants.{Bare, Equals}
use Rattle.qs_lex.specs.declared.refusal.Cause.{Cause}
use Rattle.qs_lex.specs.declared.refusal.Cause.TheVariants.{BadCharacter, OpenQuote, BadWord, BadVariable}

-- only this cause is given
abbrev Blames : Cause → Found → Type 0
Blames cause (Ok x) = Unit {0}
Blames cause (Err e) = e ≡ cause

blames_either : (cause : Cause) (t : Bool) (x y : Found) → Blames cause x → Blames cause y → Blames cause (cond t x y)
blames_either cause true x y a b = a
blames_either cause false x y a b = b

blames_numbered : (letter len : ℕ) (o : Option ℕ) → Blames BadVariable (numbered letter len o)
blames_numbered letter len None = refl
blames_numbered letter len (Some n) = tt

blames_digits : (letter : ℕ) (ds : List ℕ) → Blames BadVariable (with_digits letter ds)
blames_digits letter [] = tt
blames_digits letter (d ∷ ds) = blames_numbered letter (length (d ∷ ds) + 2) (number_after 99 0 (d ∷ ds))

blames_variable : (run behind : List ℕ) → Blames BadVariable (variable_of run behind)
blames_variable [] behind = refl
blames_variable (letter ∷ []) behind = blames_either BadVariable (is_variable_letter letter) (with_digits letter (take_while is_ascii_digit behind)) (Err BadVariable) (blames_digits letter (take_while is_ascii_digit behind)) refl
blames_variable (a ∷ b ∷ bs) behind = refl

blames_quoted : (o : Option ℕ) → Blames OpenQuote (quoted_of o)
blames_quoted None = refl
blames_quoted (Some n) = tt

blames_node : (len : ℕ) (o : Option ℕ) → Blames BadWord (node_of len o)
blames_node len None = refl
blames_node len (Some n) = tt

blames_named : (name : List ℕ) (o : Option Word) → Blames BadWord (named name o)
blames_named name None = blames_node (length name + 2) (number_after most_node_number 0 name)
blames_named name (Some w) = tt

blames_punctuation : (b : ℕ) → Blames BadCharacter (punctuation b)
blames_punctuation b =
    either (eqb b 40) _ _ tt (either (eqb b 41) _ _ tt (either (eqb b 44) _ _ tt (either (eqb b 43) _ _ tt (either (eqb b 46) _ _ tt (either (eqb b 47) _ _ tt refl)))))
  where
    either : (t : Bool) (x y : Found) → Blames BadCharacter x → Blames BadCharacter y → Blames BadCharacter (cond t x y)
    either = blames_either BadCharacter

blames_label : (bytes : List ℕ) → Blames BadVariable (label_at bytes)
blames_label bytes =
    let n = prefix_len is_label_byte bytes in
    blames_either BadVariable (eqb (get_or bytes n 0) 42) (variable_of (take n bytes) (drop (n + 1) bytes)) (Ok (Bare, n)) (blames_variable (take n bytes) (drop (n + 1) bytes)) tt

blames_mark : (v : ℕ) (bytes : List ℕ) → Blames BadWord (mark_at v bytes)
blames_mark v bytes =
    let name = take_while is_capital_or_digit bytes in
    blames_either BadWord (eqb (get_or bytes (length name) 0) 45) (named name (word_of v name)) (Err BadWord) (blames_named name (word_of v name)) refl

-- the tests on the first byte that choose the reader choose the cause
both : (t : Bool) (c d : Cause) (x y : Found) → Blames c x → Blames d y → Blames (cond t c d) (cond t x y)
both true c d x y a b = a
both false c d x y a b = b

scan_blames : (v b : ℕ) (bs : List ℕ) → Blames (cause_at b) (scan v (b ∷ bs))
scan_blames v b bs =
    let equals : Found = cond (eqb (get_or bs 0 0) 61) (Ok (Equals, 2)) (Err BadCharacter) in
    let last : Found = cond (eqb b 61) equals (punctuation b) in
    let blames_last : Blames BadCharacter last =
    blames_either BadCharacter (eqb b 61) equals (punctuation b) (blames_either BadCharacter (eqb (get_or bs 0 0) 61) (Ok (Equals, 2)) (Err BadCharacter) tt refl) (blames_punctuation b) in
    both (is_label_byte b) BadVariable (cond (eqb b 34) OpenQuote (cond (eqb b 45) BadWord BadCharacter)) (label_at (b ∷ bs)) (cond (eqb b 34) (quoted_of (quote_len bs)) (cond (eqb b 45) (mark_at v bs) last)) (blames_label (b ∷ bs))
    (both (eqb b 34) OpenQuote (cond (eqb b 45) BadWord BadCharacter) (quoted_of (quote_len bs)) (cond (eqb b 45) (mark_at v bs) last) (blames_quoted (quote_len bs))
    (both (eqb b 45) BadWord BadCharacter (mark_at v bs) last (blames_mark v bs) blames_last))

pub cause_is : (v : ℕ) (bytes : List ℕ) (c : Cause) → 0 < length bytes → scan v bytes ≡ Err c → c ≡ cause_at (slice_index bytes 0)
cause_is v [] c some e = absurd (omega arith)
cause_is v (b ∷ bs) c some e = let P : Found → Type 0 = Blames (cause_at b) in subst P e (scan_blames v b bs)
