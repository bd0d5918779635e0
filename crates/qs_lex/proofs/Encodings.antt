-- The bytes of characters.
use Rattle.std.proofs.Common.{◌≡◌, ℕ, zero, suc, ◌<◌, ◌≤◌, Bool, true, false, List, [], ◌∷◌, length, get_or, sym, ap, ◌∙◌, ⊎_elim, arith}
use Rattle.std.specs.Prelude.{encode_utf8}
use Rattle.std.proofs.lemmas.List.{append-nil}
use Rattle.std.proofs.lemmas.Bool.{cases_lt}
use Rattle.std.proofs.lemmas.Bool.Decides.{nat_tests}
use Rattle.std.proofs.lemmas.Str.{encode_ascii, inside_one}
use Rattle.qs_tree.specs.Text.{is_label_byte}
use Rattle.qs_lex.specs.Characters.{is_space, is_sign}

-- each byte of a character from U+0080 on is at least 128
pub high_byte : (c k : ℕ) → 128 ≤ c → k < length (encode_utf8 c) → 128 ≤ get_or (encode_utf8 c) k 0
high_byte c k high within =
    ⊎_elim
    (λ low. let is : c ≡ get_or (encode_utf8 c) k 0 = inside_one c [] (encode_utf8 c) k (sym (append-nil (encode_utf8 c))) within low in omega arith)
    (λ high. high)
    (cases_lt (get_or (encode_utf8 c) k 0) 128)

first_of_one : (c k : ℕ) (bytes : List ℕ) → bytes ≡ c ∷ [] → k < length bytes → get_or bytes k 0 ≡ c
first_of_one c zero bytes e within = ap (λ xs. get_or xs 0 0) e
first_of_one c (suc k) bytes e within = let one : length bytes ≡ 1 = ap length e in absurd (omega arith)

-- a class to which all numbers from 128 on belong, or none, has a byte where it has the byte's character
class_byte : (p : ℕ → Bool) (all : Bool) → ((b : ℕ) → 128 ≤ b → p b ≡ all) → (c k : ℕ) → k < length (encode_utf8 c) → p (get_or (encode_utf8 c) k 0) ≡ p c
class_byte p all high_in c k within =
    ⊎_elim
    (λ low. ap p (first_of_one c k (encode_utf8 c) (encode_ascii c low) within))
    (λ high. high_in (get_or (encode_utf8 c) k 0) (high_byte c k high within) ∙ sym (high_in c high))
    (cases_lt c 128)

high_label : (b : ℕ) → 128 ≤ b → is_label_byte b ≡ true
high_label b high = grind (arith, nat_tests)

high_space : (b : ℕ) → 128 ≤ b → is_space b ≡ false
high_space b high = grind (arith, nat_tests)

high_sign : (b : ℕ) → 128 ≤ b → is_sign b ≡ false
high_sign b high = grind (arith, nat_tests)

pub label_byte : (c k : ℕ) → k < length (encode_utf8 c) → is_label_byte (get_or (encode_utf8 c) k 0) ≡ is_label_byte c
label_byte = class_byte is_label_byte true high_label

pub space_byte : (c k : ℕ) → k < length (encode_utf8 c) → is_space (get_or (encode_utf8 c) k 0) ≡ is_space c
space_byte = class_byte is_space false high_space

pub sign_byte : (c k : ℕ) → k < length (encode_utf8 c) → is_sign (get_or (encode_utf8 c) k 0) ≡ is_sign c
sign_byte = class_byte is_sign false high_sign
