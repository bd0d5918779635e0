-- What a text of version 2 begins with.
use Rattle.std.proofs.Common.{◌≡◌, ℕ, ◌+◌, ◌-◌, ◌≤◌, Bool, true, false, cond, List, ◌∷◌, length, take, drop, refl, sym, ap, ◌∙◌, subst, arith, eqb, length-take, length-drop}
use Rattle.std.specs.List.{starts_with}
use Rattle.std.specs.Cmp.Lexicographic.{same_text}
use Rattle.qs_lex.specs.Spelling.{name_of, between_dashes, IsInVersion}
use Rattle.qs_lex.specs.Tokens.{blank_len, version_of, StandsIn, AreTokensOf}
use Rattle.qs_lex.specs.declared.token.Token.{Token}
use Rattle.qs_lex.specs.declared.token.Kind.TheVariants.{Word as a_word}
use Rattle.qs_lex.specs.declared.token.Word.TheVariants.{Version}
use Rattle.qs_lex.proofs.Standing.{one_token}

abbrev heading : List ℕ
heading = between_dashes (name_of Version)

abbrev is_headed : List ℕ → Bool
is_headed text = starts_with eqb (drop (blank_len text) text) heading

-- the word stands where such a text begins
module _ (text : List ℕ) (headed : is_headed text ≡ true) where
  abbrev place : ℕ
  place = blank_len text

  there : take 9 (drop place text) ≡ heading
  there = sym (same_text heading (take 9 (drop place text)) (sym headed))

  abbrev first : Token
  first = record { kind = a_word Version; from = place; to = place + 9 }

  stands : StandsIn text first
  stands = record {
    known = let is : version_of text ≡ 2 = ap (λ b. cond b 2 1) headed in omega arith;
    within = omega (arith, ap length there, length-take 9 (drop place text), length-drop place text);
    spelled = ap (λ n. take n (drop place text)) (let e : (place + 9) - place ≡ 9 = omega arith in e) ∙ there;
    ended = tt;
  }

  is_first : (t : Token) (ts : List Token) → AreTokensOf text (t ∷ ts) → t.kind ≡ a_word Version
  is_first t ts are = ap (λ u. u.kind) (one_token {u = first} (let e : t.from ≡ place = are.0 ∙ omega arith in e) are.1 stands)

-- a text whose first token is another is of version 1
pub not_headed : (text : List ℕ) (t : Token) (ts : List Token) → AreTokensOf text (t ∷ ts) → (t.kind ≡ a_word Version → ⊥) → version_of text ≤ 1
not_headed text t ts are other = by (is_headed text) refl
  where
    by : (b : Bool) → is_headed text ≡ b → version_of text ≤ 1
    by true e = absurd (other (is_first text e t ts are))
    by false e = let is : version_of text ≡ 1 = ap (λ b. cond b 2 1) e in omega arith

-- and a text whose first token is the word is of version 2
pub headed : (text : List ℕ) (t : Token) (ts : List Token) → AreTokensOf text (t ∷ ts) → t.kind ≡ a_word Version → 2 ≤ version_of text
headed text t ts are is = let known = subst (λ k. IsInVersion (version_of text) k) is are.1.known in omega arith
