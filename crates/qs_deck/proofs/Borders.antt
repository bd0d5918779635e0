-- Tokens of a text begin between characters, and are no more than its bytes.
use Rattle.std.proofs.Common.{◌≡◌, ℕ, ◌+◌, ◌≤◌, List, [], ◌∷◌, length, refl, sym, ◌∙◌, ap, subst, inl, inr, arith}
use Rattle.std.specs.Prelude.{IsCharBoundary, Result, Ok, Err, ◌==◌, not, take, count_by, chars}
use Rattle.std.specs.List.{suffix_len}
use Rattle.std.specs.Result.{MatchResult, IsOk}
use Rattle.std.proofs.lemmas.List.{take-take}
use Rattle.qs_lex.specs.Characters.{line_feed}
use Rattle.qs_lex.specs.declared.refusal.Cause.{Cause}
use Rattle.qs_lex.specs.declared.refusal.Refusal.{Refusal}
use Rattle.qs_lex.specs.Refusals.{Tells}
use Rattle.qs_tree.specs.Lists.{◌∈◌}
use Rattle.qs_lex.specs.declared.token.Token.{Token}
use Rattle.qs_lex.specs.Tokens.{AreSpansFrom}
use Rattle.qs_lex.proofs.Readings.{spans_of}
use Rattle.qs_graphtext.specs.Reading.{IsByteOf}
use Rattle.qs_deck.specs.Decks.{HasTokens}

pub spans : (text : List ℕ) (ts : List Token) → HasTokens text ts → AreSpansFrom text 0 ts
spans text ts has = spans_of text ts (length text) has.utf8 has.are_tokens

pub span_border : (text : List ℕ) (at : ℕ) (ts : List Token) (t : Token) → AreSpansFrom text at ts → t ∈ ts → IsCharBoundary text t.from
span_border text at [] t s i = elim i [ ]
span_border text at (u ∷ us) t s (inl e) = subst (λ (w : Token). IsCharBoundary text w.from) (sym e) s.2
span_border text at (u ∷ us) t s (inr i) = span_border text u.to us t s.4 i

pub byte_border : (text : List ℕ) (ts : List Token) (byte : ℕ) → AreSpansFrom text 0 ts → IsByteOf ts byte → IsCharBoundary text byte
byte_border text ts byte s b = subst (IsCharBoundary text) b.2 (span_border text 0 ts b.0 s b.1)

pub few_tokens : (text : List ℕ) (at : ℕ) (ts : List Token) → AreSpansFrom text at ts → at ≤ length text → at + length ts ≤ length text
few_tokens text at [] s h = omega (arith, h)
few_tokens text at (t ∷ ts) s h = omega (arith, few_tokens text t.to ts s.4 s.3.0, s.0, s.1)

-- a front of a text has the lines and columns of the text
pub tells_front : (text front : List ℕ) (at : ℕ) (cause : Cause) (r : Refusal) → front ≡ take at text → Tells front at cause r → Tells text at cause r
tells_front text front at cause r e tells =
    let same : take at front ≡ take at text = ap (take at) e ∙ take-take at at text (omega (arith)) in
    record {
      line = tells.line ∙ ap (λ before. 1 + count_by (λ c. c == line_feed) (chars before)) same;
      column = tells.column ∙ ap (λ before. 1 + suffix_len (λ c. not (c == line_feed)) (chars before)) same;
      cause_is = tells.cause_is;
    }

-- what isn't refused is read
pub read_ok : {T E : Type 0} (P : T → Type 0) (Q : E → Type 0) (r : Result T E) → MatchResult r P Q → ((x : E) → Q x → ⊥) → IsOk r
read_ok P Q (Ok x) m never = refl
read_ok P Q (Err x) m never = absurd (never x m)
