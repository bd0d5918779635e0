-- A text has one reading.
use Rattle.std.proofs.Common.{◌≡◌, ℕ, zero, suc, ◌<◌, List, [], ◌∷◌, length, Some, refl, sym, ap, ◌∙◌, subst, arith, IsUtf8}
use Rattle.std.specs.Prelude.{IsCharBoundary, slice_index, slice_get}
use Rattle.std.proofs.lemmas.Str.{IsCharBoundary-start}
use Rattle.qs_lex.specs.Tokens.{Reads, StandsIn, AreTokensOf, AreSpansFrom, IsTokenOf}
use Rattle.qs_lex.specs.Refusals.{IsFirstFault, cause_at}
use Rattle.qs_lex.specs.declared.token.Token.{Token}
use Rattle.qs_lex.specs.declared.refusal.Cause.{Cause}
use Rattle.qs_lex.proofs.Standing.{one_token, has_byte}
use Rattle.qs_lex.proofs.Borders.{next_border, token_border}

-- no token stands at the place
abbrev NoneAt : List ℕ → ℕ → Type 0
NoneAt text place = (t : Token) → t.from ≡ place → StandsIn text t → ⊥

none_at_end : (text : List ℕ) → NoneAt text (length text)
none_at_end text t from s = let some = has_byte s in let within = s.within in omega arith

-- two readings that both stop where no token stands are one
one_reading : (text : List ℕ) (at : ℕ) (ts us : List Token) (x y : ℕ) → NoneAt text x → NoneAt text y → Reads text at ts x → Reads text at us y → (ts ≡ us) × (x ≡ y)
one_reading text at [] [] x y none_x none_y r s = (refl, r ∙ sym s)
one_reading text at [] (u ∷ us) x y none_x none_y r s = absurd (none_x u (s.0 ∙ sym r) s.1)
one_reading text at (t ∷ ts) [] x y none_x none_y r s = absurd (none_y t (r.0 ∙ sym s) r.1)
one_reading text at (t ∷ ts) (u ∷ us) x y none_x none_y r s =
    let same : t ≡ u = one_token (r.0 ∙ sym s.0) r.1 s.1 in
    let P : ℕ → Type 0 = λ to. Reads text to us y in
    let rest = one_reading text t.to ts us x y none_x none_y r.2 (subst P (sym (ap (λ v. v.to) same)) s.2) in
    (λ i. same i ∷ rest.0 i, rest.1)

pub one_list : (text : List ℕ) (ts us : List Token) → AreTokensOf text ts → AreTokensOf text us → ts ≡ us
one_list text ts us r s = (one_reading text 0 ts us (length text) (length text) (none_at_end text) (none_at_end text) r s).0

pub not_both : (text : List ℕ) (ts : List Token) {place : ℕ} {cause : Cause} → AreTokensOf text ts → IsFirstFault text place cause → ⊥
not_both text ts {place} {cause} r f =
    let same = one_reading text 0 ts f.before (length text) place (none_at_end text) f.faulty.no_token r f.reached in
    let within = f.faulty.within in
    omega (arith, same.1)

pub one_fault : {text : List ℕ} {p q : ℕ} {c d : Cause} → IsFirstFault text p c → IsFirstFault text q d → (p ≡ q) × (c ≡ d)
one_fault {text} {p} {q} {c} {d} f g =
    let same = one_reading text 0 f.before g.before p q f.faulty.no_token g.faulty.no_token f.reached g.reached in
    (same.1, f.of_cause ∙ ap (λ place. cause_at (slice_index text place)) same.1 ∙ sym g.of_cause)

-- spans ascend and lie between characters
spans : (text : List ℕ) (at : ℕ) (ts : List Token) (next : ℕ) → IsUtf8 text → IsCharBoundary text at → Reads text at ts next → AreSpansFrom text at ts
spans text at [] next utf8 border r = tt
spans text at (t ∷ ts) next utf8 border r =
    let P : ℕ → Type 0 = IsCharBoundary text in
    let from = subst P (sym r.0) (next_border text at utf8 border) in
    let to = token_border text t utf8 r.1 in
    (omega (arith, r.0), has_byte r.1, from, to, spans text t.to ts next utf8 to r.2)

pub spans_of : (text : List ℕ) (ts : List Token) (next : ℕ) → IsUtf8 text → Reads text 0 ts next → AreSpansFrom text 0 ts
spans_of text ts next utf8 r = spans text 0 ts next utf8 (IsCharBoundary-start text utf8) r

-- each token of a text stands in it
stands_each : (text : List ℕ) (at : ℕ) (ts : List Token) (next index : ℕ) (t : Token) → Reads text at ts next → slice_get ts index ≡ Some t → StandsIn text t
stands_each text at [] next index t r e = cc
stands_each text at (u ∷ us) next zero t r e = let same : u ≡ t = (let f : Some u ≡ Some t = e in cc) in let P : Token → Type 0 = StandsIn text in subst P same r.1
stands_each text at (u ∷ us) next (suc index) t r e = stands_each text u.to us next index t r.2 e

pub token_stands : {text : List ℕ} {t : Token} → IsTokenOf text t → StandsIn text t
token_stands {text} {t} of = stands_each text 0 of.tokens (length text) of.index t of.are of.there

-- what is known of each token of a text
pub record IsPlaced (text : List ℕ) (t : Token) : Type 0 where
  pub stands : StandsIn text t
  pub some : t.from < t.to
  pub from : IsCharBoundary text t.from
  pub to : IsCharBoundary text t.to

placed : (text : List ℕ) (at : ℕ) (ts : List Token) (next place : ℕ) (t : Token) → IsUtf8 text → IsCharBoundary text at → Reads text at ts next → slice_get ts place ≡ Some t → IsPlaced text t
placed text at [] next place t utf8 border r e = cc
placed text at (u ∷ us) next zero t utf8 border r e =
    let P : ℕ → Type 0 = IsCharBoundary text in
    let Q : Token → Type 0 = IsPlaced text in
    let same : u ≡ t = (let f : Some u ≡ Some t = e in cc) in
    subst Q same (record { stands = r.1; some = has_byte r.1; from = subst P (sym r.0) (next_border text at utf8 border); to = token_border text u utf8 r.1 })
placed text at (u ∷ us) next (suc place) t utf8 border r e = placed text u.to us next place t utf8 (token_border text u utf8 r.1) r.2 e

pub token_placed : {text : List ℕ} {t : Token} → IsUtf8 text → IsTokenOf text t → IsPlaced text t
token_placed {text} {t} utf8 of = placed text 0 of.tokens (length text) of.index t utf8 (IsCharBoundary-start text utf8) of.are of.there
