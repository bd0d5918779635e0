-- What is known of the same written text in two ways is known of the same tokens.
use Rattle.std.proofs.Common.{◌≡◌, ℕ, ◌≤◌, refl, sym, ap, ◌∙◌, subst, List, [], ◌∷◌, arith}
use Rattle.qs_lex.specs.declared.token.Token.{Token}
use Rattle.qs_lex.specs.Tokens.{StandsIn, Reads}
use Rattle.qs_lex.proofs.Standing.{one_token, has_byte}
use Rattle.qs_ruletext.proofs.ReadBack.{Goes}

-- tokens are read forward
reads_forward : (text : List ℕ) (at : ℕ) (ts : List Token) (next : ℕ) → Reads text at ts next → at ≤ next
reads_forward text at [] next r = omega (arith, r)
reads_forward text at (t ∷ ts) next r = omega (arith, r.0, has_byte r.1, reads_forward text t.to ts next r.2)

-- no token stands at the next place where nothing more is read
none_more : {text : List ℕ} {next : ℕ} {t : Token} (ts : List Token) → t.from ≡ next → StandsIn text t → Reads text t.to ts next → ⊥
none_more {text} {next} {t} ts from stands r = omega (arith, from, has_byte stands, reads_forward text t.to ts next r)

-- the tokens that are read from one place up to another are the same
pub same_tokens : (text : List ℕ) (at next : ℕ) (ts us : List Token) → Reads text at ts next → Reads text at us next → ts ≡ us
same_tokens text at next [] [] r s = refl
same_tokens text at next [] (u ∷ us) r s = absurd (none_more us (s.0 ∙ sym r) s.1 s.2)
same_tokens text at next (t ∷ ts) [] r s = absurd (none_more ts (r.0 ∙ sym s) r.1 r.2)
same_tokens text at next (t ∷ ts) (u ∷ us) r s =
    let same : t ≡ u = one_token (r.0 ∙ sym s.0) r.1 s.1 in
    let rest : ts ≡ us = same_tokens text t.to next ts us r.2 (subst (λ to. Reads text to us next) (sym (ap (λ v. v.to) same)) s.2) in
    λ i. same i ∷ rest i

-- where a piece of a text is read in two ways, it is read in both at once
pub at_once : {text : List ℕ} {Are Others : List Token → List Token → Type 0} (piece left : List ℕ) → Goes text Are piece left → Goes text Others piece left
    → Goes text (λ ts rest. Are ts rest × Others ts rest) piece left
at_once {text} {Are} {Others} piece left f g = record {
  go = λ is rest next r.
      let x = f.go is rest next r in
      let y = g.go is rest next r in
      (x.0, x.1, (x.2, subst (λ us. Others us rest) (same_tokens text _ next y.0 x.0 y.1 x.1) y.2));
}
