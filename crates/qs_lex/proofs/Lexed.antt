-- The loop of `tokens`: what it keeps, and its steps.
use Rattle.std.proofs.Common.{◌≡◌, ℕ, ◌+◌, ◌-◌, ◌<◌, List, [], ◌∷◌, ◌++◌, length, drop, take, Err, sym, ap, ◌∙◌, subst, arith, IsUtf8, length-drop}
use Rattle.std.specs.Prelude.{IsCharBoundary, slice_index}
use Rattle.std.proofs.lemmas.List.{get_or-drop, take_rest}
use Rattle.std.proofs.lemmas.Str.{IsCharBoundary-start}
use Rattle.qs_lex.specs.Tokens.{version_of, Reads, blank_len, next_place, StandsIn}
use Rattle.qs_lex.specs.Refusals.{IsFaulty, IsFirstFault, cause_at}
use Rattle.qs_lex.specs.working.Scan.{scan}
use Rattle.qs_lex.specs.declared.token.Token.{Token}
use Rattle.qs_lex.specs.declared.refusal.Cause.{Cause}
use Rattle.qs_lex.proofs.Standing.{none_there, reads_more}
use Rattle.qs_lex.proofs.Borders.{next_border, token_border}
use Rattle.qs_lex.proofs.Causes.{cause_is}

-- these tokens are read, and `at` is the next place
pub record IsReadTo (text : List ℕ) (ts : List Token) (at : ℕ) : Type 0 where
  pub border : IsCharBoundary text at
  pub reads : Reads text 0 ts at

pub start : (text bytes : List ℕ) (ts : List Token) (at : ℕ) → IsUtf8 text → bytes ≡ text → ts ≡ [] → at ≡ blank_len bytes → IsReadTo text ts at
start text bytes ts at utf8 same none at_is =
    let place : at ≡ next_place text 0 = at_is ∙ ap blank_len same ∙ omega arith in
    let P : ℕ → Type 0 = IsCharBoundary text in
    let Q : List Token → Type 0 = λ us. Reads text 0 us at in
    record {
      border = subst P (sym place) (next_border text 0 utf8 (IsCharBoundary-start text utf8));
      reads = subst Q (sym none) place;
    }

pub none_stands : (bytes : List ℕ) (at : ℕ) (cause : Cause) → at < length bytes → scan (version_of bytes) (drop at bytes) ≡ Err cause → IsFaulty bytes at × (cause ≡ cause_at (slice_index bytes at))
none_stands bytes at cause within none = (
  none_there bytes at cause within none,
  cause_is (version_of bytes) (drop at bytes) cause (omega (arith, length-drop at bytes)) none ∙ ap cause_at (get_or-drop at bytes 0 0 ∙ ap (λ i. slice_index bytes i) (omega arith)),
)

pub step : (text bytes : List ℕ) (ts us : List Token) (at blank : ℕ) (t : Token) → IsUtf8 text → bytes ≡ text → (t.from ≡ at) × StandsIn bytes t
    → blank ≡ blank_len (drop t.to bytes) → us ≡ ts ++ (t ∷ []) → IsReadTo text ts at → IsReadTo text us (t.to + blank)
step text bytes ts us at blank t utf8 same token blank_is pushed read =
    let P : List ℕ → Type 0 = λ xs. StandsIn xs t in
    let stands_there : StandsIn text t = subst P same token.1 in
    let place : t.to + blank ≡ next_place text t.to = ap (λ n. t.to + n) (blank_is ∙ ap (λ xs. blank_len (drop t.to xs)) same) in
    let more = reads_more text 0 ts at t read.reads token.0 stands_there in
    let Q : ℕ → Type 0 = IsReadTo text us in
    let R : List Token → Type 0 = λ vs. Reads text 0 vs (next_place text t.to) in
    subst Q (sym place) (record {
      border = next_border text t.to utf8 (token_border text t utf8 stands_there);
      reads = subst R (sym pushed) more;
    })

-- where none stands, the first fault is
pub fault : (text bytes : List ℕ) (ts : List Token) (at : ℕ) (cause : Cause) → bytes ≡ text → IsReadTo text ts at → IsFaulty bytes at × (cause ≡ cause_at (slice_index bytes at)) → IsFirstFault text at cause
fault text bytes ts at cause same read found =
    let P : List ℕ → Type 0 = λ xs. IsFaulty xs at × (cause ≡ cause_at (slice_index xs at)) in
    let there = subst P same found in
    record { before = ts; reached = read.reads; faulty = there.0; of_cause = there.1 }

-- what the code passes for the rest of the bytes is the rest
pub of_rest : {X : Type 0} (f : List ℕ → X) (bytes : List ℕ) (at : ℕ) (x y : X) → x ≡ f (take (length bytes - at) (drop at bytes)) → x ≡ y → f (drop at bytes) ≡ y
of_rest f bytes at x y is e = ap f (sym (take_rest bytes at)) ∙ sym is ∙ e
