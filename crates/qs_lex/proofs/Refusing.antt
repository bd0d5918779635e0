-- What is told of faults.
use Rattle.std.proofs.Common.{◌≡◌, ℕ, List, refl, sym, ap, ◌∙◌}
use Rattle.qs_lex.specs.Places.{line_of, column_of}
use Rattle.qs_lex.specs.Refusals.{Tells, IsRefusedFor}
use Rattle.qs_lex.specs.declared.refusal.Cause.{Cause}
use Rattle.qs_lex.specs.declared.refusal.Refusal.{Refusal}

-- where a text has one fault at most, it has one refusal at most
pub one_refusal : {F : List ℕ → ℕ → Cause → Type 0} {text : List ℕ} {r s : Refusal} → ((p q : ℕ) (c d : Cause) → F text p c → F text q d → (p ≡ q) × (c ≡ d))
    → IsRefusedFor F text r → IsRefusedFor F text s → r ≡ s
one_refusal {F} {text} {r} {s} one a b =
    let same = one a.byte b.byte a.cause b.cause a.fault b.fault in
    let line : r.line ≡ s.line = a.tells.line ∙ ap (line_of text) same.0 ∙ sym b.tells.line in
    let column : r.column ≡ s.column = a.tells.column ∙ ap (column_of text) same.0 ∙ sym b.tells.column in
    let cause : r.cause ≡ s.cause = a.tells.cause_is ∙ same.1 ∙ sym b.tells.cause_is in
    λ i. record { line = line i; column = column i; cause = cause i }

-- a refusal that tells a fault
pub refused : {F : List ℕ → ℕ → Cause → Type 0} {text : List ℕ} {byte : ℕ} {cause : Cause} {r : Refusal} → F text byte cause → Tells text byte cause r → IsRefusedFor F text r
refused {F} {text} {byte} {cause} {r} fault tells = record { byte = byte; cause = cause; fault = fault; tells = tells }

-- each fault is told by one
pub some_refusal : (F : List ℕ → ℕ → Cause → Type 0) (text : List ℕ) (byte : ℕ) (cause : Cause) → F text byte cause → (r : Refusal) × IsRefusedFor F text r
some_refusal F text byte cause fault =
    let r : Refusal = record { line = line_of text byte; column = column_of text byte; cause = cause } in
    (r, refused fault (record { line = refl; column = refl; cause_is = refl }))
