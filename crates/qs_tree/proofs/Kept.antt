-- A list that begins with another one, to whose length it can be cut back.
use Rattle.std.proofs.Common.{◌≡◌, ℕ, ◌≤◌, List, ◌++◌, length, take, sym, ap, ◌∙◌, arith, Result, OnOk, OnErr, Ok, Err}
use Rattle.std.proofs.Math.Seq.{take-append_seam}
use Rattle.std.proofs.lemmas.List.{take-take, length-take}

-- a list that begins with a list that begins with `start`
pub kept-further : (start out now : List ℕ) → take (length start) out ≡ start → take (length out) now ≡ out → take (length start) now ≡ start
kept-further start out now k e =
    let shorter : length start ≤ length out = omega (arith, ap length k, length-take (length start) out) in
    sym (take-take (length start) (length out) now shorter) ∙ ap (λ xs. take (length start) xs) e ∙ k

-- the same with more behind it
pub kept-append : (start out now more : List ℕ) → take (length start) out ≡ start → now ≡ out ++ more → take (length start) now ≡ start
kept-append start out now more k e =
    kept-further start out now k (ap (λ xs. take (length out) xs) e ∙ take-append_seam out more)

-- a fact that holds, holds on an error
pub on_err : {T E P : Type 0} (r : Result T E) → P → OnErr r P
on_err (Ok _) p = tt
on_err (Err _) p = p

-- a fact of a value, and what follows from it
pub on_ok : {T E P Q : Type 0} (r : Result T E) → (P → Q) → OnOk r P → OnOk r Q
on_ok (Ok _) f p = f p
on_ok (Err _) f p = tt

-- the same where nothing was written
pub kept-same : (start out now : List ℕ) → take (length start) out ≡ start → now ≡ out → take (length start) now ≡ start
kept-same start out now k e = ap (λ xs. take (length start) xs) e ∙ k
