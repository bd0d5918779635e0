-- Each text has tokens or a first fault.
use Rattle.std.proofs.Common.{◌≡◌, ℕ, zero, suc, ◌+◌, ◌<◌, ◌≤◌, Bool, true, false, cond, List, [], ◌∷◌, length, drop, Ok, Err, refl, ⊎_elim, inl, inr, arith, eqb, length-drop}
use Rattle.std.specs.Prelude.{◌⊎◌, slice_index}
use Rattle.std.proofs.lemmas.Bool.{cases_lt}
use Rattle.qs_lex.specs.Characters.{is_space}
use Rattle.qs_lex.specs.Tokens.{version_of, blank_len, comment_len, next_place, StandsIn, Reads, AreTokensOf}
use Rattle.qs_lex.specs.Refusals.{IsFaulty, IsFirstFault, cause_at}
use Rattle.qs_lex.specs.working.Scan.{Found, scan}
use Rattle.qs_lex.specs.declared.token.Token.{Token}
use Rattle.qs_lex.specs.declared.refusal.Cause.{Cause}
use Rattle.qs_lex.proofs.Standing.{stands, has_byte, none_there}

either_le : (t : Bool) (m n k : ℕ) → m ≤ k → n ≤ k → cond t m n ≤ k
either_le true m n k a b = a
either_le false m n k a b = b

blanks_le : (bytes : List ℕ) → (blank_len bytes ≤ length bytes) × (comment_len bytes ≤ length bytes)
blanks_le [] = (omega arith, omega arith)
blanks_le (b ∷ bs) =
    let rest = blanks_le bs in
    let spaces = either_le (is_space b) (suc (blank_len bs)) 0 (suc (length bs)) (omega (arith, rest.0)) (omega arith) in
    let inner = either_le (eqb b 10) (blank_len bs) (comment_len bs) (length bs) rest.0 rest.1 in
    (either_le (eqb b 35) (suc (comment_len bs)) (cond (is_space b) (suc (blank_len bs)) 0) (suc (length bs)) (omega (arith, rest.1)) spaces, omega (arith, inner))

-- from `at` on the text has tokens to its end, or tokens that lead to a faulty place
abbrev ReadsOn : List ℕ → ℕ → Type 0
ReadsOn text at = ((ts : List Token) × Reads text at ts (length text)) ⊎ ((ts : List Token) × (p : ℕ) × Reads text at ts p × IsFaulty text p)

behind : (text : List ℕ) (at : ℕ) (t : Token) → t.from ≡ next_place text at → StandsIn text t → ReadsOn text t.to → ReadsOn text at
behind text at t from s rest =
    ⊎_elim
    (λ r. inl (t ∷ r.0, (from, s, r.1)))
    (λ r. inr (t ∷ r.0, r.1, (from, s, r.2), r.3))
    rest

-- by what `scan` finds at the next place
by_scan : (text : List ℕ) (at : ℕ) (found : Found) → scan (version_of text) (drop (next_place text at) text) ≡ found → next_place text at < length text → ((to : ℕ) → at < to → to ≤ length text → ReadsOn text to) → ReadsOn text at
by_scan text at (Err cause) e within more = inr ([], next_place text at, refl, none_there text (next_place text at) cause within e)
by_scan text at (Ok x) e within more =
    let t : Token = record { kind = x.0; from = next_place text at; to = next_place text at + x.1 } in
    let s : StandsIn text t = stands text t x.1 (omega arith) e refl in
    behind text at t refl s (more t.to (let some = has_byte s in omega arith) s.within)

reads_on : (fuel : ℕ) (text : List ℕ) (at : ℕ) → at ≤ length text → length text ≤ at + fuel → ReadsOn text at
reads_on zero text at within enough =
    let blank = (blanks_le (drop at text)).0 in
    inl ([], omega (arith, length-drop at text))
reads_on (suc fuel) text at within enough =
    let blank = (blanks_le (drop at text)).0 in
    ⊎_elim
    (λ inside. by_scan text at (scan (version_of text) (drop (next_place text at) text)) refl inside (λ to further short. reads_on fuel text to short (omega arith)))
    (λ past. inl ([], omega (arith, length-drop at text)))
    (cases_lt (next_place text at) (length text))

pub a_reading : (text : List ℕ) → ((ts : List Token) × AreTokensOf text ts) ⊎ ((p : ℕ) × (c : Cause) × IsFirstFault text p c)
a_reading text =
    ⊎_elim
    (λ r. inl r)
    (λ r. inr (r.1, cause_at (slice_index text r.1), record { before = r.0; reached = r.2; faulty = r.3; of_cause = refl }))
    (reads_on (length text) text 0 (omega arith) (omega arith))
