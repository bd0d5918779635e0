-- How many entries of a history name one pass.
use Rattle.std.proofs.Common.{◌≡◌, ◌==◌, ℕ, suc, ◌+◌, List, [], ◌∷◌, ◌++◌, refl, ap, ◌∙◌, subst, All, arith}
use Rattle.std.specs.Prelude.{count_by}
use Rattle.std.proofs.lemmas.List.Sums.{sum_by-append}
use Rattle.qs_turn.specs.History.{IsOtherPass, ContinuedByOthers}
use Rattle.qs_turn.specs.working.Protocol.{one_if_same}
use Rattle.qs_turn.specs.declared.told.Told.{Ghosts}
use Rattle.qs_turn.specs.declared.turns.Pass.{Pass}
use Rattle.qs_turn.specs.Passes.{number_of, seen_of}
use Rattle.qs_turn.proofs.Closing.{all_front}
use Rattle.qs_turn.proofs.Totals.{here_not, here_is}

module _ {E : Type 0} (pass_of : E → ℕ) (passes k : ℕ) where
  abbrev entries_of : List E → ℕ
  entries_of history = count_by (λ e. pass_of e == k) history

  entries_none : (later : List E) → All (λ e. IsOtherPass passes k (pass_of e)) later → entries_of later ≡ 0
  entries_none [] all = refl
  entries_none (e ∷ es) all = let more = entries_none es (λ i d l. all (suc i) d (omega arith)) in let other = all 0 e (omega arith) in let here = here_not k (pass_of e) other.0 in
      let sum = sum_by-append (λ d. one_if_same (pass_of d) k) (e ∷ []) es in omega arith

  -- what others enter adds none
  pub entries_by_others : (seen history : List E) → ContinuedByOthers pass_of passes k seen history → entries_of history ≡ entries_of seen
  entries_by_others seen history c = let none = entries_none c.0 c.2 in let sum = sum_by-append (λ e. one_if_same (pass_of e) k) seen c.0 in let same = ap entries_of c.1 in omega arith

  pub one_more_entry : (history : List E) (e : E) → pass_of e ≡ k → entries_of (history ++ e ∷ []) ≡ entries_of history + 1
  one_more_entry history e is = let one = here_is k (pass_of e) is in let sum = sum_by-append (λ d. one_if_same (pass_of d) k) history (e ∷ []) in omega arith

module _ {T E : Type 0} {g : Ghosts T E} (pass_of : E → ℕ) (passes : ℕ) (h : List E) where
  -- of two passes that came back
  pub two_back : (all left : List (Pass T E g)) (a b : Pass T E g) → all ≡ (left ++ a ∷ []) ++ b ∷ [] → All (λ p. ContinuedByOthers pass_of passes (number_of p) (seen_of p) h) all
      → ContinuedByOthers pass_of passes (number_of a) (seen_of a) h × ContinuedByOthers pass_of passes (number_of b) (seen_of b) h
  two_back all left a b e back = let P = λ (p : Pass T E g). ContinuedByOthers pass_of passes (number_of p) (seen_of p) h in
      let second = all_front P (left ++ a ∷ []) b (subst (λ ps. All P ps) e back) in let first = all_front P left a second.0 in (first.1, second.1)

  -- the history has the entries of a pass that it has seen, and no more of it
  pub entries_of_one : (p : Pass T E g) (k n : ℕ) → ContinuedByOthers pass_of passes (number_of p) (seen_of p) h → number_of p ≡ k → count_by (λ e. pass_of e == k) (seen_of p) ≡ n → count_by (λ e. pass_of e == k) h ≡ n
  entries_of_one p k n others is count = entries_by_others pass_of passes k (seen_of p) h (subst (λ i. ContinuedByOthers pass_of passes i (seen_of p) h) is others) ∙ count
