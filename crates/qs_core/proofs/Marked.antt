-- Whether the rules so far are all marked unique and accepted, and one more of them.
use Rattle.std.proofs.Common.{◌≡◌, ℕ, zero, suc, ◌+◌, ◌≤◌, Bool, true, false, List, [], ◌∷◌, length, take, Some, slice_get, refl, sym, ap, ◌∙◌, arith}
use Rattle.std.specs.Prelude.{◌&&◌}
use Rattle.std.proofs.lemmas.List.{take_all}
use Rattle.std.proofs.Math.Bool.{and-true}
use Rattle.qs_pattern.specs.Rules.{Rule, all_unique}

and-assoc : (a b c : Bool) → (a && (b && c)) ≡ ((a && b) && c)
and-assoc true b c = refl
and-assoc false b c = refl

marked_more : (R : List Rule) (n : ℕ) (rule : Rule) → slice_get R n ≡ Some rule → all_unique (take (suc n) R) ≡ (all_unique (take n R) && rule.unique)
marked_more [] n rule at = absurd cc
marked_more (r ∷ R) zero rule at =
    let same : r ≡ rule = cc in
    and-true r.unique ∙ ap (λ (x : Rule). x.unique) same
marked_more (r ∷ R) (suc n) rule at = ap (λ b. r.unique && b) (marked_more R n rule at) ∙ and-assoc r.unique (all_unique (take n R)) rule.unique

pub one_marked : (R : List Rule) (n : ℕ) (rule : Rule) (all more : Bool) → slice_get R n ≡ Some rule → all ≡ all_unique (take n R) → more ≡ (all && rule.unique) → more ≡ all_unique (take (n + 1) R)
one_marked R n rule all more at e m =
    let next : suc n ≡ n + 1 = omega arith in
    m ∙ ap (λ b. b && rule.unique) e ∙ sym (marked_more R n rule at) ∙ ap (λ k. all_unique (take k R)) next

pub all_marked : (R : List Rule) (n : ℕ) (all : Bool) → length R ≤ n → all ≡ all_unique (take n R) → all ≡ all_unique R
all_marked R n all h e = e ∙ ap all_unique (take_all n R h)
