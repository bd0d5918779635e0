-- Lists of rules that are all marked unique.
use Rattle.std.proofs.Common.{◌≡◌, Bool, true, false, List, [], ◌∷◌, refl, inl, inr, ap, ◌∙◌, ⊎_elim}
use Rattle.std.specs.Prelude.{◌&&◌}
use Rattle.qs_tree.proofs.Sameness.{and_true, true_and}
use Rattle.qs_pattern.specs.Rules.{Rule, IsUnique, all_unique}

pub all_unique-true : (rules : List Rule) → IsUnique rules → all_unique rules ≡ true
all_unique-true [] each = refl
all_unique-true (rule ∷ rules) each =
    true_and rule.unique (all_unique rules) (each rule (inl refl)) (all_unique-true rules (λ r i. each r (inr i)))

pub true-all_unique : (rules : List Rule) → all_unique rules ≡ true → IsUnique rules
true-all_unique [] e rule i = absurd i
true-all_unique (first ∷ rules) e rule i =
    let both = and_true first.unique (all_unique rules) e in
    ⊎_elim (λ same. ap (λ (r : Rule). r.unique) same ∙ both.0) (λ j. true-all_unique rules both.1 rule j) i
