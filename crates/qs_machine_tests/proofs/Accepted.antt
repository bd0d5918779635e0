-- Small rules without variables are accepted.
use Rattle.std.proofs.Common.{◌≡◌, [], ◌∷◌, None, sym, subst, arith}
use Rattle.qs_tree.specs.declared.cell.Label.{Label}
use Rattle.qs_pattern.specs.Patterns.{Patterns}
use Rattle.qs_pattern.specs.Rules.{UnmarkedRule, IsSide, IsAcceptable}
use Rattle.qs_canon.specs.Merging.{side}

one_node : (a : Label) → IsSide (side (a ∷ []))
one_node a = record { some = omega arith; at_most = omega arith; no_forest_at_top = tt; in_class = (tt, tt, tt) }

two_nodes : (a b : Label) → IsSide (side (a ∷ b ∷ []))
two_nodes a b = record { some = omega arith; at_most = omega arith; no_forest_at_top = tt; in_class = (tt, tt, (tt, tt, tt)) }

-- the rule with these sides
abbrev rule_of : Patterns → Patterns → UnmarkedRule
rule_of l r = record { left = l; right = r; condition = None }

pub one_for_one : (a b : Label) (l r : Patterns) → l ≡ side (a ∷ []) → r ≡ side (b ∷ []) → IsAcceptable (record { left = l; right = r; condition = None })
one_for_one a b l r p q =
    let same : rule_of (side (a ∷ [])) (side (b ∷ [])) ≡ rule_of l r = λ i. rule_of (sym p i) (sym q i) in
    subst IsAcceptable same (record {
      left = one_node a;
      right = one_node b;
      condition = tt;
      members = tt;
      cells = omega arith;
      variables = omega arith;
      bound = λ v i. absurd i;
    })

pub two_for_one : (a b c : Label) (l r : Patterns) → l ≡ side (a ∷ []) → r ≡ side (b ∷ c ∷ []) → IsAcceptable (record { left = l; right = r; condition = None })
two_for_one a b c l r p q =
    let same : rule_of (side (a ∷ [])) (side (b ∷ c ∷ [])) ≡ rule_of l r = λ i. rule_of (sym p i) (sym q i) in
    subst IsAcceptable same (record {
      left = one_node a;
      right = two_nodes b c;
      condition = tt;
      members = tt;
      cells = omega arith;
      variables = omega arith;
      bound = λ v i. absurd i;
    })
