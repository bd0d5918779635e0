-- The cells of patterns and conditions, one behind the other.
use Rattle.std.proofs.Common.{◌≡◌, ◌⊎◌, inl, inr, ℕ, ◌+◌, ◌<◌, ◌≤◌, List, [], ◌∷◌, ◌++◌, length, drop, get_or, Option, Some, None, refl, sym, ◌∙◌, ap, arith, append_assoc, append-nil, length-append, Global}
use Rattle.std.specs.declared.vec.Vec.{Vec}
use Rattle.std.proofs.lemmas.List.{drop_more, drop_all}
use Rattle.qs_pattern.specs.declared.variable.Var.{Var}
use Rattle.qs_pattern.specs.declared.pattern.Head.{Head}
use Rattle.qs_pattern.specs.declared.pattern.Pattern.{Pattern, Node, Node', Tree, Forest}
use Rattle.qs_pattern.specs.declared.condition.Cond.{Cond, All, Any}
use Rattle.qs_pattern.specs.Patterns.{Patterns, no_pattern, node_first, tree_var_first, forest_var_first, pattern_before, patterns, cells, head_variables, variables_in}
use Rattle.qs_pattern.specs.working.Patterns.{one_pattern}
use Rattle.qs_pattern.specs.Conditions.{Condition, Conditions, compared, negated, combined, no_condition, condition_first, condition_of, over_all_lists, condition_cells, condition_variables}
use Rattle.qs_pattern.specs.working.Conditions.{conditions}
use Rattle.qs_pattern.specs.Rules.{UnmarkedRule, rule_cells, rule_variables, cells_if_given, variables_if_given}
use Rattle.qs_pattern.proofs.PatternLemmas.{pattern-Node}
use Rattle.qs_pattern.proofs.ConditionLemmas.{condition-All, condition-Any}
use Rattle.qs_check.specs.Cells.{written, written_condition, written_if_given, written_rule, variables_among}

-- of several conditions
abbrev pub written_conditions : Conditions → List Head
written_conditions cs = over_all_lists [] (λ hs gs. hs ++ gs) written cs

abbrev pub conditions_cells : Conditions → ℕ
conditions_cells cs = over_all_lists 0 (λ m n. m + n) cells cs

abbrev conditions_variables : Conditions → List Var
conditions_variables cs = over_all_lists [] (λ vs ws. vs ++ ws) variables_in cs

written-before : (p : Pattern) (us : Patterns) → written (pattern_before p us) ≡ written (one_pattern p) ++ written us
written-before (Node' h shape kids) us = ap (λ cs. h ∷ (cs ++ written us)) (sym (append-nil _))
written-before (Tree v) us = refl
written-before (Forest v) us = refl

pub written-Node : (p : Pattern) (h : Head) (ks : Vec Pattern Global) → p ≡ Node h ks → written (one_pattern p) ≡ h ∷ written (patterns ks.items)
written-Node p h ks is = ap written (ap one_pattern is ∙ pattern-Node h ks no_pattern) ∙ ap (λ cs. h ∷ cs) (append-nil (written (patterns ks.items)))

module _ (ps : List Pattern) (i : ℕ) where
  -- the loop over patterns goes one on
  pub written_more : (x : Pattern) (a b whole : List Head) → i < length ps → x ≡ get_or ps i x → b ≡ a ++ written (one_pattern x)
      → a ++ written (patterns (drop i ps)) ≡ whole → b ++ written (patterns (drop (i + 1) ps)) ≡ whole
  written_more x a b whole l is e h =
      ap (λ cs. cs ++ written (patterns (drop (i + 1) ps))) e
      ∙ append_assoc a (written (one_pattern x)) (written (patterns (drop (i + 1) ps)))
      ∙ sym (ap (λ cs. a ++ cs)
      (ap (λ qs. written (patterns qs)) (drop_more ps i x l)
      ∙ written-before (get_or ps i x) (patterns (drop (i + 1) ps))
      ∙ ap (λ y. written (one_pattern y) ++ written (patterns (drop (i + 1) ps))) (sym is)))
      ∙ h

  pub written_done : (a whole : List Head) → length ps ≤ i → a ++ written (patterns (drop i ps)) ≡ whole → a ≡ whole
  written_done a whole l h = sym (append-nil a) ∙ ap (λ qs. a ++ written (patterns qs)) (sym (drop_all i ps l)) ∙ h

module _ (cs : List Cond) (i : ℕ) where
  -- the loop over conditions goes one on
  pub conditions_more : (x : Cond) (a b whole : List Head) → i < length cs → x ≡ get_or cs i x → b ≡ a ++ written_condition (condition_of x)
      → a ++ written_conditions (conditions (drop i cs)) ≡ whole → b ++ written_conditions (conditions (drop (i + 1) cs)) ≡ whole
  conditions_more x a b whole l is e h =
      ap (λ ds. ds ++ written_conditions (conditions (drop (i + 1) cs))) e
      ∙ append_assoc a (written_condition (condition_of x)) (written_conditions (conditions (drop (i + 1) cs)))
      ∙ sym (ap (λ ds. a ++ ds)
      (ap (λ qs. written_conditions (conditions qs)) (drop_more cs i x l)
      ∙ ap (λ y. written_condition (condition_of y) ++ written_conditions (conditions (drop (i + 1) cs))) (sym is)))
      ∙ h

  pub conditions_done : (a whole : List Head) → length cs ≤ i → a ++ written_conditions (conditions (drop i cs)) ≡ whole → a ≡ whole
  conditions_done a whole l h = sym (append-nil a) ∙ ap (λ qs. a ++ written_conditions (conditions qs)) (sym (drop_all i cs l)) ∙ h

-- the members of a condition that joins others
pub written_members : (c : Cond) (cs : Vec Cond Global) → (c ≡ All cs) ⊎ (c ≡ Any cs) → written_condition (condition_of c) ≡ written_conditions (conditions cs.items)
written_members c cs (inl is) = ap written_condition (ap condition_of is ∙ condition-All cs)
written_members c cs (inr is) = ap written_condition (ap condition_of is ∙ condition-Any cs)

-- ---- how many cells there are

pub length-written : (ps : Patterns) → length (written ps) ≡ cells ps
length-written no_pattern = refl
length-written (node_first h kids behind) = omega (arith, length-append (written kids) (written behind), length-written kids, length-written behind)
length-written (tree_var_first v behind) = omega (arith, length-written behind)
length-written (forest_var_first v behind) = omega (arith, length-written behind)

mutual
  length-condition : (c : Condition) → length (written_condition c) ≡ condition_cells c
  length-condition (compared word a b) = omega (arith, length-append (written a) (written b), length-written a, length-written b)
  length-condition (negated c) = length-condition c
  length-condition (combined word cs) = length-conditions cs

  length-conditions : (cs : Conditions) → length (written_conditions cs) ≡ conditions_cells cs
  length-conditions no_condition = refl
  length-conditions (condition_first c cs) = omega (arith, length-append (written_condition c) (written_conditions cs), length-condition c, length-conditions cs)

length-if_given : (o : Option Condition) → length (written_if_given o) ≡ cells_if_given o
length-if_given None = refl
length-if_given (Some c) = length-condition c

pub length-rule : (rule : UnmarkedRule) → length (written_rule rule) ≡ rule_cells rule
length-rule rule =
    omega (
      arith,
      length-append (written rule.left) (written rule.right ++ written_if_given rule.condition),
      length-append (written rule.right) (written_if_given rule.condition),
      length-written rule.left,
      length-written rule.right,
      length-if_given rule.condition,
    )

-- ---- the variables among the cells

pub variables_among-append : (a b : List Head) → variables_among (a ++ b) ≡ variables_among a ++ variables_among b
variables_among-append [] b = refl
variables_among-append (h ∷ a) b = ap (λ vs. head_variables h ++ vs) (variables_among-append a b) ∙ sym (append_assoc (head_variables h) (variables_among a) (variables_among b))

pub variables-written : (ps : Patterns) → variables_among (written ps) ≡ variables_in ps
variables-written no_pattern = refl
variables-written (node_first h kids behind) =
    ap (λ vs. head_variables h ++ vs) (variables_among-append (written kids) (written behind) ∙ (λ i. variables-written kids i ++ variables-written behind i))
variables-written (tree_var_first v behind) = ap (λ vs. v ∷ vs) (variables-written behind)
variables-written (forest_var_first v behind) = ap (λ vs. v ∷ vs) (variables-written behind)

both-lists : (a b : Patterns) → variables_among (written a ++ written b) ≡ variables_in a ++ variables_in b
both-lists a b = variables_among-append (written a) (written b) ∙ (λ i. variables-written a i ++ variables-written b i)

mutual
  variables-condition : (c : Condition) → variables_among (written_condition c) ≡ condition_variables c
  variables-condition (compared word a b) = both-lists a b
  variables-condition (negated c) = variables-condition c
  variables-condition (combined word cs) = variables-conditions cs

  variables-conditions : (cs : Conditions) → variables_among (written_conditions cs) ≡ conditions_variables cs
  variables-conditions no_condition = refl
  variables-conditions (condition_first c cs) =
      variables_among-append (written_condition c) (written_conditions cs) ∙ (λ i. variables-condition c i ++ variables-conditions cs i)

variables-if_given : (o : Option Condition) → variables_among (written_if_given o) ≡ variables_if_given o
variables-if_given None = refl
variables-if_given (Some c) = variables-condition c

pub variables-rule : (rule : UnmarkedRule) → variables_among (written_rule rule) ≡ rule_variables rule
variables-rule rule =
    variables_among-append (written rule.left) (written rule.right ++ written_if_given rule.condition)
    ∙ (λ i. variables-written rule.left i ++ (variables_among-append (written rule.right) (written_if_given rule.condition) i))
    ∙ (λ i. variables_in rule.left ++ (variables-written rule.right i ++ variables-if_given rule.condition i))
