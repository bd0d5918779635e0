-- A match of a rule's left side covers what else the rule writes.
use Rattle.std.proofs.Common.{◌≡◌, List, [], ◌++◌, Some, refl, sym, subst, inl, inr}
use Rattle.qs_tree.specs.Lists.{◌∈◌}
use Rattle.qs_tree.specs.Trees.{Tree}
use Rattle.qs_tree.proofs.Members.{in_append_left, in_append_right}
use Rattle.qs_pattern.specs.declared.variable.Var.{Var}
use Rattle.qs_pattern.specs.declared.pattern.Head.{Head}
use Rattle.qs_pattern.specs.declared.pattern.Head.TheVariants as head
use Rattle.qs_pattern.specs.Patterns.{Patterns, no_pattern, node_first, tree_var_first, forest_var_first, head_variables, variables_in, IsHeadInClass, AreInClass}
use Rattle.qs_pattern.specs.Substitutions.{Substitution}
use Rattle.qs_pattern.specs.Instances.{IsLabel, IsTree, IsForest, IsHeadCovered, IsCovered, IsMatch}
use Rattle.qs_pattern.specs.Conditions.{Condition, Conditions, compared, negated, combined, no_condition, condition_first, over_all_lists, condition_variables, IsConditionInClass, IsConditionCovered}
use Rattle.qs_pattern.specs.working.Conditions.{EachListOfAll, AreConditionsCovered}
use Rattle.qs_pattern.specs.Rules.{Rule, IsAccepted, variables_if_given, IsInClassIfGiven}
use Rattle.qs_pattern.proofs.VariableLemmas.{HasValue}
use Rattle.qs_pattern.proofs.Reading.{label_of_var, tree_of_var, forest_of_var}
use Rattle.qs_pattern.proofs.MatchLemmas.{matched_value}

module _ (s : Substitution) where
  head_covered : (h : Head) → IsHeadInClass h → ((v : Var) → v ∈ head_variables h → HasValue s v) → IsHeadCovered s h
  head_covered (head.Label l) c has = tt
  head_covered (head.Var v) c has = let (l, e) = label_of_var s v c (has v (inl refl)) in subst IsLabel (sym e) tt

  -- patterns are covered where each of their variables has a value
  pub all_covered : (ps : Patterns) → AreInClass ps → ((v : Var) → v ∈ variables_in ps → HasValue s v) → IsCovered s ps
  all_covered no_pattern c has = tt
  all_covered (node_first h below behind) c has =
      let inner = variables_in below ++ variables_in behind in (
        head_covered h c.0 (λ v i. has v (in_append_left (head_variables h) inner v i)),
        all_covered below c.1 (λ v i. has v (in_append_right (head_variables h) inner v (in_append_left (variables_in below) (variables_in behind) v i))),
        all_covered behind c.2 (λ v i. has v (in_append_right (head_variables h) inner v (in_append_right (variables_in below) (variables_in behind) v i))),
      )
  all_covered (tree_var_first v behind) c has =
      let (t, e) = tree_of_var s v c.0 (has v (inl refl)) in (subst IsTree (sym e) tt, all_covered behind c.1 (λ w i. has w (inr i)))
  all_covered (forest_var_first v behind) c has =
      let (ts, e) = forest_of_var s v c.0 (has v (inl refl)) in (subst IsForest (sym e) tt, all_covered behind c.1 (λ w i. has w (inr i)))

  lists_covered : (a b : Patterns) → AreInClass a × AreInClass b → ((v : Var) → v ∈ (variables_in a ++ variables_in b) → HasValue s v) → IsCovered s a × IsCovered s b
  lists_covered a b c has = (
    all_covered a c.0 (λ v i. has v (in_append_left (variables_in a) (variables_in b) v i)),
    all_covered b c.1 (λ v i. has v (in_append_right (variables_in a) (variables_in b) v i)),
  )

abbrev pub conditions_variables : Conditions → List Var
conditions_variables cs = over_all_lists [] (λ vs ws. vs ++ ws) variables_in cs

mutual
  -- so are conditions
  pub condition_covered : (s : Substitution) (c : Condition) → IsConditionInClass c → ((v : Var) → v ∈ condition_variables c → HasValue s v) → IsConditionCovered s c
  condition_covered s (compared w a b) k has = lists_covered s a b k has
  condition_covered s (negated c) k has = condition_covered s c k has
  condition_covered s (combined w cs) k has = conditions_covered s cs k has

  conditions_covered : (s : Substitution) (cs : Conditions) → EachListOfAll AreInClass cs → ((v : Var) → v ∈ conditions_variables cs → HasValue s v) → AreConditionsCovered s cs
  conditions_covered s no_condition k has = tt
  conditions_covered s (condition_first c cs) k has = (
    condition_covered s c k.0 (λ v i. has v (in_append_left (condition_variables c) (conditions_variables cs) v i)),
    conditions_covered s cs k.1 (λ v i. has v (in_append_right (condition_variables c) (conditions_variables cs) v i)),
  )

module _ (rule : Rule) (ok : IsAccepted rule) (trees : List Tree) (s : Substitution) (m : IsMatch rule.left trees s) where
  pub right_values : (v : Var) → v ∈ variables_in rule.right → HasValue s v
  right_values v i = matched_value rule.left trees s m v (ok.bound v (in_append_left (variables_in rule.right) (variables_if_given rule.condition) v i))

  pub right_covered : IsCovered s rule.right
  right_covered = all_covered s rule.right ok.right.in_class right_values

  pub given_covered : (c : Condition) → rule.condition ≡ Some c → IsConditionCovered s c
  given_covered c e =
      condition_covered s c (subst IsInClassIfGiven e ok.condition)
      (λ v i. matched_value rule.left trees s m v
      (ok.bound v (in_append_right (variables_in rule.right) (variables_if_given rule.condition) v (subst (λ o. v ∈ variables_if_given o) (sym e) i))))
