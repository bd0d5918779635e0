-- How the logic tells patterns, conditions and rules apart: by a tree of numbers for each. Nothing that a reader has to
-- believe stands here.
use Rattle.std.specs.Prelude.{◌≡◌, Bool, Option, refl}
use Rattle.std.specs.Coded.{Coded, code_by, coded×, coded_bool, coded_option}
use Rattle.std.proofs.Common.{ap}
use base.Stored.{Gv, gnil, gcons}
use Rattle.qs_pattern.specs.contracts.variable.Var as var
use Rattle.qs_pattern.specs.contracts.pattern.Head as head
use Rattle.qs_pattern.specs.Patterns.{Patterns, no_pattern, node_first, tree_var_first, forest_var_first}
use Rattle.qs_pattern.specs.Conditions.{Comparing, within, outside, same, Joining, all, any, Condition, Conditions}
use Rattle.qs_pattern.specs.Conditions.{compared, negated, combined, no_condition, condition_first}
use Rattle.qs_pattern.specs.Rules.{Rule, UnmarkedRule, marked, unmarked}

-- Marks that differ.
abbrev first_mark : Gv
first_mark = gnil

abbrev second_mark : Gv
second_mark = gcons gnil gnil

abbrev third_mark : Gv
third_mark = gcons gnil (gcons gnil gnil)

abbrev pub patterns_tree : Patterns → Gv
patterns_tree no_pattern = gnil
patterns_tree (node_first h kids behind) =
    gcons first_mark (gcons (head.the_row.coded.code h) (gcons (patterns_tree kids) (patterns_tree behind)))
patterns_tree (tree_var_first v behind) = gcons second_mark (gcons (var.the_row.coded.code v) (patterns_tree behind))
patterns_tree (forest_var_first v behind) = gcons third_mark (gcons (var.the_row.coded.code v) (patterns_tree behind))

pub patterns_tree-one : (p q : Patterns) → patterns_tree p ≡ patterns_tree q → p ≡ q
patterns_tree-one no_pattern no_pattern e = refl
patterns_tree-one (node_first h k b) (node_first h' k' b') e =
    let p : h ≡ h' = head.the_row.coded.inj h h' cc in
    let q : k ≡ k' = patterns_tree-one k k' cc in
    let r : b ≡ b' = patterns_tree-one b b' cc in
    λ i. node_first (p i) (q i) (r i)
patterns_tree-one (tree_var_first v b) (tree_var_first v' b') e =
    let p : v ≡ v' = var.the_row.coded.inj v v' cc in
    let r : b ≡ b' = patterns_tree-one b b' cc in
    λ i. tree_var_first (p i) (r i)
patterns_tree-one (forest_var_first v b) (forest_var_first v' b') e =
    let p : v ≡ v' = var.the_row.coded.inj v v' cc in
    let r : b ≡ b' = patterns_tree-one b b' cc in
    λ i. forest_var_first (p i) (r i)
patterns_tree-one no_pattern (node_first h k b) e = absurd cc
patterns_tree-one no_pattern (tree_var_first v b) e = absurd cc
patterns_tree-one no_pattern (forest_var_first v b) e = absurd cc
patterns_tree-one (node_first h k b) no_pattern e = absurd cc
patterns_tree-one (node_first h k b) (tree_var_first v' b') e = absurd cc
patterns_tree-one (node_first h k b) (forest_var_first v' b') e = absurd cc
patterns_tree-one (tree_var_first v b) no_pattern e = absurd cc
patterns_tree-one (tree_var_first v b) (node_first h' k' b') e = absurd cc
patterns_tree-one (tree_var_first v b) (forest_var_first v' b') e = absurd cc
patterns_tree-one (forest_var_first v b) no_pattern e = absurd cc
patterns_tree-one (forest_var_first v b) (node_first h' k' b') e = absurd cc
patterns_tree-one (forest_var_first v b) (tree_var_first v' b') e = absurd cc

abbrev pub patterns_code : Coded Patterns
patterns_code = record { code = patterns_tree; inj = patterns_tree-one }

abbrev comparing_tree : Comparing → Gv
comparing_tree within = first_mark
comparing_tree outside = second_mark
comparing_tree same = third_mark

comparing_tree-one : (v w : Comparing) → comparing_tree v ≡ comparing_tree w → v ≡ w
comparing_tree-one within within e = refl
comparing_tree-one outside outside e = refl
comparing_tree-one same same e = refl
comparing_tree-one within outside e = absurd cc
comparing_tree-one within same e = absurd cc
comparing_tree-one outside within e = absurd cc
comparing_tree-one outside same e = absurd cc
comparing_tree-one same within e = absurd cc
comparing_tree-one same outside e = absurd cc

abbrev joining_tree : Joining → Gv
joining_tree all = first_mark
joining_tree any = second_mark

joining_tree-one : (v w : Joining) → joining_tree v ≡ joining_tree w → v ≡ w
joining_tree-one all all e = refl
joining_tree-one any any e = refl
joining_tree-one all any e = absurd cc
joining_tree-one any all e = absurd cc

abbrev mutual
  pub condition_tree : Condition → Gv
  condition_tree (compared w a b) =
      gcons first_mark (gcons (comparing_tree w) (gcons (patterns_tree a) (patterns_tree b)))
  condition_tree (negated c) = gcons second_mark (condition_tree c)
  condition_tree (combined w cs) = gcons third_mark (gcons (joining_tree w) (conditions_tree cs))

  pub conditions_tree : Conditions → Gv
  conditions_tree no_condition = gnil
  conditions_tree (condition_first c cs) = gcons (condition_tree c) (conditions_tree cs)

mutual
  pub condition_tree-one : (c d : Condition) → condition_tree c ≡ condition_tree d → c ≡ d
  condition_tree-one (compared w a b) (compared w' a' b') e =
      let o : w ≡ w' = comparing_tree-one w w' cc in
      let p : a ≡ a' = patterns_tree-one a a' cc in
      let q : b ≡ b' = patterns_tree-one b b' cc in
      λ i. compared (o i) (p i) (q i)
  condition_tree-one (negated c) (negated d) e = ap negated (condition_tree-one c d cc)
  condition_tree-one (combined w cs) (combined w' ds) e =
      let o : w ≡ w' = joining_tree-one w w' cc in
      let p : cs ≡ ds = conditions_tree-one cs ds cc in
      λ i. combined (o i) (p i)
  condition_tree-one (compared w a b) (negated d) e = absurd cc
  condition_tree-one (compared w a b) (combined w' ds) e = absurd cc
  condition_tree-one (negated c) (compared w' a' b') e = absurd cc
  condition_tree-one (negated c) (combined w' ds) e = absurd cc
  condition_tree-one (combined w cs) (compared w' a' b') e = absurd cc
  condition_tree-one (combined w cs) (negated d) e = absurd cc

  pub conditions_tree-one : (cs ds : Conditions) → conditions_tree cs ≡ conditions_tree ds → cs ≡ ds
  conditions_tree-one no_condition no_condition e = refl
  conditions_tree-one (condition_first c cs) (condition_first d ds) e =
      let p : c ≡ d = condition_tree-one c d cc in
      let q : cs ≡ ds = conditions_tree-one cs ds cc in
      λ i. condition_first (p i) (q i)
  conditions_tree-one no_condition (condition_first d ds) e = absurd cc
  conditions_tree-one (condition_first c cs) no_condition e = absurd cc

abbrev pub condition_code : Coded Condition
condition_code = record { code = condition_tree; inj = condition_tree-one }

abbrev pub unmarked_code : Coded UnmarkedRule
unmarked_code =
    code_by (Patterns × (Patterns × Option Condition))
    (coded× patterns_code (coded× patterns_code (coded_option condition_code)))
    (λ r. (r.left, (r.right, r.condition))) (λ p. record { left = p.0; right = p.1.0; condition = p.1.1 }) (λ _. refl)

abbrev pub rule_code : Coded Rule
rule_code = code_by (Bool × UnmarkedRule) (coded× coded_bool unmarked_code) (λ r. (r.unique, unmarked r))
    (λ p. marked p.0 p.1) (λ _. refl)
