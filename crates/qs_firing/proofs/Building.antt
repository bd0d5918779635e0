-- A firing of an accepted rule builds at least one tree, and at most 16.
use Rattle.std.proofs.Common.{◌≡◌, ◌<◌, ◌≤◌, List, [], length, Option, None, Some, slice_get, unwrap_or, refl, sym, ap, subst, inl, arith, length-append}
use Rattle.std.specs.Option.{option_map}
use Rattle.qs_tree.specs.Lists.{◌∈◌}
use Rattle.qs_pattern.specs.declared.variable.Var.{Var}
use Rattle.qs_pattern.specs.declared.subst.Value.{Value}
use Rattle.qs_pattern.specs.declared.subst.Value.TheVariants as value
use Rattle.qs_pattern.specs.Variables.{IsTreeVar}
use Rattle.qs_pattern.specs.Patterns.{Patterns, no_pattern, node_first, tree_var_first, forest_var_first, count, variables_in, AreInClass, NoForestAtTop}
use Rattle.qs_pattern.specs.Substitutions.{Substitution, value_of}
use Rattle.qs_pattern.specs.Instances.{inst, tree_in}
use Rattle.qs_pattern.specs.Rules.{Rule, IsAccepted}
use Rattle.qs_pattern.proofs.Reading.{tree_of_var}
use Rattle.qs_pattern.proofs.Covering.{right_values}
use Rattle.qs_graph.specs.Graphs.{Arc, trees_on}
use Rattle.qs_tree.proofs.Members.{in_at}
use Rattle.qs_firing.specs.Firings.{Firing, Fires}
use Rattle.qs_firing.specs.Adding.{built}

some_tree : (s : Substitution) (side : Patterns) → 1 ≤ count side → NoForestAtTop side → AreInClass side
    → ((v : Var) → v ∈ variables_in side → IsTreeVar v → 0 < length (tree_in (value_of s v))) → 0 < length (inst s side)
some_tree s no_pattern one top class trees = absurd (omega arith)
some_tree s (node_first h kids behind) one top class trees = omega arith
some_tree s (tree_var_first v behind) one top class trees = omega (arith, trees v (inl refl) class.0, length-append (tree_in (value_of s v)) (inst s behind))
some_tree s (forest_var_first v behind) one top class trees = absurd top

pub built_some : (R : List Rule) → ((rule : Rule) → rule ∈ R → IsAccepted rule) → (arcs : List Arc) (f : Firing) → Fires R arcs f → 0 < length (built R f)
built_some R accepted arcs f fires = subst (λ ts. 0 < length ts) (sym is) some
  where
    is : built R f ≡ inst f.values fires.rule.right
    is = ap (λ o. unwrap_or (option_map (λ (rule : Rule). inst f.values rule.right) o) []) fires.is_rule

    ok : IsAccepted fires.rule
    ok = accepted fires.rule (in_at R f.rule fires.rule fires.is_rule)

    tree : (v : Var) → v ∈ variables_in fires.rule.right → IsTreeVar v → 0 < length (tree_in (value_of f.values v))
    tree v i t =
        let (u, e) = tree_of_var f.values v t (right_values fires.rule ok (trees_on arcs f.path) f.values fires.matches v i) in
        subst (λ o. 0 < length (tree_in o)) (sym e) (omega arith)

    some : 0 < length (inst f.values fires.rule.right)
    some = some_tree f.values fires.rule.right ok.right.some ok.right.no_forest_at_top ok.right.in_class tree

-- a value gives at most one tree at the place of a tree
tree_in_few : (o : Option Value) → length (tree_in o) ≤ 1
tree_in_few None = omega arith
tree_in_few (Some (value.Label l)) = omega arith
tree_in_few (Some (value.Tree t)) = omega arith
tree_in_few (Some (value.Forest ts)) = omega arith

-- a side stands for at most one tree for each of its patterns
few_trees : (s : Substitution) (side : Patterns) → NoForestAtTop side → length (inst s side) ≤ count side
few_trees s no_pattern top = omega arith
few_trees s (node_first h kids behind) top = omega (arith, few_trees s behind top)
few_trees s (tree_var_first v behind) top =
    omega (arith, tree_in_few (value_of s v), few_trees s behind top, length-append (tree_in (value_of s v)) (inst s behind))
few_trees s (forest_var_first v behind) top = absurd top

pub built_few : (R : List Rule) → ((rule : Rule) → rule ∈ R → IsAccepted rule) → (f : Firing) → length (built R f) ≤ 16
built_few R accepted f = by (slice_get R f.rule) refl
  where
    by : (o : Option Rule) → slice_get R f.rule ≡ o → length (unwrap_or (option_map (λ (rule : Rule). inst f.values rule.right) o) []) ≤ 16
    by None e = omega arith
    by (Some rule) e =
        let side = (accepted rule (in_at R f.rule rule e)).right in
        omega (arith, few_trees f.values rule.right side.no_forest_at_top, side.at_most)
