-- A renaming of labels is undone by its inverse, for each kind of thing that has labels.
use Rattle.std.proofs.Common.{◌≡◌, ℕ, List, [], ◌∷◌, map, Option, Some, None, refl}
use Rattle.std.specs.Option.{option_map}
use Rattle.qs_tree.specs.declared.cell.Label.{Label}
use Rattle.qs_tree.specs.Trees.{Forest, no_tree, first_tree, Tree}
use Rattle.qs_pattern.specs.declared.variable.Var.{Var}
use Rattle.qs_pattern.specs.declared.pattern.Head.{Head}
use Rattle.qs_pattern.specs.declared.pattern.Head.TheVariants as head
use Rattle.qs_pattern.specs.declared.subst.Value.{Value}
use Rattle.qs_pattern.specs.declared.subst.Value.TheVariants as value
use Rattle.qs_pattern.specs.Patterns.{Patterns, no_pattern, node_first, tree_var_first, forest_var_first}
use Rattle.qs_pattern.specs.Substitutions.{Substitution}
use Rattle.qs_pattern.specs.Conditions.{Condition, Conditions, compared, negated, combined, no_condition, condition_first}
use Rattle.qs_pattern.specs.Rules.{Rule}
use Rattle.qs_graph.specs.Graphs.{Arc, QGraph}
use Rattle.qs_firing.specs.Firings.{Firing}
use Rattle.qs_canon.specs.Rounds.{Done, Stage}
use Rattle.qs_clean.specs.Renaming.{renamed_label, renamed_forest, renamed_tree, renamed_head, renamed_patterns, renamed_condition, renamed_conditions, renamed_rule, renamed_arc, renamed_graph}
use Rattle.qs_clean.specs.working.Renaming.{renamed_value, renamed_pair, renamed_substitution, renamed_firing, renamed_done, renamed_stage}

pub map_undone : {X : Type 0} (there back : X → X) → ((x : X) → back (there x) ≡ x) → (xs : List X) → map back (map there xs) ≡ xs
map_undone there back undone [] = refl
map_undone there back undone (x ∷ xs) = λ i. undone x i ∷ map_undone there back undone xs i

module _ (f g : ℕ → ℕ) (undone : (n : ℕ) → g (f n) ≡ n) where
  label_undone : (l : Label) → renamed_label g (renamed_label f l) ≡ l
  label_undone l = λ i. record { 0 = undone l.0 i }

  forest_undone : (t : Forest) → renamed_forest g (renamed_forest f t) ≡ t
  forest_undone no_tree = refl
  forest_undone (first_tree l k r) = λ i. first_tree (label_undone l i) (forest_undone k i) (forest_undone r i)

  pub tree_undone : (t : Tree) → renamed_tree g (renamed_tree f t) ≡ t
  tree_undone t = λ i. record { root = label_undone t.root i; subtrees = forest_undone t.subtrees i }

  head_undone : (h : Head) → renamed_head g (renamed_head f h) ≡ h
  head_undone (head.Label l) = λ i. head.Label (label_undone l i)
  head_undone (head.Var v) = refl

  patterns_undone : (p : Patterns) → renamed_patterns g (renamed_patterns f p) ≡ p
  patterns_undone no_pattern = refl
  patterns_undone (node_first h kids behind) = λ i. node_first (head_undone h i) (patterns_undone kids i) (patterns_undone behind i)
  patterns_undone (tree_var_first v behind) = λ i. tree_var_first v (patterns_undone behind i)
  patterns_undone (forest_var_first v behind) = λ i. forest_var_first v (patterns_undone behind i)

  mutual
    condition_undone : (c : Condition) → renamed_condition g (renamed_condition f c) ≡ c
    condition_undone (compared word a b) = λ i. compared word (patterns_undone a i) (patterns_undone b i)
    condition_undone (negated c) = λ i. negated (condition_undone c i)
    condition_undone (combined word cs) = λ i. combined word (conditions_undone cs i)

    conditions_undone : (cs : Conditions) → renamed_conditions g (renamed_conditions f cs) ≡ cs
    conditions_undone no_condition = refl
    conditions_undone (condition_first c cs) = λ i. condition_first (condition_undone c i) (conditions_undone cs i)

  given_undone : (o : Option Condition) → option_map (renamed_condition g) (option_map (renamed_condition f) o) ≡ o
  given_undone None = refl
  given_undone (Some c) = λ i. Some (condition_undone c i)

  pub rule_undone : (rule : Rule) → renamed_rule g (renamed_rule f rule) ≡ rule
  rule_undone rule = λ i. record {
    left = patterns_undone rule.left i;
    right = patterns_undone rule.right i;
    condition = given_undone rule.condition i;
    unique = rule.unique;
  }

  pub rules_undone : (R : List Rule) → map (renamed_rule g) (map (renamed_rule f) R) ≡ R
  rules_undone R = map_undone (renamed_rule f) (renamed_rule g) rule_undone R

  arc_undone : (arc : Arc) → renamed_arc g (renamed_arc f arc) ≡ arc
  arc_undone arc = λ i. record { from = arc.from; to = arc.to; tree = tree_undone arc.tree i }

  pub arcs_undone : (arcs : List Arc) → map (renamed_arc g) (map (renamed_arc f) arcs) ≡ arcs
  arcs_undone arcs = map_undone (renamed_arc f) (renamed_arc g) arc_undone arcs

  pub graph_undone : (G : QGraph) → renamed_graph g (renamed_graph f G) ≡ G
  graph_undone G = λ i. record { nodes = G.nodes; arcs = arcs_undone G.arcs i }

  value_undone : (x : Value) → renamed_value g (renamed_value f x) ≡ x
  value_undone (value.Label l) = λ i. value.Label (label_undone l i)
  value_undone (value.Tree t) = λ i. value.Tree (tree_undone t i)
  value_undone (value.Forest ts) = λ i. value.Forest (map_undone (renamed_tree f) (renamed_tree g) tree_undone ts i)

  pair_undone : (p : Var × Value) → renamed_pair g (renamed_pair f p) ≡ p
  pair_undone p = λ i. (p.0, value_undone p.1 i)

  substitution_undone : (s : Substitution) → renamed_substitution g (renamed_substitution f s) ≡ s
  substitution_undone s = map_undone (renamed_pair f) (renamed_pair g) pair_undone s

  pub firing_undone : (x : Firing) → renamed_firing g (renamed_firing f x) ≡ x
  firing_undone x = λ i. record { rule = x.rule; path = x.path; values = substitution_undone x.values i }

  done_undone : (d : Done) → renamed_done g (renamed_done f d) ≡ d
  done_undone d = λ i. record { firing = firing_undone d.firing i; first = d.first; round = d.round; met = d.met }

  pub stage_undone : (S : Stage) → renamed_stage g (renamed_stage f S) ≡ S
  stage_undone S = λ i. record { graph = graph_undone S.graph i; done = map_undone (renamed_done f) (renamed_done g) done_undone S.done i }
