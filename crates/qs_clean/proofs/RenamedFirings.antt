-- What fires, in which order, and what it adds, under other numbers for the labels.
use Rattle.std.proofs.Common.{◌≡◌, ℕ, ◌+◌, ◌-◌, List, [], ◌∷◌, ◌++◌, length, map, slice_get, unwrap_or, Option, Some, None, refl, sym, ◌∙◌, ap, subst}
use Rattle.std.specs.Prelude.{if◌then◌else◌}
use Rattle.std.specs.Option.{option_map}
use Rattle.std.specs.List.{cons_option}
use Rattle.std.specs.Ordering.{nat_cmp}
use Rattle.std.specs.Cmp.Lexicographic.{slice_cmp}
use Rattle.std.proofs.lemmas.List.{map-append, length-map}
use Rattle.std.proofs.lemmas.Option.{slice_get-map}
use Rattle.qs_tree.specs.Lists.{◌∈◌}
use Rattle.qs_tree.specs.Trees.{Tree}
use Rattle.qs_tree.proofs.Members.{in_append_left, in_append_right, in_at, mapped}
use Rattle.qs_pattern.specs.declared.variable.Var.{Var}
use Rattle.qs_pattern.specs.declared.pattern.Head.{Head}
use Rattle.qs_pattern.specs.declared.pattern.Head.TheVariants as head
use Rattle.qs_pattern.specs.declared.subst.Value.{Value}
use Rattle.qs_pattern.specs.declared.subst.Value.TheVariants as value
use Rattle.qs_pattern.specs.Variables.{firsts}
use Rattle.qs_pattern.specs.Patterns.{Patterns, no_pattern, node_first, tree_var_first, forest_var_first, count, head_variables, variables_in, IsHeadInClass, AreInClass}
use Rattle.qs_pattern.specs.Substitutions.{Substitution, variables_of, IsOfClass, forest_length, forest_lengths}
use Rattle.qs_pattern.specs.Instances.{inst, IsCovered, IsMatch}
use Rattle.qs_pattern.specs.Conditions.{Condition, Conditions, compared, negated, combined, no_condition, condition_first, HoldsIfGiven, condition_variables, IsConditionInClass, IsConditionCovered}
use Rattle.qs_pattern.specs.working.Conditions.{EachListOfAll}
use Rattle.qs_pattern.specs.Rules.{Rule, all_unique, unmarked, IsAccepted, variables_if_given, IsInClassIfGiven, variables_behind}
use Rattle.qs_pattern.proofs.MatchLemmas.{matched_value}
use Rattle.qs_pattern.proofs.Covering.{all_covered, condition_covered, conditions_variables}
use Rattle.qs_graph.specs.Graphs.{Arc, QGraph, Leads, IsPath, arcs_at, trees_on}
use Rattle.qs_graph.specs.Chains.{chain, with_chain}
use Rattle.qs_firing.specs.Firings.{Firing, Fires, key, order}
use Rattle.qs_firing.specs.Adding.{start_of, end_of, built, standing, met, unless_met, added, adds}
use Rattle.qs_clean.specs.Renaming.{IsRenaming, renamed_tree, renamed_head, renamed_patterns, renamed_condition, renamed_conditions, renamed_rule, renamed_arc, renamed_graph}
use Rattle.qs_clean.specs.working.Renaming.{renamed_value, renamed_pair, renamed_substitution, renamed_firing}
use Rattle.qs_clean.proofs.RenamedInstances.{inst_renamed, holds_renamed}
use Rattle.qs_clean.proofs.RenamedMerging.{unique_renamed, standing_renamed, unless_met_renamed}

-- two ways to take a list through two functions
pub map_past : {X Y Z W : Type 0} (k : X → Y) (h : Y → W) (l : X → Z) (m : Z → W) → ((x : X) → h (k x) ≡ m (l x)) → (xs : List X) → map h (map k xs) ≡ map m (map l xs)
map_past k h l m same [] = refl
map_past k h l m same (x ∷ xs) = λ i. same x i ∷ map_past k h l m same xs i

-- What is asked of a rule here, which accepted rules have: its variables stand at places of their classes, and those behind
-- its left side stand in its left side too, so that each has a value.
pub record IsBound (rule : Rule) : Type 0 where
  pub left : AreInClass rule.left
  pub right : AreInClass rule.right
  pub condition : IsInClassIfGiven rule.condition
  pub bound : (v : Var) → v ∈ variables_behind (unmarked rule) → v ∈ variables_in rule.left

pub accepted_bound : (rule : Rule) → IsAccepted rule → IsBound rule
accepted_bound rule ok = record { left = ok.left.in_class; right = ok.right.in_class; condition = ok.condition; bound = ok.bound }

-- the left side's match gives each variable of a rule a value
module _ (rule : Rule) (b : IsBound rule) (ts : List Tree) (s : Substitution) (m : IsMatch rule.left ts s) where
  left_covered : IsCovered s rule.left
  left_covered = all_covered s rule.left b.left (matched_value rule.left ts s m)

  right_covered : IsCovered s rule.right
  right_covered =
      all_covered s rule.right b.right
      (λ v i. matched_value rule.left ts s m v (b.bound v (in_append_left (variables_in rule.right) (variables_if_given rule.condition) v i)))

  given_covered : (c : Condition) → rule.condition ≡ Some c → IsConditionCovered s c
  given_covered c e =
      condition_covered s c (subst IsInClassIfGiven e b.condition)
      (λ v i. matched_value rule.left ts s m v
      (b.bound v (in_append_right (variables_in rule.right) (variables_if_given rule.condition) v (subst (λ o. v ∈ variables_if_given o) (sym e) i))))

module _ (f : ℕ → ℕ) where
  -- variables stay
  head_variables_renamed : (h : Head) → head_variables (renamed_head f h) ≡ head_variables h
  head_variables_renamed (head.Label l) = refl
  head_variables_renamed (head.Var v) = refl

  variables_renamed : (p : Patterns) → variables_in (renamed_patterns f p) ≡ variables_in p
  variables_renamed no_pattern = refl
  variables_renamed (node_first h kids behind) = λ i. head_variables_renamed h i ++ (variables_renamed kids i ++ variables_renamed behind i)
  variables_renamed (tree_var_first v behind) = λ i. v ∷ variables_renamed behind i
  variables_renamed (forest_var_first v behind) = λ i. v ∷ variables_renamed behind i

  mutual
    condition_variables_renamed : (c : Condition) → condition_variables (renamed_condition f c) ≡ condition_variables c
    condition_variables_renamed (compared word a b) = λ i. variables_renamed a i ++ variables_renamed b i
    condition_variables_renamed (negated c) = condition_variables_renamed c
    condition_variables_renamed (combined word cs) = conditions_variables_renamed cs

    conditions_variables_renamed : (cs : Conditions) → conditions_variables (renamed_conditions f cs) ≡ conditions_variables cs
    conditions_variables_renamed no_condition = refl
    conditions_variables_renamed (condition_first c cs) = λ i. condition_variables_renamed c i ++ conditions_variables_renamed cs i

  given_variables_renamed : (o : Option Condition) → variables_if_given (option_map (renamed_condition f) o) ≡ variables_if_given o
  given_variables_renamed None = refl
  given_variables_renamed (Some c) = condition_variables_renamed c

  behind_renamed : (rule : Rule) → variables_behind (unmarked (renamed_rule f rule)) ≡ variables_behind (unmarked rule)
  behind_renamed rule = λ i. variables_renamed rule.right i ++ given_variables_renamed rule.condition i

  -- so do their places
  head_in_class : (h : Head) → IsHeadInClass h → IsHeadInClass (renamed_head f h)
  head_in_class (head.Label l) c = tt
  head_in_class (head.Var v) c = c

  in_class : (p : Patterns) → AreInClass p → AreInClass (renamed_patterns f p)
  in_class no_pattern c = tt
  in_class (node_first h kids behind) c = (head_in_class h c.0, in_class kids c.1, in_class behind c.2)
  in_class (tree_var_first v behind) c = (c.0, in_class behind c.1)
  in_class (forest_var_first v behind) c = (c.0, in_class behind c.1)

  mutual
    condition_in_class : (c : Condition) → IsConditionInClass c → IsConditionInClass (renamed_condition f c)
    condition_in_class (compared word a b) k = (in_class a k.0, in_class b k.1)
    condition_in_class (negated c) k = condition_in_class c k
    condition_in_class (combined word cs) k = conditions_in_class cs k

    conditions_in_class : (cs : Conditions) → EachListOfAll AreInClass cs → EachListOfAll AreInClass (renamed_conditions f cs)
    conditions_in_class no_condition k = tt
    conditions_in_class (condition_first c cs) k = (condition_in_class c k.0, conditions_in_class cs k.1)

  given_in_class : (o : Option Condition) → IsInClassIfGiven o → IsInClassIfGiven (option_map (renamed_condition f) o)
  given_in_class None k = tt
  given_in_class (Some c) k = condition_in_class c k

  pub bound_renamed : (rule : Rule) → IsBound rule → IsBound (renamed_rule f rule)
  bound_renamed rule b = record {
    left = in_class rule.left b.left;
    right = in_class rule.right b.right;
    condition = given_in_class rule.condition b.condition;
    bound = λ v i. subst (λ vs. v ∈ vs) (sym (variables_renamed rule.left)) (b.bound v (subst (λ vs. v ∈ vs) (behind_renamed rule) i));
  }

  count_renamed : (p : Patterns) → count (renamed_patterns f p) ≡ count p
  count_renamed no_pattern = refl
  count_renamed (node_first h kids behind) = ap (λ n. n + 1) (count_renamed behind)
  count_renamed (tree_var_first v behind) = ap (λ n. n + 1) (count_renamed behind)
  count_renamed (forest_var_first v behind) = ap (λ n. n + 1) (count_renamed behind)

  -- a match stays one
  variables_of_renamed : (s : Substitution) → variables_of (renamed_substitution f s) ≡ variables_of s
  variables_of_renamed [] = refl
  variables_of_renamed (p ∷ s) = λ i. p.0 ∷ variables_of_renamed s i

  class_renamed : (v : Var) (x : Value) → IsOfClass (v, x) → IsOfClass (v, renamed_value f x)
  class_renamed v (value.Label l) c = c
  class_renamed v (value.Tree t) c = c
  class_renamed v (value.Forest ts) c = c

  match_renamed : (side : Patterns) (ts : List Tree) (s : Substitution) → IsCovered s side → IsMatch side ts s → IsMatch (renamed_patterns f side) (map (renamed_tree f) ts) (renamed_substitution f s)
  match_renamed side ts s c m = record {
    variables = variables_of_renamed s ∙ m.variables ∙ ap firsts (sym (variables_renamed side));
    classes = λ p i. let (q, j, e) = mapped (renamed_pair f) s p i in subst IsOfClass (sym e) (class_renamed q.0 q.1 (m.classes q j));
    instance = inst_renamed f s side c ∙ ap (map (renamed_tree f)) m.instance;
  }

  -- a path stays one, and has the same trees under the other numbers
  arc_at_renamed : (arcs : List Arc) (k : ℕ) (arc : Arc) → slice_get arcs k ≡ Some arc → slice_get (map (renamed_arc f) arcs) k ≡ Some (renamed_arc f arc)
  arc_at_renamed arcs k arc is = slice_get-map (renamed_arc f) arcs k ∙ ap (option_map (renamed_arc f)) is

  leads_renamed : (arcs : List Arc) (a : ℕ) (ks : List ℕ) (b : ℕ) → Leads arcs a ks b → Leads (map (renamed_arc f) arcs) a ks b
  leads_renamed arcs a [] b e = e
  leads_renamed arcs a (k ∷ ks) b (arc, is, from, rest) = (renamed_arc f arc, arc_at_renamed arcs k arc is, from, leads_renamed arcs arc.to ks b rest)

  pub path_renamed : (arcs : List Arc) (a : ℕ) (ks : List ℕ) (b : ℕ) → IsPath arcs a ks b → IsPath (map (renamed_arc f) arcs) a ks b
  path_renamed arcs a ks b p = record { some = p.some; leads = leads_renamed arcs a ks b p.leads }

  pub arcs_at_renamed : (arcs : List Arc) (ks : List ℕ) → arcs_at (map (renamed_arc f) arcs) ks ≡ map (renamed_arc f) (arcs_at arcs ks)
  arcs_at_renamed arcs [] = refl
  arcs_at_renamed arcs (k ∷ ks) =
      ap (λ o. cons_option o (arcs_at (map (renamed_arc f) arcs) ks)) (slice_get-map (renamed_arc f) arcs k) ∙ by (slice_get arcs k) (arcs_at_renamed arcs ks)
    where
      by : (o : Option Arc) → arcs_at (map (renamed_arc f) arcs) ks ≡ map (renamed_arc f) (arcs_at arcs ks)
          → cons_option (option_map (renamed_arc f) o) (arcs_at (map (renamed_arc f) arcs) ks) ≡ map (renamed_arc f) (cons_option o (arcs_at arcs ks))
      by None e = e
      by (Some arc) e = ap (λ (more : List Arc). renamed_arc f arc ∷ more) e

  trees_on_renamed : (arcs : List Arc) (ks : List ℕ) → trees_on (map (renamed_arc f) arcs) ks ≡ map (renamed_tree f) (trees_on arcs ks)
  trees_on_renamed arcs ks =
      ap (map (λ (arc : Arc). arc.tree)) (arcs_at_renamed arcs ks)
      ∙ map_past (renamed_arc f) (λ (arc : Arc). arc.tree) (λ (arc : Arc). arc.tree) (renamed_tree f) (λ arc. refl) (arcs_at arcs ks)

  -- keys stay, and with them the order
  length_renamed : (v : Var) (x : Value) → forest_length (v, renamed_value f x) ≡ forest_length (v, x)
  length_renamed v (value.Label l) = refl
  length_renamed v (value.Tree t) = refl
  length_renamed v (value.Forest ts) = ap Some (length-map ts (renamed_tree f))

  lengths_renamed : (s : Substitution) → forest_lengths (renamed_substitution f s) ≡ forest_lengths s
  lengths_renamed [] = refl
  lengths_renamed (p ∷ s) = λ i. cons_option (length_renamed p.0 p.1 i) (lengths_renamed s i)

  key_renamed : (x : Firing) → key (renamed_firing f x) ≡ key x
  key_renamed x = λ i. (x.rule ∷ []) ∷ x.path ∷ lengths_renamed x.values i ∷ []

  pub order_renamed : (x y : Firing) → order (renamed_firing f x) (renamed_firing f y) ≡ order x y
  order_renamed x y = λ i. slice_cmp (slice_cmp nat_cmp) (key_renamed x i) (key_renamed y i)

  -- the same is added under the other numbers
  start_renamed : (arcs : List Arc) (ks : List ℕ) → start_of (map (renamed_arc f) arcs) ks ≡ start_of arcs ks
  start_renamed arcs [] = refl
  start_renamed arcs (k ∷ ks) = ap (λ o. unwrap_or (option_map (λ (arc : Arc). arc.from) o) 0) (slice_get-map (renamed_arc f) arcs k) ∙ by (slice_get arcs k)
    where
      by : (o : Option Arc) → unwrap_or (option_map (λ (arc : Arc). arc.from) (option_map (renamed_arc f) o)) 0 ≡ unwrap_or (option_map (λ (arc : Arc). arc.from) o) 0
      by None = refl
      by (Some arc) = refl

  end_renamed : (arcs : List Arc) (ks : List ℕ) → end_of (map (renamed_arc f) arcs) ks ≡ end_of arcs ks
  end_renamed arcs [] = refl
  end_renamed arcs (k ∷ []) = ap (λ o. unwrap_or (option_map (λ (arc : Arc). arc.to) o) 0) (slice_get-map (renamed_arc f) arcs k) ∙ by (slice_get arcs k)
    where
      by : (o : Option Arc) → unwrap_or (option_map (λ (arc : Arc). arc.to) (option_map (renamed_arc f) o)) 0 ≡ unwrap_or (option_map (λ (arc : Arc). arc.to) o) 0
      by None = refl
      by (Some arc) = refl
  end_renamed arcs (k ∷ l ∷ ks) = end_renamed arcs (l ∷ ks)

  chain_renamed : (a : ℕ) (ts : List Tree) (next b : ℕ) → chain a (map (renamed_tree f) ts) next b ≡ map (renamed_arc f) (chain a ts next b)
  chain_renamed a [] next b = refl
  chain_renamed a (t ∷ []) next b = refl
  chain_renamed a (t ∷ u ∷ ts) next b = λ i. record { from = a; to = next; tree = renamed_tree f t } ∷ chain_renamed next (u ∷ ts) (next + 1) b i

  with_chain_renamed : (G : QGraph) (a : ℕ) (ts : List Tree) (b : ℕ) → with_chain (renamed_graph f G) a (map (renamed_tree f) ts) b ≡ renamed_graph f (with_chain G a ts b)
  with_chain_renamed G a ts b =
      let nodes : G.nodes + (length (map (renamed_tree f) ts) - 1) ≡ G.nodes + (length ts - 1) = ap (λ n. G.nodes + (n - 1)) (length-map ts (renamed_tree f)) in
      let arcs : map (renamed_arc f) G.arcs ++ chain a (map (renamed_tree f) ts) (G.nodes + 1) b ≡ map (renamed_arc f) (G.arcs ++ chain a ts (G.nodes + 1) b) =
      ap (λ (more : List Arc). map (renamed_arc f) G.arcs ++ more) (chain_renamed a ts (G.nodes + 1) b) ∙ sym (map-append (renamed_arc f) G.arcs (chain a ts (G.nodes + 1) b)) in
      λ i. record { nodes = nodes i; arcs = arcs i }

  -- where other labels have other numbers too, the same arc is met
  module _ (g : ℕ → ℕ) (undone : (n : ℕ) → g (f n) ≡ n) (R : List Rule) (G : QGraph) (x : Firing) (builds : built (map (renamed_rule f) R) (renamed_firing f x) ≡ map (renamed_tree f) (built R x)) where
    pub met_renamed : met (map (renamed_rule f) R) (renamed_graph f G) (renamed_firing f x) ≡ met R G x
    met_renamed =
        (λ i. if unique_renamed f R i then standing (map (renamed_arc f) G.arcs) (start_renamed G.arcs x.path i) (builds i) (end_renamed G.arcs x.path i) else None)
        ∙ ap (λ l. if all_unique R then l else None) (standing_renamed f g undone G.arcs (start_of G.arcs x.path) (built R x) (end_of G.arcs x.path))

    added_renamed : added (map (renamed_rule f) R) (renamed_graph f G) (renamed_firing f x) ≡ map (renamed_tree f) (added R G x)
    added_renamed = (λ i. unless_met (met_renamed i) (builds i)) ∙ unless_met_renamed f (met R G x) (built R x)

    pub adds_renamed : adds (map (renamed_rule f) R) (renamed_graph f G) (renamed_firing f x) ≡ renamed_graph f (adds R G x)
    adds_renamed =
        (λ i. with_chain (renamed_graph f G) (start_renamed G.arcs x.path i) (added_renamed i) (end_renamed G.arcs x.path i))
        ∙ with_chain_renamed G (start_of G.arcs x.path) (added R G x) (end_of G.arcs x.path)

-- what fires builds the same and fires, under the other numbers
module _ (f : ℕ → ℕ) (R : List Rule) (bound : (rule : Rule) → rule ∈ R → IsBound rule) (arcs : List Arc) (x : Firing) (fires : Fires R arcs x) where
  abbrev is_bound : IsBound fires.rule
  is_bound = bound fires.rule (in_at R x.rule fires.rule fires.is_rule)

  is_rule : slice_get (map (renamed_rule f) R) x.rule ≡ Some (renamed_rule f fires.rule)
  is_rule = slice_get-map (renamed_rule f) R x.rule ∙ ap (option_map (renamed_rule f)) fires.is_rule

  pub built_renamed : built (map (renamed_rule f) R) (renamed_firing f x) ≡ map (renamed_tree f) (built R x)
  built_renamed =
      let other : built (map (renamed_rule f) R) (renamed_firing f x) ≡ inst (renamed_substitution f x.values) (renamed_patterns f fires.rule.right) =
      ap (λ o. unwrap_or (option_map (λ (rule : Rule). inst (renamed_substitution f x.values) rule.right) o) []) is_rule in
      let this : built R x ≡ inst x.values fires.rule.right = ap (λ o. unwrap_or (option_map (λ (rule : Rule). inst x.values rule.right) o) []) fires.is_rule in
      other
      ∙ inst_renamed f x.values fires.rule.right (right_covered fires.rule is_bound (trees_on arcs x.path) x.values fires.matches)
      ∙ ap (map (renamed_tree f)) (sym this)

  module _ (g : ℕ → ℕ) (is : IsRenaming f g) where
    given_renamed : (o : Option Condition) → ((c : Condition) → o ≡ Some c → IsConditionCovered x.values c) → HoldsIfGiven o x.values
        → HoldsIfGiven (option_map (renamed_condition f) o) (renamed_substitution f x.values)
    given_renamed None covered h = tt
    given_renamed (Some c) covered h = (holds_renamed f g is x.values c (covered c refl)).0 h

    pub fires_renamed : Fires (map (renamed_rule f) R) (map (renamed_arc f) arcs) (renamed_firing f x)
    fires_renamed =
        let left = left_covered fires.rule is_bound (trees_on arcs x.path) x.values fires.matches in
        record {
          rule = renamed_rule f fires.rule;
          is_rule = is_rule;
          from = fires.from;
          to = fires.to;
          path = path_renamed f arcs fires.from x.path fires.to fires.path;
          long = fires.long ∙ sym (count_renamed f fires.rule.left);
          matches = subst (λ ts. IsMatch (renamed_patterns f fires.rule.left) ts (renamed_substitution f x.values)) (sym (trees_on_renamed f arcs x.path))
              (match_renamed f fires.rule.left (trees_on arcs x.path) x.values left fires.matches);
          holds = given_renamed fires.rule.condition (given_covered fires.rule is_bound (trees_on arcs x.path) x.values fires.matches) fires.holds;
        }
