-- Whether a substitution is a match, and whether a condition holds, is decided.
use Rattle.std.proofs.Common.{◌≡◌, List, ap, sym, refl, Option, Some, None}
use Rattle.qs_tree.specs.Lists.{◌∈◌}
use Rattle.qs_tree.specs.declared.cell.Label.{Label}
use Rattle.qs_tree.specs.Trees.{Tree}
use Rattle.qs_pattern.specs.declared.variable.Var.{Var}
use Rattle.qs_pattern.specs.declared.subst.Value.{Value}
use Rattle.qs_pattern.specs.declared.subst.Value.TheVariants as value
use Rattle.qs_pattern.specs.contracts.variable.Var as var
use Rattle.qs_pattern.specs.Patterns.{Patterns}
use Rattle.qs_pattern.specs.Substitutions.{Substitution, variables_of, IsOfClass}
use Rattle.qs_pattern.specs.Instances.{inst, variables, IsMatch}
use Rattle.qs_pattern.specs.Conditions.{Comparing, within, outside, same, Compares, all, any, Condition, Conditions, compared, negated, combined, no_condition, condition_first, Holds, AllHold, SomeHolds, HoldsIfGiven}
use Rattle.qs_tree.proofs.Decisions.{decide_number, decide_at_most, decide_not, decide_both, decide_either, decide_list, decide_member, decide_each, decide_label, decide_tree}

abbrev pub decide_var : (v w : Var) → Dec (v ≡ w)
decide_var v w = both (decide_number v.letter w.letter) (decide_number v.number w.number)
  where
    both : Dec (v.letter ≡ w.letter) → Dec (v.number ≡ w.number) → Dec (v ≡ w)
    both (yes p) (yes q) = yes (var.the_row.coded.inj v w (rw (p, q) refl))
    both (no n) q = no (λ e. n (ap (λ (x : Var). x.letter) e))
    both p (no n) = no (λ e. n (ap (λ (x : Var). x.number) e))

abbrev pub decide_trees : (ts us : List Tree) → Dec (ts ≡ us)
decide_trees = decide_list decide_tree

pub same_label : {l m : Label} → value.Label l ≡ value.Label m → l ≡ m
same_label e = cc

pub same_tree : {t u : Tree} → value.Tree t ≡ value.Tree u → t ≡ u
same_tree e = cc

pub same_forest : {ts us : List Tree} → value.Forest ts ≡ value.Forest us → ts ≡ us
same_forest e = cc

pub label_tree : {l : Label} {t : Tree} → value.Label l ≡ value.Tree t → ⊥
label_tree e = absurd cc

pub label_forest : {l : Label} {ts : List Tree} → value.Label l ≡ value.Forest ts → ⊥
label_forest e = absurd cc

pub tree_forest : {t : Tree} {ts : List Tree} → value.Tree t ≡ value.Forest ts → ⊥
tree_forest e = absurd cc

abbrev pub decide_value : (x y : Value) → Dec (x ≡ y)
decide_value (value.Label l) (value.Label m) = by (decide_label l m)
  where
    by : Dec (l ≡ m) → Dec (value.Label l ≡ value.Label m)
    by (yes e) = yes (ap (λ (k : Label). value.Label k) e)
    by (no n) = no (λ e. n (same_label e))
decide_value (value.Tree t) (value.Tree u) = by (decide_tree t u)
  where
    by : Dec (t ≡ u) → Dec (value.Tree t ≡ value.Tree u)
    by (yes e) = yes (ap (λ (r : Tree). value.Tree r) e)
    by (no n) = no (λ e. n (same_tree e))
decide_value (value.Forest ts) (value.Forest us) = by (decide_trees ts us)
  where
    by : Dec (ts ≡ us) → Dec (value.Forest ts ≡ value.Forest us)
    by (yes e) = yes (ap (λ (rs : List Tree). value.Forest rs) e)
    by (no n) = no (λ e. n (same_forest e))
decide_value (value.Label l) (value.Tree u) = no (λ e. label_tree e)
decide_value (value.Label l) (value.Forest us) = no (λ e. label_forest e)
decide_value (value.Tree t) (value.Label m) = no (λ e. label_tree (sym e))
decide_value (value.Tree t) (value.Forest us) = no (λ e. tree_forest e)
decide_value (value.Forest ts) (value.Label m) = no (λ e. label_forest (sym e))
decide_value (value.Forest ts) (value.Tree u) = no (λ e. tree_forest (sym e))

abbrev decide_pair : (p q : Var × Value) → Dec (p ≡ q)
decide_pair p q = both (decide_var p.0 q.0) (decide_value p.1 q.1)
  where
    both : Dec (p.0 ≡ q.0) → Dec (p.1 ≡ q.1) → Dec (p ≡ q)
    both (yes a) (yes b) = yes (λ i. (a i, b i))
    both (no n) b = no (λ e. n (ap (λ (x : Var × Value). x.0) e))
    both a (no n) = no (λ e. n (ap (λ (x : Var × Value). x.1) e))

abbrev pub decide_substitution : (s r : Substitution) → Dec (s ≡ r)
decide_substitution = decide_list decide_pair

abbrev decide_class : (p : Var × Value) → Dec (IsOfClass p)
decide_class (v, value.Label l) = decide_both (decide_at_most 65 v.letter) (decide_at_most v.letter 70)
decide_class (v, value.Tree t) = decide_both (decide_at_most 73 v.letter) (decide_at_most v.letter 78)
decide_class (v, value.Forest ts) = decide_both (decide_at_most 85 v.letter) (decide_at_most v.letter 90)

abbrev pub decide_match : (side : Patterns) (ts : List Tree) (s : Substitution) → Dec (IsMatch side ts s)
decide_match side ts s = all_of (decide_list decide_var (variables_of s) (variables side)) (decide_each IsOfClass decide_class s) (decide_trees (inst s side) ts)
  where
    all_of : Dec (variables_of s ≡ variables side) → Dec ((p : Var × Value) → p ∈ s → IsOfClass p) → Dec (inst s side ≡ ts) → Dec (IsMatch side ts s)
    all_of (yes v) (yes c) (yes i) = yes (record { variables = v; classes = c; instance = i })
    all_of (no n) c i = no (λ m. n m.variables)
    all_of v (no n) i = no (λ m. n m.classes)
    all_of v c (no n) = no (λ m. n m.instance)

abbrev decide_compares : (w : Comparing) (ts us : List Tree) → Dec (Compares w ts us)
decide_compares within ts us = decide_each (λ t. t ∈ us) (λ t. decide_member decide_tree t us) ts
decide_compares outside ts us = decide_each (λ t. t ∈ us → ⊥) (λ t. decide_not (decide_member decide_tree t us)) ts
decide_compares same ts us = decide_trees ts us

abbrev mutual
  decide_holds : (c : Condition) (s : Substitution) → Dec (Holds c s)
  decide_holds (compared w a b) s = decide_compares w (inst s a) (inst s b)
  decide_holds (negated c) s = decide_not (decide_holds c s)
  decide_holds (combined all cs) s = decide_all cs s
  decide_holds (combined any cs) s = decide_some cs s

  decide_all : (cs : Conditions) (s : Substitution) → Dec (AllHold cs s)
  decide_all no_condition s = yes tt
  decide_all (condition_first c cs) s = decide_both (decide_holds c s) (decide_all cs s)

  decide_some : (cs : Conditions) (s : Substitution) → Dec (SomeHolds cs s)
  decide_some no_condition s = no (λ h. h)
  decide_some (condition_first c cs) s = decide_either (decide_holds c s) (decide_some cs s)

abbrev pub decide_if_given : (c : Option Condition) (s : Substitution) → Dec (HoldsIfGiven c s)
decide_if_given None s = yes tt
decide_if_given (Some c) s = decide_holds c s
