-- What patterns stand for, and which conditions hold, under other numbers for the labels.
use Rattle.std.proofs.Common.{◌≡◌, ◌↔◌, ℕ, Bool, true, false, List, [], ◌∷◌, ◌++◌, map, Option, Some, None, refl, sym, ◌∙◌, ap, subst, inl, inr, ⊎_elim}
use Rattle.std.specs.Prelude.{if◌then◌else◌}
use Rattle.std.specs.Option.{option_map}
use Rattle.std.proofs.lemmas.List.{map-append}
use Rattle.qs_tree.specs.Lists.{◌∈◌}
use Rattle.qs_tree.specs.Trees.{Tree, first_tree, forest}
use Rattle.qs_pattern.specs.declared.variable.Var.{Var}
use Rattle.qs_pattern.specs.declared.pattern.Head.{Head}
use Rattle.qs_pattern.specs.declared.pattern.Head.TheVariants as head
use Rattle.qs_pattern.specs.declared.subst.Value.{Value}
use Rattle.qs_pattern.specs.declared.subst.Value.TheVariants as value
use Rattle.qs_pattern.specs.Variables.{same_var}
use Rattle.qs_pattern.specs.Patterns.{Patterns, no_pattern, node_first, tree_var_first, forest_var_first}
use Rattle.qs_pattern.specs.Substitutions.{Substitution, value_of}
use Rattle.qs_pattern.specs.Instances.{label_in, tree_in, trees_in, label_of, inst, IsLabel, IsHeadCovered, IsCovered}
use Rattle.qs_pattern.specs.Conditions.{Comparing, within, outside, same, Compares, all, any, Condition, Conditions, compared, negated, combined, no_condition, condition_first, Holds, AllHold, SomeHolds, IsConditionCovered}
use Rattle.qs_pattern.specs.working.Conditions.{AreConditionsCovered}
use Rattle.qs_clean.specs.Renaming.{IsRenaming, renamed_label, renamed_forest, renamed_tree, renamed_head, renamed_patterns, renamed_condition, renamed_conditions}
use Rattle.qs_clean.specs.working.Renaming.{renamed_value, renamed_substitution}
use Rattle.qs_tree.proofs.Members.{mapped, in_map}
use Rattle.qs_clean.proofs.RenamingUndone.{tree_undone}

module _ (f : ℕ → ℕ) where
  -- what a variable stands for
  value_renamed : (s : Substitution) (v : Var) → value_of (renamed_substitution f s) v ≡ option_map (renamed_value f) (value_of s v)
  value_renamed [] v = refl
  value_renamed (p ∷ s) v = by (same_var p.0 v) (value_renamed s v)
    where
      by : (b : Bool) → value_of (renamed_substitution f s) v ≡ option_map (renamed_value f) (value_of s v)
          → (if b then Some (renamed_value f p.1) else value_of (renamed_substitution f s) v) ≡ option_map (renamed_value f) (if b then Some p.1 else value_of s v)
      by true e = refl
      by false e = e

  label_in_renamed : (o : Option Value) → IsLabel o → label_in (option_map (renamed_value f) o) ≡ renamed_label f (label_in o)
  label_in_renamed None c = absurd c
  label_in_renamed (Some (value.Label l)) c = refl
  label_in_renamed (Some (value.Tree t)) c = absurd c
  label_in_renamed (Some (value.Forest ts)) c = absurd c

  tree_in_renamed : (o : Option Value) → tree_in (option_map (renamed_value f) o) ≡ map (renamed_tree f) (tree_in o)
  tree_in_renamed None = refl
  tree_in_renamed (Some (value.Label l)) = refl
  tree_in_renamed (Some (value.Tree t)) = refl
  tree_in_renamed (Some (value.Forest ts)) = refl

  trees_in_renamed : (o : Option Value) → trees_in (option_map (renamed_value f) o) ≡ map (renamed_tree f) (trees_in o)
  trees_in_renamed None = refl
  trees_in_renamed (Some (value.Label l)) = refl
  trees_in_renamed (Some (value.Tree t)) = refl
  trees_in_renamed (Some (value.Forest ts)) = refl

  forest_renamed : (ts : List Tree) → forest (map (renamed_tree f) ts) ≡ renamed_forest f (forest ts)
  forest_renamed [] = refl
  forest_renamed (t ∷ ts) = λ i. first_tree (renamed_label f t.root) (renamed_forest f t.subtrees) (forest_renamed ts i)

  module _ (s : Substitution) where
    abbrev other : Substitution
    other = renamed_substitution f s

    label_renamed : (h : Head) → IsHeadCovered s h → label_of other (renamed_head f h) ≡ renamed_label f (label_of s h)
    label_renamed (head.Label l) c = refl
    label_renamed (head.Var v) c = ap label_in (value_renamed s v) ∙ label_in_renamed (value_of s v) c

    -- patterns stand for the same trees under the other numbers
    pub inst_renamed : (p : Patterns) → IsCovered s p → inst other (renamed_patterns f p) ≡ map (renamed_tree f) (inst s p)
    inst_renamed no_pattern c = refl
    inst_renamed (node_first h kids behind) c =
        let root : label_of other (renamed_head f h) ≡ renamed_label f (label_of s h) = label_renamed h c.0 in
        let below : forest (inst other (renamed_patterns f kids)) ≡ renamed_forest f (forest (inst s kids)) = ap forest (inst_renamed kids c.1) ∙ forest_renamed (inst s kids) in
        let rest : inst other (renamed_patterns f behind) ≡ map (renamed_tree f) (inst s behind) = inst_renamed behind c.2 in
        λ i. record { root = root i; subtrees = below i } ∷ rest i
    inst_renamed (tree_var_first v behind) c =
        let here : tree_in (value_of other v) ≡ map (renamed_tree f) (tree_in (value_of s v)) = ap tree_in (value_renamed s v) ∙ tree_in_renamed (value_of s v) in
        let rest : inst other (renamed_patterns f behind) ≡ map (renamed_tree f) (inst s behind) = inst_renamed behind c.1 in
        (λ i. here i ++ rest i) ∙ sym (map-append (renamed_tree f) (tree_in (value_of s v)) (inst s behind))
    inst_renamed (forest_var_first v behind) c =
        let here : trees_in (value_of other v) ≡ map (renamed_tree f) (trees_in (value_of s v)) = ap trees_in (value_renamed s v) ∙ trees_in_renamed (value_of s v) in
        let rest : inst other (renamed_patterns f behind) ≡ map (renamed_tree f) (inst s behind) = inst_renamed behind c.1 in
        (λ i. here i ++ rest i) ∙ sym (map-append (renamed_tree f) (trees_in (value_of s v)) (inst s behind))

-- a function that is undone by another keeps members apart
module _ {X : Type 0} (there back : X → X) (undone : (x : X) → back (there x) ≡ x) where
  pub from_map_undone : (xs : List X) (x : X) → there x ∈ map there xs → x ∈ xs
  from_map_undone xs x i =
      let (y, j, e) = mapped there xs (there x) i in
      subst (λ z. z ∈ xs) (sym (ap back e ∙ undone y) ∙ undone x) j

  within_map : (xs ys : List X) → ((x : X) → x ∈ xs → x ∈ ys) ↔ ((y : X) → y ∈ map there xs → y ∈ map there ys)
  within_map xs ys = (
    (λ h y i. let (x, j, e) = mapped there xs y i in subst (λ z. z ∈ map there ys) (sym e) (in_map there ys x (h x j))),
    (λ h x i. from_map_undone ys x (h (there x) (in_map there xs x i))),
  )

  outside_map : (xs ys : List X) → ((x : X) → x ∈ xs → x ∈ ys → ⊥) ↔ ((y : X) → y ∈ map there xs → y ∈ map there ys → ⊥)
  outside_map xs ys = (
    (λ h y i k. let (x, j, e) = mapped there xs y i in h x j (from_map_undone ys x (subst (λ z. z ∈ map there ys) e k))),
    (λ h x i k. h (there x) (in_map there xs x i) (in_map there ys x k)),
  )

  same_map : (xs ys : List X) → (xs ≡ ys) ↔ (map there xs ≡ map there ys)
  same_map xs ys = ((λ e. ap (map there) e), (λ e. sym (undone_each xs) ∙ ap (map back) e ∙ undone_each ys))
    where
      undone_each : (zs : List X) → map back (map there zs) ≡ zs
      undone_each [] = refl
      undone_each (z ∷ zs) = λ i. undone z i ∷ undone_each zs i

module _ (f g : ℕ → ℕ) (is : IsRenaming f g) (s : Substitution) where
  abbrev renamed : Substitution
  renamed = renamed_substitution f s

  abbrev undone : (t : Tree) → renamed_tree g (renamed_tree f t) ≡ t
  undone t = tree_undone f g is.back t

  compared_map : (word : Comparing) (ts us : List Tree) → Compares word ts us ↔ Compares word (map (renamed_tree f) ts) (map (renamed_tree f) us)
  compared_map within ts us = within_map (renamed_tree f) (renamed_tree g) undone ts us
  compared_map outside ts us = outside_map (renamed_tree f) (renamed_tree g) undone ts us
  compared_map same ts us = same_map (renamed_tree f) (renamed_tree g) undone ts us

  compared_renamed : (word : Comparing) (a b : Patterns) → IsCovered s a → IsCovered s b
      → Holds (compared word a b) s ↔ Holds (compared word (renamed_patterns f a) (renamed_patterns f b)) renamed
  compared_renamed word a b c d =
      subst (λ (p : List Tree × List Tree). Holds (compared word a b) s ↔ Compares word p.0 p.1)
      (λ i. (sym (inst_renamed f s a c) i, sym (inst_renamed f s b d) i))
      (compared_map word (inst s a) (inst s b))

  -- a condition holds exactly where it holds under the other numbers
  mutual
    pub holds_renamed : (c : Condition) → IsConditionCovered s c → Holds c s ↔ Holds (renamed_condition f c) renamed
    holds_renamed (compared word a b) k = compared_renamed word a b k.0 k.1
    holds_renamed (negated c) k = let h = holds_renamed c k in ((λ no yes. no (h.1 yes)), (λ no yes. no (h.0 yes)))
    holds_renamed (combined all cs) k = all_renamed cs k
    holds_renamed (combined any cs) k = some_renamed cs k

    all_renamed : (cs : Conditions) → AreConditionsCovered s cs → AllHold cs s ↔ AllHold (renamed_conditions f cs) renamed
    all_renamed no_condition k = ((λ _. tt), (λ _. tt))
    all_renamed (condition_first c cs) k =
        let h = holds_renamed c k.0 in
        let r = all_renamed cs k.1 in
        ((λ p. (h.0 p.0, r.0 p.1)), (λ p. (h.1 p.0, r.1 p.1)))

    some_renamed : (cs : Conditions) → AreConditionsCovered s cs → SomeHolds cs s ↔ SomeHolds (renamed_conditions f cs) renamed
    some_renamed no_condition k = ((λ p. absurd p), (λ p. absurd p))
    some_renamed (condition_first c cs) k =
        let h = holds_renamed c k.0 in
        let r = some_renamed cs k.1 in
        (⊎_elim (λ p. inl (h.0 p)) (λ p. inr (r.0 p)), ⊎_elim (λ p. inl (h.1 p)) (λ p. inr (r.1 p)))
