-- Which arc a firing meets, under other numbers for the labels: the same one.
use Rattle.std.proofs.Common.{◌≡◌, ℕ, suc, Bool, true, false, List, [], ◌∷◌, map, Option, Some, None, refl, sym, ◌∙◌, ap, eqb, eqb-true, eq-eqb}
use Rattle.std.specs.Prelude.{◌&&◌, if◌then◌else◌}
use Rattle.std.specs.Option.{option_map}
use Rattle.qs_tree.specs.Trees.{Forest, no_tree, first_tree, Tree}
use Rattle.qs_tree.specs.Sameness.{same_forest, same_tree}
use Rattle.qs_pattern.specs.Rules.{Rule, all_unique}
use Rattle.qs_graph.specs.Graphs.{Arc}
use Rattle.qs_firing.specs.Adding.{is_from_to, least_arc, standing, unless_met}
use Rattle.qs_clean.specs.Renaming.{renamed_forest, renamed_tree, renamed_rule, renamed_arc}

-- rules keep their marks
pub unique_renamed : (f : ℕ → ℕ) (R : List Rule) → all_unique (map (renamed_rule f) R) ≡ all_unique R
unique_renamed f [] = refl
unique_renamed f (rule ∷ R) = ap (λ others. rule.unique && others) (unique_renamed f R)

-- two truths of which each follows from the other
same_truth : (a b : Bool) → (a ≡ true → b ≡ true) → (b ≡ true → a ≡ true) → a ≡ b
same_truth true b there back = sym (there refl)
same_truth false true there back = back refl
same_truth false false there back = refl

module _ (f g : ℕ → ℕ) (undone : (n : ℕ) → g (f n) ≡ n) where
  -- equal numbers stay equal, and others stay apart
  eqb_renamed : (m n : ℕ) → eqb (f m) (f n) ≡ eqb m n
  eqb_renamed m n =
      same_truth (eqb (f m) (f n)) (eqb m n)
      (λ e. eq-eqb m n (sym (undone m) ∙ ap g (eqb-true (f m) (f n) e) ∙ undone n))
      (λ e. eq-eqb (f m) (f n) (ap f (eqb-true m n e)))

  same_forest_renamed : (k h : Forest) → same_forest (renamed_forest f k) (renamed_forest f h) ≡ same_forest k h
  same_forest_renamed no_tree no_tree = refl
  same_forest_renamed no_tree (first_tree m h s) = refl
  same_forest_renamed (first_tree l k r) no_tree = refl
  same_forest_renamed (first_tree l k r) (first_tree m h s) =
      λ i. eqb_renamed l.0 m.0 i && (same_forest_renamed k h i && same_forest_renamed r s i)

  same_tree_renamed : (t u : Tree) → same_tree (renamed_tree f t) (renamed_tree f u) ≡ same_tree t u
  same_tree_renamed t u = λ i. eqb_renamed t.root.0 u.root.0 i && same_forest_renamed t.subtrees u.subtrees i

  from_to_renamed : (a b : ℕ) (t : Tree) (x : Arc) → is_from_to a b (renamed_tree f t) (renamed_arc f x) ≡ is_from_to a b t x
  from_to_renamed a b t x = ap (λ same. eqb x.from a && (eqb x.to b && same)) (same_tree_renamed x.tree t)

  least_renamed : (arcs : List Arc) (a b : ℕ) (t : Tree) → least_arc (map (renamed_arc f) arcs) a b (renamed_tree f t) ≡ least_arc arcs a b t
  least_renamed [] a b t = refl
  least_renamed (x ∷ arcs) a b t = λ i. if from_to_renamed a b t x i then Some 0 else option_map suc (least_renamed arcs a b t i)

  pub standing_renamed : (arcs : List Arc) (a : ℕ) (ts : List Tree) (b : ℕ) → standing (map (renamed_arc f) arcs) a (map (renamed_tree f) ts) b ≡ standing arcs a ts b
  standing_renamed arcs a [] b = refl
  standing_renamed arcs a (t ∷ []) b = least_renamed arcs a b t
  standing_renamed arcs a (t ∷ u ∷ ts) b = refl

pub unless_met_renamed : (f : ℕ → ℕ) (o : Option ℕ) (ts : List Tree) → unless_met o (map (renamed_tree f) ts) ≡ map (renamed_tree f) (unless_met o ts)
unless_met_renamed f (Some l) ts = refl
unless_met_renamed f None ts = refl
