-- The tree at a place of a match has the root that the pattern at that place asks for.
use Rattle.std.proofs.Common.{◌≡◌, ℕ, zero, suc, ◌⊎◌, inl, inr, List, [], ◌∷◌, ◌++◌, length, map, Option, Some, None, slice_get, refl, sym, ap, ◌∙◌, subst}
use Rattle.std.specs.List.{cons_option}
use Rattle.qs_tree.specs.Lists.{◌∈◌}
use Rattle.qs_tree.specs.declared.cell.Label.{Label}
use Rattle.qs_tree.specs.Trees.{Tree, node, kids}
use Rattle.qs_tree.proofs.Members.{in_append_right}
use Rattle.qs_pattern.specs.declared.variable.Var.{Var}
use Rattle.qs_pattern.specs.declared.pattern.Head.{Head}
use Rattle.qs_pattern.specs.declared.pattern.Head.TheVariants as head
use Rattle.qs_pattern.specs.Patterns.{Patterns, no_pattern, node_first, tree_var_first, forest_var_first, variables_in, head_variables, AreInClass, NoForestAtTop}
use Rattle.qs_pattern.specs.Substitutions.{Substitution}
use Rattle.qs_pattern.specs.Instances.{inst, label_of, tree_in}
use Rattle.qs_pattern.proofs.VariableLemmas.{HasValue}
use Rattle.qs_pattern.proofs.Reading.{tree_of_var}
use Rattle.qs_graph.specs.Graphs.{Arc, Leads, arcs_at, trees_on}
use Rattle.qs_join.specs.Heads.{root_asked, roots_asked, first_asked, firsts_asked}
use Rattle.qs_join.specs.working.Listing.{first_root_of}

-- a place asks for the root of this tree, or for none
abbrev pub AsksFor : Patterns → ℕ → Tree → Type 0
AsksFor side place t = (slice_get (roots_asked side) place ≡ Some None) ⊎ (slice_get (roots_asked side) place ≡ Some (Some t.root))

module _ (s : Substitution) where
  pub asked_at : (side : Patterns) → AreInClass side → NoForestAtTop side → ((v : Var) → v ∈ variables_in side → HasValue s v) → (place : ℕ) (t : Tree) → slice_get (inst s side) place ≡ Some t → AsksFor side place t
  asked_at no_pattern c n has place t at = absurd cc
  asked_at (node_first h kids behind) c n has zero t at = by h at
    where
      by : (h : Head) → slice_get (node (label_of s h) (inst s kids) ∷ inst s behind) 0 ≡ Some t → (Some (root_asked h) ≡ Some None) ⊎ (Some (root_asked h) ≡ Some (Some t.root))
      by (head.Label l) e =
          let same : node l (inst s kids) ≡ t = cc in
          inr (ap (λ (u : Tree). Some (Some u.root)) same)
      by (head.Var v) e = inl refl
  asked_at (node_first h kids behind) c n has (suc place) t at =
      asked_at behind c.2 n (λ v i. has v (in_append_right (head_variables h) _ v (in_append_right (variables_in kids) (variables_in behind) v i))) place t at
  asked_at (tree_var_first v behind) c n has zero t at = inl refl
  asked_at (tree_var_first v behind) c n has (suc place) t at =
      let (u, e) = tree_of_var s v c.0 (has v (inl refl)) in
      asked_at behind c.1 n (λ w i. has w (inr i)) place t (ap (λ o. slice_get (tree_in o ++ inst s behind) (suc place)) (sym e) ∙ at)
  asked_at (forest_var_first v behind) c n has place t at = absurd n

-- ---- the root that is asked of its first subtree

module _ (s : Substitution) where
  below_node : (l : Label) (side : Patterns) → (first_asked side ≡ None) ⊎ (first_asked side ≡ first_root_of (kids (node l (inst s side))))
  below_node l no_pattern = inl refl
  below_node l (node_first (head.Label k) below behind) = inr refl
  below_node l (node_first (head.Var v) below behind) = inl refl
  below_node l (tree_var_first v behind) = inl refl
  below_node l (forest_var_first v behind) = inl refl

  pub first_at : (side : Patterns) → AreInClass side → NoForestAtTop side → ((v : Var) → v ∈ variables_in side → HasValue s v) → (place : ℕ) (t : Tree) → slice_get (inst s side) place ≡ Some t
      → (a : Option Label) × (slice_get (firsts_asked side) place ≡ Some a) × ((a ≡ None) ⊎ (a ≡ first_root_of (kids t)))
  first_at no_pattern c n has place t at = absurd cc
  first_at (node_first h below behind) c n has zero t at =
      let same : node (label_of s h) (inst s below) ≡ t = cc in
      (first_asked below, refl, subst (λ (u : Tree). (first_asked below ≡ None) ⊎ (first_asked below ≡ first_root_of (kids u))) same (below_node (label_of s h) below))
  first_at (node_first h below behind) c n has (suc place) t at =
      first_at behind c.2 n (λ v i. has v (in_append_right (head_variables h) _ v (in_append_right (variables_in below) (variables_in behind) v i))) place t at
  first_at (tree_var_first v behind) c n has zero t at = (None, refl, inl refl)
  first_at (tree_var_first v behind) c n has (suc place) t at =
      let (u, e) = tree_of_var s v c.0 (has v (inl refl)) in
      first_at behind c.1 n (λ w i. has w (inr i)) place t (ap (λ o. slice_get (tree_in o ++ inst s behind) (suc place)) (sym e) ∙ at)
  first_at (forest_var_first v behind) c n has place t at = absurd n

-- ---- the tree on the arc at a place of a path

pub tree_on : (arcs : List Arc) (a b : ℕ) (front : List ℕ) (k : ℕ) (rest : List ℕ) (arc : Arc) → Leads arcs a (front ++ (k ∷ rest)) b → slice_get arcs k ≡ Some arc
    → slice_get (trees_on arcs (front ++ (k ∷ rest))) (length front) ≡ Some arc.tree
tree_on arcs a b [] k rest arc (other, at, f, l) is = ap (λ o. slice_get (map (λ (x : Arc). x.tree) (cons_option o (arcs_at arcs rest))) 0) is
tree_on arcs a b (j ∷ front) k rest arc (other, at, f, l) is =
    ap (λ o. slice_get (map (λ (x : Arc). x.tree) (cons_option o (arcs_at arcs (front ++ (k ∷ rest))))) (suc (length front))) at ∙ tree_on arcs other.to b front k rest arc l is
