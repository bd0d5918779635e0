-- Why patterns never stand for trees.
use Rattle.std.proofs.Common.{◌≡◌, List, [], ◌∷◌, ◌++◌, Option, Some, None, refl, sym, ap, ◌∙◌, subst}
use Rattle.qs_tree.specs.declared.cell.Label.{Label}
use Rattle.qs_tree.specs.Trees.{Tree, node, kids}
use Rattle.qs_pattern.specs.declared.variable.Var.{Var}
use Rattle.qs_pattern.specs.declared.pattern.Head.{Head}
use Rattle.qs_pattern.specs.declared.subst.Value.{Value}
use Rattle.qs_pattern.specs.declared.subst.Value.TheVariants as value
use Rattle.qs_pattern.specs.Patterns.{Patterns, no_pattern, node_first, tree_var_first}
use Rattle.qs_pattern.specs.Substitutions.{Substitution, value_of}
use Rattle.qs_pattern.specs.Instances.{inst, label_of, tree_in, IsTree}
use Rattle.qs_match.specs.working.Counts.{CanBeRoot}
use Rattle.qs_match.specs.Fitting.{NeverStandsFor}
use Rattle.qs_match.proofs.Steps.{node_parts}
use Rattle.qs_match.proofs.Calls.{root_is}

pub nothing_left : (ts : List Tree) → (ts ≡ [] → ⊥) → NeverStandsFor no_pattern ts
nothing_left ts some s c e = some (sym e)

-- a node first
module _ (h : Head) (ks rest : Patterns) where
  pub node_nothing : (ts : List Tree) → ts ≡ [] → NeverStandsFor (node_first h ks rest) ts
  node_nothing ts none s c e = let f : node (label_of s h) (inst s ks) ∷ inst s rest ≡ [] = e ∙ none in cc

  module _ (u : Tree) (us ts : List Tree) (is : ts ≡ u ∷ us) where
    parts : (s : Substitution) → inst s (node_first h ks rest) ≡ ts → (node (label_of s h) (inst s ks) ≡ u) × (inst s rest ≡ us)
    parts s e = let f : node (label_of s h) (inst s ks) ∷ inst s rest ≡ u ∷ us = e ∙ is in (cc, cc)

    pub node_root : (x : Label) → x ≡ u.root → (CanBeRoot h x → ⊥) → NeverStandsFor (node_first h ks rest) ts
    node_root x same never s c e =
        never (subst (CanBeRoot h) (sym same) (root_is h s u (node_parts (label_of s h) (inst s ks) u (parts s e).0).0))

    pub node_kids : (subtrees : List Tree) → subtrees ≡ kids u → NeverStandsFor ks subtrees → NeverStandsFor (node_first h ks rest) ts
    node_kids subtrees same never s c e = never s c.1 ((node_parts (label_of s h) (inst s ks) u (parts s e).0).1 ∙ sym same)

    pub node_behind : NeverStandsFor rest us → NeverStandsFor (node_first h ks rest) ts
    node_behind never s c e = never s c.2 (parts s e).1

-- a tree variable first
one_value : (o : Option Value) → IsTree o → (t : Tree) × (tree_in o ≡ t ∷ [])
one_value None i = absurd i
one_value (Some (value.Label l)) i = absurd i
one_value (Some (value.Tree t)) i = (t, refl)
one_value (Some (value.Forest ts)) i = absurd i

module _ (v : Var) (rest : Patterns) where
  pub tree_nothing : (ts : List Tree) → ts ≡ [] → NeverStandsFor (tree_var_first v rest) ts
  tree_nothing ts none s c e =
      let (t, is) = one_value (value_of s v) c.0 in
      let f : t ∷ inst s rest ≡ [] = ap (λ xs. xs ++ inst s rest) (sym is) ∙ e ∙ none in
      cc

  pub tree_behind : (u : Tree) (us ts : List Tree) → ts ≡ u ∷ us → NeverStandsFor rest us → NeverStandsFor (tree_var_first v rest) ts
  tree_behind u us ts more never s c e =
      let (t, is) = one_value (value_of s v) c.0 in
      let f : t ∷ inst s rest ≡ u ∷ us = ap (λ xs. xs ++ inst s rest) (sym is) ∙ e ∙ more in
      never s c.1 cc
