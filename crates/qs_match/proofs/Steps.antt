-- One step of the search: the solutions of the tasks before it are those of the tasks behind it.
use Rattle.std.proofs.Common.{◌≡◌, List, [], ◌∷◌, ◌++◌, Some, refl, sym, ap, ◌∙◌}
use Rattle.qs_tree.specs.declared.cell.Label.{Label}
use Rattle.qs_tree.specs.Trees.{Tree, node, kids, trees, forest}
use Rattle.qs_tree.specs.working.Trees.{trees-forest, forest-trees}
use Rattle.qs_pattern.specs.declared.variable.Var.{Var}
use Rattle.qs_pattern.specs.declared.pattern.Head.TheVariants as head
use Rattle.qs_pattern.specs.declared.subst.Value.TheVariants as value
use Rattle.qs_pattern.specs.Patterns.{Patterns, no_pattern, node_first, tree_var_first}
use Rattle.qs_pattern.specs.Instances.{inst, tree_in, label_in}
use Rattle.qs_pattern.specs.Substitutions.{value_of}
use Rattle.qs_pattern.specs.Substitutions.{Substitution}
use Rattle.qs_pattern.specs.Variables.{IsLabelVar, IsTreeVar}
use Rattle.qs_match.specs.working.Tasks.{Tasks, Appends, Binds, HasOther}
use Rattle.qs_match.proofs.Binding.{bind_to, bind_from, clash_never, label_value, tree_value}
use Rattle.qs_match.proofs.Listed.{appends_same, appends_none}

pub node_parts : (l : Label) (ts : List Tree) (u : Tree) → node l ts ≡ u → (l ≡ u.root) × (ts ≡ kids u)
node_parts l ts u e = (ap (λ (t : Tree). t.root) e, sym (trees-forest ts) ∙ ap (λ (t : Tree). trees t.subtrees) e)

node_is : (l : Label) (ts : List Tree) (u : Tree) → l ≡ u.root → ts ≡ kids u → node l ts ≡ u
node_is l ts u a b =
    let g : forest ts ≡ u.subtrees = ap forest b ∙ forest-trees u.subtrees in
    λ i. record { root = a i; subtrees = g i }

module _ (W : Tasks) (s : Substitution) (old new : List Substitution) where
  -- the list of patterns is empty
  pub step_end : Appends W s old new → Appends ((no_pattern, []) ∷ W) s old new
  step_end a = appends_same (λ r z. record { extends = z.extends; fits = (refl, z.fits) }) (λ r z. record { extends = z.extends; fits = z.fits.1 }) a

  pub stop_end : (u : Tree) (us : List Tree) → Appends ((no_pattern, u ∷ us) ∷ W) s old old
  stop_end u us = appends_none ((no_pattern, u ∷ us) ∷ W) s old (λ r z. let e = z.fits.0 in cc)

  -- a tree variable
  module _ (v : Var) (rest : Patterns) (c : IsTreeVar v) where
    pub step_tree : (t : Substitution) (u : Tree) (us : List Tree) → Binds s v (value.Tree u) t → Appends ((rest, us) ∷ W) t old new → Appends ((tree_var_first v rest, u ∷ us) ∷ W) s old new
    step_tree t u us b a =
        appends_same
        (λ r z.
        let f = bind_from b z.extends in
        record { extends = f.0; fits = (ap (λ o. tree_in o ++ inst r rest) f.1 ∙ ap (λ q. u ∷ q) z.fits.0, z.fits.1) })
        (λ r z.
        let k = tree_value c z.extends in
        let e : k.0 ∷ inst r rest ≡ u ∷ us = ap (λ o. tree_in o ++ inst r rest) (sym k.1) ∙ z.fits.0 in
        let same : k.0 ≡ u = cc in
        let others : inst r rest ≡ us = cc in
        record { extends = bind_to b z.extends (k.1 ∙ ap (λ q. Some (value.Tree q)) same); fits = (others, z.fits.1) })
        a

    pub stop_tree : (u : Tree) (us : List Tree) → HasOther s v (value.Tree u) → Appends ((tree_var_first v rest, u ∷ us) ∷ W) s old old
    stop_tree u us b =
        appends_none ((tree_var_first v rest, u ∷ us) ∷ W) s old
        (λ r z.
        let k = tree_value c z.extends in
        let e : k.0 ∷ inst r rest ≡ u ∷ us = ap (λ o. tree_in o ++ inst r rest) (sym k.1) ∙ z.fits.0 in
        let same : k.0 ≡ u = cc in
        clash_never b z.extends (k.1 ∙ ap (λ q. Some (value.Tree q)) same))

    pub stop_no_tree : Appends ((tree_var_first v rest, []) ∷ W) s old old
    stop_no_tree =
        appends_none ((tree_var_first v rest, []) ∷ W) s old
        (λ r z.
        let k = tree_value c z.extends in
        let e : k.0 ∷ inst r rest ≡ [] = ap (λ o. tree_in o ++ inst r rest) (sym k.1) ∙ z.fits.0 in
        cc)

  -- a node whose head is a label
  module _ (l : Label) (ks rest : Patterns) where
    pub step_node : (u : Tree) (us : List Tree) → l ≡ u.root → Appends ((ks, kids u) ∷ (rest, us) ∷ W) s old new → Appends ((node_first (head.Label l) ks rest, u ∷ us) ∷ W) s old new
    step_node u us e a =
        appends_same
        (λ r z.
        let n : node l (inst r ks) ≡ u = node_is l (inst r ks) u e z.fits.0 in
        let o = z.fits.1.0 in
        record { extends = z.extends; fits = (cc, z.fits.1.1) })
        (λ r z.
        let f = z.fits.0 in
        let n : node l (inst r ks) ≡ u = cc in
        let o : inst r rest ≡ us = cc in
        record { extends = z.extends; fits = ((node_parts l (inst r ks) u n).1, (o, z.fits.1)) })
        a

    pub stop_node : (u : Tree) (us : List Tree) → (l ≡ u.root → ⊥) → Appends ((node_first (head.Label l) ks rest, u ∷ us) ∷ W) s old old
    stop_node u us d =
        appends_none ((node_first (head.Label l) ks rest, u ∷ us) ∷ W) s old
        (λ r z. let f = z.fits.0 in let n : node l (inst r ks) ≡ u = cc in d (node_parts l (inst r ks) u n).0)

  pub stop_no_node : (h : _) (ks rest : Patterns) → Appends ((node_first h ks rest, []) ∷ W) s old old
  stop_no_node h ks rest = appends_none ((node_first h ks rest, []) ∷ W) s old (λ r z. let f = z.fits.0 in cc)

  -- a node whose head is a label variable
  module _ (v : Var) (ks rest : Patterns) (c : IsLabelVar v) where
    pub step_head : (t : Substitution) (u : Tree) (us : List Tree) → Binds s v (value.Label u.root) t → Appends ((ks, kids u) ∷ (rest, us) ∷ W) t old new
        → Appends ((node_first (head.Var v) ks rest, u ∷ us) ∷ W) s old new
    step_head t u us b a =
        appends_same
        (λ r z.
        let f = bind_from b z.extends in
        let n : node (label_in (value_of r v)) (inst r ks) ≡ u = node_is (label_in (value_of r v)) (inst r ks) u (ap label_in f.1) z.fits.0 in
        let o = z.fits.1.0 in
        record { extends = f.0; fits = (cc, z.fits.1.1) })
        (λ r z.
        let k = label_value c z.extends in
        let f = z.fits.0 in
        let n : node (label_in (value_of r v)) (inst r ks) ≡ u = cc in
        let o : inst r rest ≡ us = cc in
        let p = node_parts (label_in (value_of r v)) (inst r ks) u n in
        let same : k.0 ≡ u.root = sym (ap label_in k.1) ∙ p.0 in
        record { extends = bind_to b z.extends (k.1 ∙ ap (λ q. Some (value.Label q)) same); fits = (p.1, (o, z.fits.1)) })
        a

    pub stop_head : (u : Tree) (us : List Tree) → HasOther s v (value.Label u.root) → Appends ((node_first (head.Var v) ks rest, u ∷ us) ∷ W) s old old
    stop_head u us b =
        appends_none ((node_first (head.Var v) ks rest, u ∷ us) ∷ W) s old
        (λ r z.
        let k = label_value c z.extends in
        let f = z.fits.0 in
        let n : node (label_in (value_of r v)) (inst r ks) ≡ u = cc in
        let p = node_parts (label_in (value_of r v)) (inst r ks) u n in
        let same : k.0 ≡ u.root = sym (ap label_in k.1) ∙ p.0 in
        clash_never b z.extends (k.1 ∙ ap (λ q. Some (value.Label q)) same))
