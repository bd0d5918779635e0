-- Under a solution each variable of the patterns has a value of its class, so that the patterns stand for a number of trees
-- that they can stand for.
use Rattle.std.proofs.Common.{◌≡◌, ◌+◌, ◌≤◌, inl, inr, List, [], ◌∷◌, length, Some, None, Option, refl, sym, ap, ◌∙◌, subst, arith, length-append}
use Rattle.qs_tree.specs.Lists.{◌∈◌}
use Rattle.qs_tree.specs.Trees.{Tree}
use Rattle.qs_pattern.specs.declared.variable.Var.{Var}
use Rattle.qs_pattern.specs.declared.pattern.Head.TheVariants as head
use Rattle.qs_pattern.specs.declared.subst.Value.{Value}
use Rattle.qs_pattern.specs.declared.subst.Value.TheVariants as value
use Rattle.qs_pattern.specs.Variables.{IsLabelVar, IsTreeVar, IsForestVar}
use Rattle.qs_pattern.specs.Patterns.{Patterns, no_pattern, node_first, tree_var_first, forest_var_first, AreInClass, NoForestAtTop}
use Rattle.qs_pattern.specs.Substitutions.{Substitution, value_of}
use Rattle.qs_pattern.specs.Instances.{inst, tree_in, trees_in, IsLabel, IsTree, IsForest, IsCovered}
use Rattle.qs_match.specs.working.Counts.{singles, CanFit}
use Rattle.qs_match.specs.working.Tasks.{Extends, AreOfClass, variables_before, TakesFront}
use Rattle.qs_match.proofs.Values.{known_value}
use Rattle.qs_match.proofs.Binding.{has_value, binding, bind_to, label_has, tree_has, forest_has}

-- each of the variables has a value
abbrev HaveValues : List Var → Substitution → Type 0
HaveValues vs r = (v : Var) → v ∈ vs → (y : Value) × (value_of r v ≡ Some y)

have_values : (vs : List Var) (s r : Substitution) → Extends vs s r → HaveValues vs r
have_values [] s r e v i = absurd i
have_values (w ∷ vs) s r e v (inl same) = let h = has_value e in (h.0, ap (value_of r) same ∙ h.1)
have_values (w ∷ vs) s r e v (inr i) =
    let h = has_value e in
    let b = binding h.0 e h.1 in
    have_values vs b.0 r (bind_to b.1 e h.1) v i

in_before : (ps : Patterns) (vs : List Var) (v : Var) → v ∈ vs → v ∈ variables_before ps vs
in_before no_pattern vs v i = i
in_before (node_first (head.Label l) ks rest) vs v i = in_before ks (variables_before rest vs) v (in_before rest vs v i)
in_before (node_first (head.Var w) ks rest) vs v i = inr (in_before ks (variables_before rest vs) v (in_before rest vs v i))
in_before (tree_var_first w rest) vs v i = inr (in_before rest vs v i)
in_before (forest_var_first w rest) vs v i = inr (in_before rest vs v i)

module _ (r : Substitution) (c : AreOfClass r) where
  label_covered : (v : Var) → IsLabelVar v → (y : Value) × (value_of r v ≡ Some y) → IsLabel (value_of r v)
  label_covered v l h = let k = label_has v r c l h.0 h.1 in subst IsLabel (sym k.1) tt

  tree_covered : (v : Var) → IsTreeVar v → (y : Value) × (value_of r v ≡ Some y) → IsTree (value_of r v)
  tree_covered v l h = let k = tree_has v r c l h.0 h.1 in subst IsTree (sym k.1) tt

  forest_covered : (v : Var) → IsForestVar v → (y : Value) × (value_of r v ≡ Some y) → IsForest (value_of r v)
  forest_covered v l h = let k = forest_has v r c l h.0 h.1 in subst IsForest (sym k.1) tt

  are_covered : (ps : Patterns) (vs : List Var) → AreInClass ps → HaveValues (variables_before ps vs) r → IsCovered r ps
  are_covered no_pattern vs a h = tt
  are_covered (node_first (head.Label l) ks rest) vs a h = (tt, are_covered ks (variables_before rest vs) a.1 h, are_covered rest vs a.2 (λ v i. h v (in_before ks (variables_before rest vs) v i)))
  are_covered (node_first (head.Var w) ks rest) vs a h = (
    label_covered w a.0 (h w (inl refl)),
    are_covered ks (variables_before rest vs) a.1 (λ v i. h v (inr i)),
    are_covered rest vs a.2 (λ v i. h v (inr (in_before ks (variables_before rest vs) v i))),
  )
  are_covered (tree_var_first w rest) vs a h = (tree_covered w a.0 (h w (inl refl)), are_covered rest vs a.1 (λ v i. h v (inr i)))
  are_covered (forest_var_first w rest) vs a h = (forest_covered w a.0 (h w (inl refl)), are_covered rest vs a.1 (λ v i. h v (inr i)))

one_tree : (o : Option Value) → IsTree o → length (tree_in o) ≡ 1
one_tree None i = absurd i
one_tree (Some (value.Label l)) i = absurd i
one_tree (Some (value.Tree t)) i = refl
one_tree (Some (value.Forest ts)) i = absurd i

singles-inst : (r : Substitution) (ps : Patterns) → IsCovered r ps → singles ps ≤ length (inst r ps)
singles-inst r no_pattern c = omega arith
singles-inst r (node_first h ks rest) c = omega (arith, singles-inst r rest c.2)
singles-inst r (tree_var_first v rest) c =
    omega (arith, singles-inst r rest c.1, one_tree (value_of r v) c.0, length-append (tree_in (value_of r v)) (inst r rest))
singles-inst r (forest_var_first v rest) c =
    omega (arith, singles-inst r rest c.1, length-append (trees_in (value_of r v)) (inst r rest))

singles-exact : (r : Substitution) (ps : Patterns) → IsCovered r ps → NoForestAtTop ps → singles ps ≡ length (inst r ps)
singles-exact r no_pattern c n = refl
singles-exact r (node_first h ks rest) c n = omega (arith, singles-exact r rest c.2 n)
singles-exact r (tree_var_first v rest) c n =
    omega (arith, singles-exact r rest c.1 n, one_tree (value_of r v) c.0, length-append (tree_in (value_of r v)) (inst r rest))
singles-exact r (forest_var_first v rest) c n = absurd n

-- the patterns can stand for as many trees as they do stand for
pub fits : (ps : Patterns) (vs : List Var) (s r : Substitution) → AreInClass ps → Extends (variables_before ps vs) s r → CanFit ps (length (inst r ps))
fits ps vs s r a e =
    let c = are_covered r e.classes ps vs a (have_values (variables_before ps vs) s r e) in
    record { least = singles-inst r ps c; exact = singles-exact r ps c }

module _ (s : Substitution) (v : Var) (rest : Patterns) (ts : List Tree) (r : Substitution) (front : List Tree) where
  -- what stands behind a forest variable's list are as many trees as the patterns behind it can stand for
  pub front_joins : TakesFront s v rest ts r front → length front + length (inst r rest) ≡ length ts
  front_joins t = sym (length-append front (inst r rest)) ∙ ap length t.fits

  pub rest_fits : AreInClass rest → TakesFront s v rest ts r front → CanFit rest (length (inst r rest))
  rest_fits a t = let b = binding (value.Forest front) t.extends t.is in fits rest t.vs b.0 r a (bind_to b.1 t.extends t.is)

  -- a forest variable that stands for a list already takes this list
  pub known_front : (known : List Tree) → value_of s v ≡ Some (value.Forest known) → TakesFront s v rest ts r front → length front ≡ length known
  known_front known e t =
      let k = known_value s r v (variables_before rest t.vs) (value.Forest known) e t.extends in
      let is = t.is in
      let same : front ≡ known = cc in
      ap length same
