-- A variable is bound, or has another value.
use Rattle.std.proofs.Common.{◌≡◌, inl, inr, List, [], ◌∷◌, ◌++◌, Option, Some, None, refl, sym, ap, ◌∙◌, subst, arith}
use Rattle.qs_tree.specs.declared.cell.Label.{Label}
use Rattle.qs_tree.specs.Trees.{Tree}
use Rattle.qs_pattern.specs.declared.variable.Var.{Var}
use Rattle.qs_pattern.specs.declared.subst.Value.{Value}
use Rattle.qs_pattern.specs.declared.subst.Value.TheVariants as value
use Rattle.qs_pattern.specs.Substitutions.{value_of}
use Rattle.qs_pattern.specs.Substitutions.{Substitution, IsOfClass}
use Rattle.qs_pattern.specs.Variables.{IsLabelVar, IsTreeVar, IsForestVar}
use Rattle.qs_match.specs.working.Tasks.{AreOfClass, Extends, Binds, HasOther}
use Rattle.qs_match.proofs.Values.{pair_of, known_from, known_to, known_value, new_from, new_value, new_to}

module _ {s r : Substitution} {v : Var} {vs : List Var} where
  pub has_value : Extends (v ∷ vs) s r → (y : Value) × (value_of r v ≡ Some y)
  has_value x = split (value_of s v) refl
    where
      split : (o : Option Value) → value_of s v ≡ o → (y : Value) × (value_of r v ≡ Some y)
      split None e = let n = new_to s r v vs e x in (n.0, n.1)
      split (Some y) e = (y, known_value s r v vs y e x)

module _ {s r : Substitution} {v : Var} {vs : List Var} where
  -- a value that is there in the end is bound now
  pub binding : (x : Value) → Extends (v ∷ vs) s r → value_of r v ≡ Some x → (t : Substitution) × Binds s v x t
  binding x e is = split (value_of s v) refl
    where
      split : (o : Option Value) → value_of s v ≡ o → (t : Substitution) × Binds s v x t
      split None n = (s ++ (v, x) ∷ [], inr (n, refl))
      split (Some y) k = let f = known_value s r v vs y k e in let same : value_of s v ≡ Some x = cc in (s, inl (same, refl))

module _ {s t r : Substitution} {v : Var} {vs : List Var} {x : Value} where
  pub bind_to : Binds s v x t → Extends (v ∷ vs) s r → value_of r v ≡ Some x → Extends vs t r
  bind_to (inl b) e is = subst (λ u. Extends vs u r) (sym b.1) (known_to s r v vs x b.0 e)
  bind_to (inr b) e is =
      let n = new_to s r v vs b.0 e in
      let same : n.0 ≡ x = let q = n.1 in cc in
      subst (λ u. Extends vs u r) (ap (λ (y : Value). s ++ ((v, y) ∷ [])) same ∙ sym b.1) n.2

  pub bind_from : Binds s v x t → Extends vs t r → Extends (v ∷ vs) s r × (value_of r v ≡ Some x)
  bind_from (inl b) e =
      let f = subst (λ u. Extends vs u r) b.1 e in (known_from s r v vs x b.0 f, known_value s r v vs x b.0 f)
  bind_from (inr b) e =
      let f = subst (λ u. Extends vs u r) b.1 e in (new_from s r v vs x b.0 f, new_value s r v vs x b.0 f)

module _ {s r : Substitution} {v : Var} {us : List Var} {x : Value} where
  pub clash_never : HasOther s v x → Extends us s r → value_of r v ≡ Some x → ⊥
  clash_never c e is = let k = known_value s r v us c.value c.has e in let same : c.value ≡ x = cc in c.differs same

-- The class of a variable is that of its value.
label_of_class : (w v : Var) (y : Value) → w.letter ≡ v.letter → IsOfClass (w, y) → IsLabelVar v → (l : Label) × (y ≡ value.Label l)
label_of_class w v (value.Label l) e o c = (l, refl)
label_of_class w v (value.Tree t) e o c = absurd (omega arith)
label_of_class w v (value.Forest ts) e o c = absurd (omega arith)

tree_of_class : (w v : Var) (y : Value) → w.letter ≡ v.letter → IsOfClass (w, y) → IsTreeVar v → (t : Tree) × (y ≡ value.Tree t)
tree_of_class w v (value.Label l) e o c = absurd (omega arith)
tree_of_class w v (value.Tree t) e o c = (t, refl)
tree_of_class w v (value.Forest ts) e o c = absurd (omega arith)

forest_of_class : (w v : Var) (y : Value) → w.letter ≡ v.letter → IsOfClass (w, y) → IsForestVar v → (ts : List Tree) × (y ≡ value.Forest ts)
forest_of_class w v (value.Label l) e o c = absurd (omega arith)
forest_of_class w v (value.Tree t) e o c = absurd (omega arith)
forest_of_class w v (value.Forest ts) e o c = (ts, refl)

module _ (v : Var) (r : Substitution) (a : AreOfClass r) where
  pub label_has : IsLabelVar v → (y : Value) → value_of r v ≡ Some y → (l : Label) × (value_of r v ≡ Some (value.Label l))
  label_has c y is =
      let p = pair_of v r y is in
      let k = label_of_class p.0 v y p.2 (a (p.0, y) p.1) c in
      (k.0, is ∙ ap Some k.1)

  pub tree_has : IsTreeVar v → (y : Value) → value_of r v ≡ Some y → (t : Tree) × (value_of r v ≡ Some (value.Tree t))
  tree_has c y is =
      let p = pair_of v r y is in
      let k = tree_of_class p.0 v y p.2 (a (p.0, y) p.1) c in
      (k.0, is ∙ ap Some k.1)

  pub forest_has : IsForestVar v → (y : Value) → value_of r v ≡ Some y → (ts : List Tree) × (value_of r v ≡ Some (value.Forest ts))
  forest_has c y is =
      let p = pair_of v r y is in
      let k = forest_of_class p.0 v y p.2 (a (p.0, y) p.1) c in
      (k.0, is ∙ ap Some k.1)

module _ {s r : Substitution} {v : Var} {vs : List Var} where
  pub label_value : IsLabelVar v → Extends (v ∷ vs) s r → (l : Label) × (value_of r v ≡ Some (value.Label l))
  label_value c e = let h = has_value e in label_has v r e.classes c h.0 h.1

  pub tree_value : IsTreeVar v → Extends (v ∷ vs) s r → (t : Tree) × (value_of r v ≡ Some (value.Tree t))
  tree_value c e = let h = has_value e in tree_has v r e.classes c h.0 h.1

  pub forest_value : IsForestVar v → Extends (v ∷ vs) s r → (ts : List Tree) × (value_of r v ≡ Some (value.Forest ts))
  forest_value c e = let h = has_value e in forest_has v r e.classes c h.0 h.1
