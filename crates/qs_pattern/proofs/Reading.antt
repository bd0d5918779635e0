-- The values of a match are read off its trees, where the lengths of its forests are known.
use Rattle.std.proofs.Common.{◌≡◌, ℕ, List, [], ◌∷◌, ◌++◌, length, take, drop, refl, sym, ◌∙◌, ap, inl, inr, arith, Option, Some, append_assoc, append-nil}
use Rattle.std.proofs.lemmas.List.{map-append}
use Rattle.std.proofs.Math.Seq.{take-append_seam, drop-append_seam}
use Rattle.qs_tree.specs.Lists.{◌∈◌}
use Rattle.qs_tree.specs.declared.cell.Label.{Label}
use Rattle.qs_tree.specs.Trees.{Tree, kids, forest}
use Rattle.qs_tree.specs.working.Trees.{trees-forest}
use Rattle.qs_pattern.specs.declared.variable.Var.{Var}
use Rattle.qs_pattern.specs.declared.pattern.Head.{Head}
use Rattle.qs_pattern.specs.declared.pattern.Head.TheVariants as head
use Rattle.qs_pattern.specs.declared.subst.Value.{Value}
use Rattle.qs_pattern.specs.declared.subst.Value.TheVariants as value
use Rattle.qs_pattern.specs.Variables.{IsLabelVar, IsTreeVar, IsForestVar}
use Rattle.qs_pattern.specs.Patterns.{Patterns, no_pattern, node_first, tree_var_first, forest_var_first, head_variables, variables_in, IsHeadInClass, AreInClass}
use Rattle.qs_pattern.specs.Substitutions.{Substitution, value_of, IsOfClass}
use Rattle.qs_pattern.specs.Instances.{inst, label_of}
use Rattle.qs_tree.proofs.Members.{in_append_left, in_append_right}
use Rattle.qs_pattern.proofs.VariableLemmas.{HasValue, valued, value_or_zero}

-- a variable's length: that of its list of trees, and 0 where it has none
abbrev pub length_in : Option Value → ℕ
length_in (Some (value.Forest ts)) = length ts
length_in _ = 0

abbrev pub length_of : Substitution → Var → ℕ
length_of s v = length_in (value_of s v)

-- the values at the variables' places, read off a list of trees
abbrev pub head_value : Head → Label → Substitution
head_value (head.Label m) l = []
head_value (head.Var v) l = (v, value.Label l) ∷ []

abbrev pub read : Patterns → (Var → ℕ) → List Tree → Substitution
read no_pattern n ts = []
read (node_first h below behind) n [] = []
read (node_first h below behind) n (t ∷ ts) = head_value h t.root ++ (read below n (kids t) ++ read behind n ts)
read (tree_var_first v behind) n [] = []
read (tree_var_first v behind) n (t ∷ ts) = (v, value.Tree t) ∷ read behind n ts
read (forest_var_first v behind) n ts = (v, value.Forest (take (n v) ts)) ∷ read behind n (drop (n v) ts)

-- a value is a label, a tree or a list of trees as its variable's letter says
label_value : (v : Var) (x : Value) → IsLabelVar v → IsOfClass (v, x) → (l : Label) × (x ≡ value.Label l)
label_value v (value.Label l) c d = (l, refl)
label_value v (value.Tree t) c d = absurd (omega arith)
label_value v (value.Forest ts) c d = absurd (omega arith)

tree_value : (v : Var) (x : Value) → IsTreeVar v → IsOfClass (v, x) → (t : Tree) × (x ≡ value.Tree t)
tree_value v (value.Label l) c d = absurd (omega arith)
tree_value v (value.Tree t) c d = (t, refl)
tree_value v (value.Forest ts) c d = absurd (omega arith)

forest_value : (v : Var) (x : Value) → IsForestVar v → IsOfClass (v, x) → (ts : List Tree) × (x ≡ value.Forest ts)
forest_value v (value.Label l) c d = absurd (omega arith)
forest_value v (value.Tree t) c d = absurd (omega arith)
forest_value v (value.Forest ts) c d = (ts, refl)

pub label_of_var : (s : Substitution) (v : Var) → IsLabelVar v → HasValue s v → (l : Label) × (value_of s v ≡ Some (value.Label l))
label_of_var s v c h = let (l, e) = label_value v h.value c h.class in (l, h.is ∙ ap Some e)

pub tree_of_var : (s : Substitution) (v : Var) → IsTreeVar v → HasValue s v → (t : Tree) × (value_of s v ≡ Some (value.Tree t))
tree_of_var s v c h = let (t, e) = tree_value v h.value c h.class in (t, h.is ∙ ap Some e)

pub forest_of_var : (s : Substitution) (v : Var) → IsForestVar v → HasValue s v → (ts : List Tree) × (value_of s v ≡ Some (value.Forest ts))
forest_of_var s v c h = let (ts, e) = forest_value v h.value c h.class in (ts, h.is ∙ ap Some e)

module _ (s : Substitution) where
  valued-append : (vs ws : List Var) → valued s (vs ++ ws) ≡ valued s vs ++ valued s ws
  valued-append vs ws = map-append (λ (v : Var). (v, value_or_zero s v)) vs ws

  head_value-is : (h : Head) → IsHeadInClass h → ((v : Var) → v ∈ head_variables h → HasValue s v) → head_value h (label_of s h) ≡ valued s (head_variables h)
  head_value-is (head.Label l) c has = refl
  head_value-is (head.Var v) c has = let (l, e) = label_of_var s v c (has v (inl refl)) in rw e refl

  pub read-is : (ps : Patterns) → AreInClass ps → ((v : Var) → v ∈ variables_in ps → HasValue s v) → (more : List Tree)
      → read ps (length_of s) (inst s ps ++ more) ≡ valued s (variables_in ps)
  read-is no_pattern c has more = refl
  read-is (node_first h below behind) c has more =
      let inner = variables_in below ++ variables_in behind in
      let a : head_value h (label_of s h) ≡ valued s (head_variables h) = head_value-is h c.0 (λ v i. has v (in_append_left (head_variables h) inner v i)) in
      let b : read below (length_of s) (kids (record { root = label_of s h; subtrees = forest (inst s below) })) ≡ valued s (variables_in below) =
      ap (read below (length_of s)) (trees-forest (inst s below) ∙ sym (append-nil (inst s below)))
      ∙ read-is below c.1 (λ v i. has v (in_append_right (head_variables h) inner v (in_append_left (variables_in below) (variables_in behind) v i))) [] in
      let d : read behind (length_of s) (inst s behind ++ more) ≡ valued s (variables_in behind) =
      read-is behind c.2 (λ v i. has v (in_append_right (head_variables h) inner v (in_append_right (variables_in below) (variables_in behind) v i))) more in
      (λ i. a i ++ (b i ++ d i))
      ∙ sym (valued-append (head_variables h) inner ∙ ap (λ vs. valued s (head_variables h) ++ vs) (valued-append (variables_in below) (variables_in behind)))
  read-is (tree_var_first v behind) c has more =
      let (t, e) = tree_of_var s v c.0 (has v (inl refl)) in
      let d : read behind (length_of s) (inst s behind ++ more) ≡ valued s (variables_in behind) = read-is behind c.1 (λ w i. has w (inr i)) more in
      rw e (ap (λ us. (v, value.Tree t) ∷ us) d)
  read-is (forest_var_first v behind) c has more =
      let (ts, e) = forest_of_var s v c.0 (has v (inl refl)) in
      let d : read behind (length_of s) (inst s behind ++ more) ≡ valued s (variables_in behind) = read-is behind c.1 (λ w i. has w (inr i)) more in
      let a : (ts ++ inst s behind) ++ more ≡ ts ++ (inst s behind ++ more) = append_assoc ts (inst s behind) more in
      let front : take (length ts) ((ts ++ inst s behind) ++ more) ≡ ts = ap (take (length ts)) a ∙ take-append_seam ts (inst s behind ++ more) in
      let back : drop (length ts) ((ts ++ inst s behind) ++ more) ≡ inst s behind ++ more = ap (drop (length ts)) a ∙ drop-append_seam ts (inst s behind ++ more) in
      rw e (λ i. (v, value.Forest (front i)) ∷ (ap (read behind (length_of s)) back ∙ d) i)
