-- A list of substitutions in which each match of a side with given trees is.
use Rattle.std.proofs.Common.{◌≡◌, ℕ, ◌+◌, ◌≤◌, Bool, true, false, List, [], ◌∷◌, ◌++◌, length, map, refl, sym, ◌∙◌, ap, subst, inl, inr, ⊎_elim, ◌⊎◌, arith, Some}
use Rattle.std.specs.Prelude.{if◌then◌else◌}
use Rattle.std.proofs.lemmas.List.{length-map}
use Rattle.qs_tree.specs.Lists.{◌∈◌}
use Rattle.qs_tree.specs.Trees.{Tree, forest, size}
use Rattle.qs_pattern.specs.declared.variable.Var.{Var}
use Rattle.qs_pattern.specs.declared.pattern.Head.{Head}
use Rattle.qs_pattern.specs.declared.pattern.Head.TheVariants as head
use Rattle.qs_pattern.specs.Variables.{same_var}
use Rattle.qs_pattern.specs.Patterns.{Patterns, no_pattern, node_first, tree_var_first, forest_var_first, head_variables, variables_in, IsHeadInClass, AreInClass}
use Rattle.qs_pattern.specs.Substitutions.{Substitution, variables_of, value_of}
use Rattle.qs_pattern.specs.Instances.{inst, tree_in, trees_in, variables, IsMatch}
use Rattle.qs_tree.proofs.Members.{in_append_left, in_append_right, from_append, in_map, from_map, up_to, in_up_to, sequences, in_sequences}
use Rattle.qs_pattern.proofs.VariableLemmas.{HasValue, same_var-true, same_var-false, from_firsts}
use Rattle.qs_pattern.proofs.Reading.{length_in, length_of, label_of_var, tree_of_var, forest_of_var}
use Rattle.qs_pattern.proofs.MatchLemmas.{values_from, match-values, matched_value}

-- how many nodes the trees have
abbrev nodes : List Tree → ℕ
nodes ts = size (forest ts)

nodes-append : (ts us : List Tree) → nodes (ts ++ us) ≡ nodes ts + nodes us
nodes-append [] us = omega arith
nodes-append (t ∷ ts) us = omega (arith, nodes-append ts us)

length-nodes : (ts : List Tree) → length ts ≤ nodes ts
length-nodes [] = omega arith
length-nodes (t ∷ ts) = omega (arith, length-nodes ts)

-- no variable's list is longer than the trees have nodes
module _ (s : Substitution) where
  head-length : (h : Head) → IsHeadInClass h → ((v : Var) → v ∈ head_variables h → HasValue s v) → (v : Var) → v ∈ head_variables h → length_of s v ≡ 0
  head-length (head.Label l) c has v i = absurd i
  head-length (head.Var w) c has v (inl e) = let (l, d) = label_of_var s w c (has w (inl refl)) in ap (length_of s) e ∙ ap length_in d
  head-length (head.Var w) c has v (inr i) = absurd i

  length_of-few : (ps : Patterns) → AreInClass ps → ((v : Var) → v ∈ variables_in ps → HasValue s v) → (v : Var) → v ∈ variables_in ps → length_of s v ≤ nodes (inst s ps)
  length_of-few no_pattern c has v i = absurd i
  length_of-few (node_first h below behind) c has v i =
      let inner = variables_in below ++ variables_in behind in
      ⊎_elim
      (λ j. omega (arith, head-length h c.0 (λ w k. has w (in_append_left (head_variables h) inner w k)) v j))
      (λ j.
      ⊎_elim
      (λ k. omega (arith, length_of-few below c.1 (λ w l. has w (in_append_right (head_variables h) inner w (in_append_left (variables_in below) (variables_in behind) w l))) v k))
      (λ k. omega (arith, length_of-few behind c.2 (λ w l. has w (in_append_right (head_variables h) inner w (in_append_right (variables_in below) (variables_in behind) w l))) v k))
      (from_append (variables_in below) (variables_in behind) v j))
      (from_append (head_variables h) inner v i)
  length_of-few (tree_var_first w behind) c has v i = ⊎_elim
      (λ e.
      let (t, d) = tree_of_var s w c.0 (has w (inl refl)) in
      let z : length_of s v ≡ 0 = ap (length_of s) e ∙ ap length_in d in
      omega arith)
      (λ j. omega (arith, nodes-append (tree_in (value_of s w)) (inst s behind), length_of-few behind c.1 (λ u k. has u (inr k)) v j))
      i
  length_of-few (forest_var_first w behind) c has v i = ⊎_elim
      (λ e.
      let (ts, d) = forest_of_var s w c.0 (has w (inl refl)) in
      let z : length_of s v ≡ length ts = ap (length_of s) e ∙ ap length_in d in
      let y : trees_in (value_of s w) ≡ ts = ap trees_in d in
      omega (arith, nodes-append (trees_in (value_of s w)) (inst s behind), ap nodes y, length-nodes ts))
      (λ j. omega (arith, nodes-append (trees_in (value_of s w)) (inst s behind), length_of-few behind c.1 (λ u k. has u (inr k)) v j))
      i

-- variables with numbers
abbrev number_of : List Var → List ℕ → Var → ℕ
number_of [] ns v = 0
number_of (w ∷ vs) [] v = 0
number_of (w ∷ vs) (n ∷ ns) v = if same_var w v then n else number_of vs ns v

number_of-map : (g : Var → ℕ) (vs : List Var) (v : Var) → (v ∈ vs) ⊎ (g v ≡ 0) → number_of vs (map g vs) v ≡ g v
number_of-map g [] v c = ⊎_elim (λ i. absurd i) (λ e. sym e) c
number_of-map g (w ∷ vs) v c = tested (same_var w v) refl c (number_of-map g vs v)
  where
    tested : (b : Bool) → same_var w v ≡ b → (v ∈ (w ∷ vs)) ⊎ (g v ≡ 0) → ((v ∈ vs) ⊎ (g v ≡ 0) → number_of vs (map g vs) v ≡ g v) → number_of (w ∷ vs) (map g (w ∷ vs)) v ≡ g v
    tested true e c behind = ap (λ b. if b then g w else number_of vs (map g vs) v) e ∙ ap g (same_var-true w v e)
    tested false e c behind =
        ap (λ b. if b then g w else number_of vs (map g vs) v) e ∙ behind (⊎_elim (⊎_elim (λ d. absurd (same_var-false w v e (sym d))) inl) inr c)

named_or_zero : (s : Substitution) (v : Var) → (v ∈ variables_of s) ⊎ (length_of s v ≡ 0)
named_or_zero [] v = inr refl
named_or_zero ((w, x) ∷ s) v = tested (same_var w v) refl (named_or_zero s v)
  where
    tested : (b : Bool) → same_var w v ≡ b → (v ∈ variables_of s) ⊎ (length_of s v ≡ 0) → (v ∈ (w ∷ variables_of s)) ⊎ (length_of ((w, x) ∷ s) v ≡ 0)
    tested true e behind = inl (inl (sym (same_var-true w v e)))
    tested false e behind = ⊎_elim (λ i. inl (inr i)) (λ z. inr (ap (λ b. length_in (if b then Some x else value_of s v)) e ∙ z)) behind

-- the values for each choice of lengths
abbrev pub candidates : Patterns → List Tree → List Substitution
candidates side ts = map (λ ns. values_from side (number_of (variables side) ns) ts) (sequences (length (variables side)) (up_to (nodes ts)))

pub is_candidate : (side : Patterns) → AreInClass side → (ts : List Tree) (s : Substitution) → IsMatch side ts s → s ∈ candidates side ts
is_candidate side c ts s m =
    let vs = variables side in
    let few : (v : Var) → v ∈ vs → length_of s v ∈ up_to (nodes ts) =
    (λ v i. in_up_to (nodes ts) (length_of s v) (omega (arith, ap nodes m.instance, length_of-few s side c (matched_value side ts s m) v (from_firsts (variables_in side) v i)))) in
    let w : map (length_of s) vs ∈ sequences (length vs) (up_to (nodes ts)) =
    in_sequences (up_to (nodes ts)) (map (length_of s) vs) (length vs) (length-map vs (length_of s)) (from_map (length_of s) vs (λ k. k ∈ up_to (nodes ts)) few) in
    let same : (v : Var) → number_of vs (map (length_of s) vs) v ≡ length_of s v =
    (λ v. number_of-map (length_of s) vs v (⊎_elim (λ i. inl (subst (λ us. v ∈ us) m.variables i)) inr (named_or_zero s v))) in
    let e : values_from side (number_of vs (map (length_of s) vs)) ts ≡ s = (λ i. values_from side (λ v. same v i) ts) ∙ sym (match-values side c ts s m) in
    subst (λ r. r ∈ candidates side ts) e (in_map (λ ns. values_from side (number_of vs ns) ts) (sequences (length vs) (up_to (nodes ts))) (map (length_of s) vs) w)
