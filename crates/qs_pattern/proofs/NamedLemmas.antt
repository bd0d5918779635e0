-- Labels that are among the first n, through matches and instances.
use Rattle.std.proofs.Common.{◌<◌, ℕ, List, [], ◌∷◌, ◌++◌, sym, subst, ⊎_elim, inl, inr, arith, refl}
use Rattle.qs_tree.specs.Lists.{◌∈◌}
use Rattle.qs_tree.specs.Trees.{Tree, forest}
use Rattle.qs_tree.specs.Text.{AreNamed, IsNamed}
use Rattle.qs_tree.proofs.Members.{in_append_left, in_append_right, from_append}
use Rattle.qs_pattern.specs.declared.variable.Var.{Var}
use Rattle.qs_pattern.specs.declared.pattern.Head.{Head}
use Rattle.qs_pattern.specs.declared.pattern.Head.TheVariants as head
use Rattle.qs_pattern.specs.Variables.{IsLabelVar, IsTreeVar, IsForestVar}
use Rattle.qs_pattern.specs.Patterns.{Patterns, no_pattern, node_first, tree_var_first, forest_var_first, head_variables, variables_in, IsHeadInClass, AreInClass}
use Rattle.qs_pattern.specs.Substitutions.{Substitution, value_of}
use Rattle.qs_pattern.specs.Instances.{inst, label_of, label_in, tree_in, trees_in, IsMatch}
use Rattle.qs_pattern.specs.Rules.{Rule, IsAccepted, variables_if_given}
use Rattle.qs_pattern.specs.Named.{IsHeadNamed, ArePatternsNamed}

module _ (n : ℕ) where
  -- each label in these trees is one of the first n
  abbrev AreTreesNamed : List Tree → Type 0
  AreTreesNamed [] = Unit {0}
  AreTreesNamed (t ∷ ts) = IsNamed n t × AreTreesNamed ts

  each_named : (ts : List Tree) → AreTreesNamed ts → (t : Tree) → t ∈ ts → IsNamed n t
  each_named [] h t i = absurd i
  each_named (u ∷ ts) h t (inl e) = subst (IsNamed n) (sym e) h.0
  each_named (u ∷ ts) h t (inr i) = each_named ts h.1 t i

  all_named : (ts : List Tree) → ((t : Tree) → t ∈ ts → IsNamed n t) → AreTreesNamed ts
  all_named [] h = tt
  all_named (t ∷ ts) h = (h t (inl refl), all_named ts (λ u i. h u (inr i)))

  -- as a list and as a forest
  named_forest : (ts : List Tree) → AreTreesNamed ts → AreNamed n (forest ts)
  named_forest [] h = tt
  named_forest (t ∷ ts) h = (h.0.0, h.0.1, named_forest ts h.1)

  forest_named : (ts : List Tree) → AreNamed n (forest ts) → AreTreesNamed ts
  forest_named [] h = tt
  forest_named (t ∷ ts) h = ((h.0, h.1), forest_named ts h.2)

  -- one list behind another
  named_both : (ts us : List Tree) → AreTreesNamed ts → AreTreesNamed us → AreTreesNamed (ts ++ us)
  named_both [] us g h = h
  named_both (t ∷ ts) us g h = (g.0, named_both ts us g.1 h)

  named_front : (ts us : List Tree) → AreTreesNamed (ts ++ us) → AreTreesNamed ts
  named_front [] us h = tt
  named_front (t ∷ ts) us h = (h.0, named_front ts us h.1)

  named_behind : (ts us : List Tree) → AreTreesNamed (ts ++ us) → AreTreesNamed us
  named_behind [] us h = h
  named_behind (t ∷ ts) us h = named_behind ts us h.1

  module _ (s : Substitution) where
    -- each label in what v stands for at a place of its class is one of the first n
    record IsKnown (v : Var) : Type 0 where
      label : IsLabelVar v → (label_in (value_of s v)).0 < n
      tree : IsTreeVar v → AreTreesNamed (tree_in (value_of s v))
      forest : IsForestVar v → AreTreesNamed (trees_in (value_of s v))

    known_label : (v : Var) → IsLabelVar v → (label_in (value_of s v)).0 < n → IsKnown v
    known_label v c h = record { label = λ _. h; tree = λ d. absurd (omega (arith, c, d)); forest = λ d. absurd (omega (arith, c, d)) }

    known_tree : (v : Var) → IsTreeVar v → AreTreesNamed (tree_in (value_of s v)) → IsKnown v
    known_tree v c h = record { label = λ d. absurd (omega (arith, c, d)); tree = λ _. h; forest = λ d. absurd (omega (arith, c, d)) }

    known_forest : (v : Var) → IsForestVar v → AreTreesNamed (trees_in (value_of s v)) → IsKnown v
    known_forest v c h = record { label = λ d. absurd (omega (arith, c, d)); tree = λ d. absurd (omega (arith, c, d)); forest = λ _. h }

    known_head : (h : Head) → IsHeadInClass h → (label_of s h).0 < n → (v : Var) → v ∈ head_variables h → IsKnown v
    known_head (head.Label l) c low v i = absurd i
    known_head (head.Var w) c low v (inl e) = subst IsKnown (sym e) (known_label w c low)
    known_head (head.Var w) c low v (inr i) = absurd i

    -- what patterns stand for has the labels of what their variables stand for
    known : (side : Patterns) → AreInClass side → AreTreesNamed (inst s side) → (v : Var) → v ∈ variables_in side → IsKnown v
    known no_pattern c h v i = absurd i
    known (node_first root kids behind) c h v i = ⊎_elim
        (known_head root c.0 h.0.0 v)
        (λ j. ⊎_elim
        (known kids c.1 (forest_named (inst s kids) h.0.1) v)
        (known behind c.2 h.1 v)
        (from_append (variables_in kids) (variables_in behind) v j))
        (from_append (head_variables root) (variables_in kids ++ variables_in behind) v i)
    known (tree_var_first w behind) c h v (inl e) = subst IsKnown (sym e) (known_tree w c.0 (named_front (tree_in (value_of s w)) (inst s behind) h))
    known (tree_var_first w behind) c h v (inr i) = known behind c.1 (named_behind (tree_in (value_of s w)) (inst s behind) h) v i
    known (forest_var_first w behind) c h v (inl e) = subst IsKnown (sym e) (known_forest w c.0 (named_front (trees_in (value_of s w)) (inst s behind) h))
    known (forest_var_first w behind) c h v (inr i) = known behind c.1 (named_behind (trees_in (value_of s w)) (inst s behind) h) v i

    -- and no others but those that are written in the patterns
    head_named : (h : Head) → IsHeadInClass h → IsHeadNamed n h → ((v : Var) → v ∈ head_variables h → IsKnown v) → (label_of s h).0 < n
    head_named (head.Label l) c h values = h
    head_named (head.Var v) c h values = (values v (inl refl)).label c

    inst_named : (side : Patterns) → AreInClass side → ArePatternsNamed n side → ((v : Var) → v ∈ variables_in side → IsKnown v) → AreTreesNamed (inst s side)
    inst_named no_pattern c h values = tt
    inst_named (node_first root kids behind) c h values =
        let inner = variables_in kids ++ variables_in behind in (
          (
            head_named root c.0 h.0 (λ v i. values v (in_append_left (head_variables root) inner v i)),
            named_forest (inst s kids) (inst_named kids c.1 h.1
                (λ v i. values v (in_append_right (head_variables root) inner v (in_append_left (variables_in kids) (variables_in behind) v i)))),
          ),
          inst_named behind c.2 h.2 (λ v i. values v (in_append_right (head_variables root) inner v (in_append_right (variables_in kids) (variables_in behind) v i))),
        )
    inst_named (tree_var_first w behind) c h values =
        named_both (tree_in (value_of s w)) (inst s behind) ((values w (inl refl)).tree c.0) (inst_named behind c.1 h (λ v i. values v (inr i)))
    inst_named (forest_var_first w behind) c h values =
        named_both (trees_in (value_of s w)) (inst s behind) ((values w (inl refl)).forest c.0) (inst_named behind c.1 h (λ v i. values v (inr i)))

  -- so the right side of a rule builds no other labels
  pub builds_named : (rule : Rule) → IsAccepted rule → ArePatternsNamed n rule.right → (ts : List Tree) (s : Substitution) → IsMatch rule.left ts s
      → ((t : Tree) → t ∈ ts → IsNamed n t) → (t : Tree) → t ∈ inst s rule.right → IsNamed n t
  builds_named rule ok right ts s match named =
      let matched : AreTreesNamed (inst s rule.left) = subst AreTreesNamed (sym match.instance) (all_named ts named) in
      each_named (inst s rule.right) (inst_named s rule.right ok.right.in_class right
      (λ v i. known s rule.left ok.left.in_class matched v
      (ok.bound v (in_append_left (variables_in rule.right) (variables_if_given rule.condition) v i))))
