-- A pattern before others, and the patterns from one place on.
use Rattle.std.proofs.Common.{◌≡◌, ℕ, ◌<◌, ◌≤◌, ◌+◌, length, List, [], ◌∷◌, ◌++◌, sym, refl, ap, ◌∙◌, subst, append_assoc, append-nil, drop, get_or, Global}
use Rattle.std.proofs.lemmas.List.{drop_more, drop_all}
use Rattle.qs_pattern.specs.declared.variable.Var.{Var}
use Rattle.std.specs.declared.vec.Vec.{Vec}
use Rattle.qs_tree.specs.Trees.{Tree as LabelledTree, node}
use Rattle.qs_pattern.specs.declared.pattern.Head.{Head}
use Rattle.qs_pattern.specs.declared.pattern.Pattern.{Pattern, Node, Node', Tree, Forest}
use Rattle.qs_pattern.proofs.PatternLemmas.{pattern-Node}
use Rattle.qs_pattern.specs.declared.subst.Value.{Value}
use Rattle.qs_pattern.specs.Patterns.{Patterns, no_pattern, pattern_before, patterns}
use Rattle.qs_pattern.specs.working.Patterns.{one_pattern}
use Rattle.qs_pattern.specs.Instances.{inst, label_of, IsCovered, tree_in, trees_in}
use Rattle.qs_pattern.specs.Patterns.{NoForestAtTop}
use Rattle.qs_pattern.specs.Substitutions.{value_of}

module _ (s : List (Var × Value)) where
  pub inst-pattern_before : (p : Pattern) (us : Patterns) → inst s (pattern_before p us) ≡ inst s (one_pattern p) ++ inst s us
  inst-pattern_before (Node' h shape kids) us = refl
  inst-pattern_before (Tree v) us = ap (λ ts. ts ++ inst s us) (sym (append-nil (tree_in (value_of s v))))
  inst-pattern_before (Forest v) us = ap (λ ts. ts ++ inst s us) (sym (append-nil (trees_in (value_of s v))))

  pub covered_parts : (p : Pattern) (us : Patterns) → IsCovered s (pattern_before p us) → IsCovered s (one_pattern p) × IsCovered s us
  covered_parts (Node' h shape kids) us c = ((c.0, c.1, tt), c.2)
  covered_parts (Tree v) us c = ((c.0, tt), c.1)
  covered_parts (Forest v) us c = ((c.0, tt), c.1)

  -- the pattern at a place of the list
  pub covered_at : (ps : List Pattern) (i : ℕ) (d : Pattern) → i < length ps → IsCovered s (patterns (drop i ps)) → IsCovered s (one_pattern (get_or ps i d)) × IsCovered s (patterns (drop (i + 1) ps))
  covered_at ps i d l c = covered_parts (get_or ps i d) (patterns (drop (i + 1) ps)) (subst (λ qs. IsCovered s (patterns qs)) (drop_more ps i d l) c)

  pub inst_at : (ps : List Pattern) (i : ℕ) (d : Pattern) → i < length ps → inst s (patterns (drop i ps)) ≡ inst s (one_pattern (get_or ps i d)) ++ inst s (patterns (drop (i + 1) ps))
  inst_at ps i d l = ap (λ qs. inst s (patterns qs)) (drop_more ps i d l) ∙ inst-pattern_before (get_or ps i d) (patterns (drop (i + 1) ps))

pub single_parts : (p : Pattern) (us : Patterns) → NoForestAtTop (pattern_before p us) → NoForestAtTop (one_pattern p) × NoForestAtTop us
single_parts (Node' h shape kids) us c = (tt, c)
single_parts (Tree v) us c = (tt, c)
single_parts (Forest v) us c = absurd c

module _ (s : List (Var × Value)) (ps : List Pattern) (i : ℕ) (x : Pattern) (l : i < length ps) (is : x ≡ get_or ps i x) where
  -- the loop over patterns goes one on
  pub covered_here : IsCovered s (patterns (drop i ps)) → IsCovered s (one_pattern x) × IsCovered s (patterns (drop (i + 1) ps))
  covered_here c = let p = covered_at s ps i x l c in (subst (λ y. IsCovered s (one_pattern y)) (sym is) p.0, p.1)

  pub single_here : NoForestAtTop (patterns (drop i ps)) → NoForestAtTop (one_pattern x) × NoForestAtTop (patterns (drop (i + 1) ps))
  single_here c =
      let p = single_parts (get_or ps i x) (patterns (drop (i + 1) ps)) (subst (λ qs. NoForestAtTop (patterns qs)) (drop_more ps i x l) c) in
      (subst (λ y. NoForestAtTop (one_pattern y)) (sym is) p.0, p.1)

  pub inst_more : (a b all : List LabelledTree) → b ≡ a ++ inst s (one_pattern x) → a ++ inst s (patterns (drop i ps)) ≡ all → b ++ inst s (patterns (drop (i + 1) ps)) ≡ all
  inst_more a b all e h =
      ap (λ ts. ts ++ inst s (patterns (drop (i + 1) ps))) e
      ∙ append_assoc a (inst s (one_pattern x)) (inst s (patterns (drop (i + 1) ps)))
      ∙ sym (ap (λ ts. a ++ ts) (inst_at s ps i x l ∙ ap (λ y. inst s (one_pattern y) ++ inst s (patterns (drop (i + 1) ps))) (sym is)))
      ∙ h

pub inst_done : (s : List (Var × Value)) (ps : List Pattern) (i : ℕ) (a all : List LabelledTree) → length ps ≤ i → a ++ inst s (patterns (drop i ps)) ≡ all → a ≡ all
inst_done s ps i a all l h = sym (append-nil a) ∙ ap (λ qs. a ++ inst s (patterns qs)) (sym (drop_all i ps l)) ∙ h

pub covered_kids : (s : List (Var × Value)) (h : Head) (ks : Vec Pattern Global) (p : Pattern) → p ≡ Node h ks → IsCovered s (one_pattern p) → IsCovered s (patterns ks.items)
covered_kids s h ks p e c = (subst (IsCovered s) (ap one_pattern e ∙ pattern-Node h ks no_pattern) c).1

pub inst-Node : (s : List (Var × Value)) (h : Head) (ks : Vec Pattern Global) (p : Pattern) → p ≡ Node h ks → inst s (one_pattern p) ≡ node (label_of s h) (inst s (patterns ks.items)) ∷ []
inst-Node s h ks p e = ap (inst s) (ap one_pattern e ∙ pattern-Node h ks no_pattern)
