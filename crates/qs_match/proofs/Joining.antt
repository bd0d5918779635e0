-- A list of patterns in two parts, each with its own trees.
use Rattle.std.proofs.Common.{◌≡◌, ℕ, ◌+◌, ◌-◌, ◌<◌, ◌≤◌, List, [], ◌∷◌, ◌++◌, length, take, drop, get_or, refl, sym, ap, ◌∙◌, subst, arith, append_assoc}
use Rattle.std.proofs.lemmas.List.{append_cancel_left, take-append-drop, map-append, length-map, length-take-le, drop_more, drop_all, take_all, length-drop}
use Rattle.qs_tree.specs.Trees.{Tree, node}
use Rattle.qs_tree.specs.Cells.{tree_of}
use Rattle.qs_tree.specs.declared.borrowed.TreeRef.{TreeRef}
use Rattle.qs_pattern.specs.declared.variable.Var.{Var}
use Rattle.qs_pattern.specs.declared.pattern.Head.TheVariants as head
use Rattle.qs_pattern.specs.declared.pattern.Pattern.{Pattern, Node', Forest}
use Rattle.qs_pattern.specs.declared.pattern.Pattern.TheVariants as pattern
use Rattle.qs_pattern.specs.Patterns.{Patterns, no_pattern, node_first, tree_var_first, forest_var_first, patterns, row_patterns, count, AreInClass, NoForestAtTop}
use Rattle.qs_pattern.specs.Substitutions.{Substitution, value_of}
use Rattle.qs_pattern.specs.Instances.{inst, label_of, tree_in, trees_in}
use Rattle.qs_pattern.proofs.PatternLemmas.{behind, count-patterns}
use Rattle.qs_match.specs.Apart.{trees_apart}
use Rattle.qs_match.specs.working.Counts.{singles}
use Rattle.qs_match.specs.working.Tasks.{Tasks, task_variables, variables_before, Extends, Solves, Appends}
use Rattle.qs_match.proofs.Covered.{fits}
use Rattle.qs_match.proofs.Fronts.{same_front}
use Rattle.qs_match.proofs.Listed.{appends_same}

-- ---- one part behind the other

variables-behind : (a b : Patterns) (vs : List Var) → variables_before (behind a b) vs ≡ variables_before a (variables_before b vs)
variables-behind no_pattern b vs = refl
variables-behind (node_first (head.Label l) ks a) b vs = ap (variables_before ks) (variables-behind a b vs)
variables-behind (node_first (head.Var v) ks a) b vs = ap (λ us. v ∷ variables_before ks us) (variables-behind a b vs)
variables-behind (tree_var_first v a) b vs = ap (λ us. v ∷ us) (variables-behind a b vs)
variables-behind (forest_var_first v a) b vs = ap (λ us. v ∷ us) (variables-behind a b vs)

inst-behind : (s : Substitution) (a b : Patterns) → inst s (behind a b) ≡ inst s a ++ inst s b
inst-behind s no_pattern b = refl
inst-behind s (node_first h ks a) b = ap (λ ts. node (label_of s h) (inst s ks) ∷ ts) (inst-behind s a b)
inst-behind s (tree_var_first v a) b =
    ap (λ ts. tree_in (value_of s v) ++ ts) (inst-behind s a b) ∙ sym (append_assoc (tree_in (value_of s v)) (inst s a) (inst s b))
inst-behind s (forest_var_first v a) b =
    ap (λ ts. trees_in (value_of s v) ++ ts) (inst-behind s a b) ∙ sym (append_assoc (trees_in (value_of s v)) (inst s a) (inst s b))

all_singles : (a : Patterns) → NoForestAtTop a → singles a ≡ count a
all_singles no_pattern n = refl
all_singles (node_first h ks a) n = omega (arith, all_singles a n)
all_singles (tree_var_first v a) n = omega (arith, all_singles a n)
all_singles (forest_var_first v a) n = absurd n

-- ---- two tasks for one

module _ (W : Tasks) (s : Substitution) (a b : Patterns) (ts us : List Tree) (c : AreInClass a) (n : NoForestAtTop a) (long : length ts ≡ count a) where
  in_two : (r : Substitution) → Solves ((behind a b, ts ++ us) ∷ W) s r → Solves ((a, ts) ∷ (b, us) ∷ W) s r
  in_two r z =
      let vs = task_variables W in
      let e : Extends (variables_before a (variables_before b vs)) s r = subst (λ ws. Extends ws s r) (variables-behind a b vs) z.extends in
      let joined : inst r a ++ inst r b ≡ ts ++ us = sym (inst-behind r a b) ∙ z.fits.0 in
      let as_many : length (inst r a) ≡ length ts =
      sym ((fits a (variables_before b vs) s r c e).exact n) ∙ all_singles a n ∙ sym long in
      let first : inst r a ≡ ts = same_front (inst r a) ts (inst r b) us as_many joined in
      record { extends = e; fits = (first, (append_cancel_left ts (inst r b) us (ap (λ xs. xs ++ inst r b) (sym first) ∙ joined), z.fits.1)) }

  in_one : (r : Substitution) → Solves ((a, ts) ∷ (b, us) ∷ W) s r → Solves ((behind a b, ts ++ us) ∷ W) s r
  in_one r z =
      let vs = task_variables W in
      record {
        extends = subst (λ ws. Extends ws s r) (sym (variables-behind a b vs)) z.extends;
        fits = (inst-behind r a b ∙ ap (λ xs. xs ++ inst r b) z.fits.0 ∙ ap (λ xs. ts ++ xs) z.fits.1.0, z.fits.1.1);
      }

  pub appends_joined : (old new : List Substitution) → Appends ((a, ts) ∷ (b, us) ∷ W) s old new → Appends ((behind a b, ts ++ us) ∷ W) s old new
  appends_joined old new x = appends_same in_one in_two x

-- ---- a list of patterns, cut at a place

pub patterns-append : (ps qs : List Pattern) → patterns (ps ++ qs) ≡ behind (patterns ps) (patterns qs)
patterns-append [] qs = refl
patterns-append (Node' h shape ks ∷ ps) qs = ap (node_first h (row_patterns ks)) (patterns-append ps qs)
patterns-append (pattern.Tree v ∷ ps) qs = ap (tree_var_first v) (patterns-append ps qs)
patterns-append (Forest v ∷ ps) qs = ap (forest_var_first v) (patterns-append ps qs)

class_parts : (a b : Patterns) → AreInClass (behind a b) → AreInClass a × AreInClass b
class_parts no_pattern b c = (tt, c)
class_parts (node_first h ks a) b c = let d = class_parts a b c.2 in ((c.0, c.1, d.0), d.1)
class_parts (tree_var_first v a) b c = let d = class_parts a b c.1 in ((c.0, d.0), d.1)
class_parts (forest_var_first v a) b c = let d = class_parts a b c.1 in ((c.0, d.0), d.1)

single_parts : (a b : Patterns) → NoForestAtTop (behind a b) → NoForestAtTop a
single_parts no_pattern b n = tt
single_parts (node_first h ks a) b n = single_parts a b n
single_parts (tree_var_first v a) b n = single_parts a b n
single_parts (forest_var_first v a) b n = absurd n

module _ (side : List Pattern) (refs : List TreeRef) (k : ℕ) (as_many : length refs ≡ length side) (within : k ≤ length side) where
  cut_side : patterns side ≡ behind (patterns (take k side)) (patterns (drop k side))
  cut_side = ap patterns (sym (take-append-drop k side)) ∙ patterns-append (take k side) (drop k side)

  cut_trees : trees_apart refs ≡ trees_apart (take k refs) ++ trees_apart (drop k refs)
  cut_trees = ap trees_apart (sym (take-append-drop k refs)) ∙ map-append _ (take k refs) (drop k refs)

  pub front_in_class : AreInClass (patterns side) → AreInClass (patterns (take k side)) × AreInClass (patterns (drop k side))
  front_in_class c = class_parts (patterns (take k side)) (patterns (drop k side)) (subst AreInClass cut_side c)

  pub front_singles : NoForestAtTop (patterns side) → NoForestAtTop (patterns (take k side))
  front_singles n = single_parts (patterns (take k side)) (patterns (drop k side)) (subst NoForestAtTop cut_side n)

  pub cut_appends : (W N : Tasks) (s : Substitution) (behind_cut : List Pattern) (us : List Tree) (old new : List Substitution) → AreInClass (patterns side) → NoForestAtTop (patterns side) → us ≡ trees_apart (drop k refs)
      → behind_cut ≡ drop k side → N ≡ (patterns behind_cut, us) ∷ W → Appends ((patterns (take k side), trees_apart (take k refs)) ∷ N) s old new → Appends ((patterns side, trees_apart refs) ∷ W) s old new
  cut_appends W N s behind_cut us old new c n is cut tasks x =
      let long : length (trees_apart (take k refs)) ≡ count (patterns (take k side)) =
      omega (arith, as_many, within, length-map (take k refs) (λ t. tree_of t.cells.now), length-take-le k refs (omega arith), length-take-le k side within, count-patterns (take k side)) in
      let y : Appends ((patterns (take k side), trees_apart (take k refs)) ∷ (patterns (drop k side), us) ∷ W) s old new = rw (tasks, cut) at x in
      let z = appends_joined W s (patterns (take k side)) (patterns (drop k side)) (trees_apart (take k refs)) us (front_in_class c).0 (front_singles n) long old new y in
      let t : trees_apart refs ≡ trees_apart (take k refs) ++ us = cut_trees ∙ ap (λ xs. trees_apart (take k refs) ++ xs) (sym is) in
      rw (cut_side, t) z

-- all that is behind a place
pub all_behind : (side : List Pattern) (k : ℕ) → take (length side - k) (drop k side) ≡ drop k side
all_behind side k = take_all (length side - k) (drop k side) (omega (arith, length-drop k side))

-- the last tree alone
pub last_tree : (refs : List TreeRef) (k : ℕ) (ref : TreeRef) → k < length refs → length refs ≤ k + 1 → ref ≡ get_or refs k ref → (us : List Tree) → us ≡ tree_of ref.cells.now ∷ [] → us ≡ trees_apart (drop k refs)
last_tree refs k ref low high is us e =
    e ∙ ap trees_apart (ap (λ r. r ∷ []) is ∙ ap (λ rs. get_or refs k ref ∷ rs) (sym (drop_all (k + 1) refs high)) ∙ sym (drop_more refs k ref low))
