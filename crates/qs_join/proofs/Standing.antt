-- Which arcs can be at a place of a path: those for whose trees the pattern there can stand.
use Rattle.std.proofs.Common.{◌≡◌, ℕ, zero, suc, ◌<◌, ◌≤◌, List, [], ◌∷◌, ◌++◌, length, map, take, Option, Some, None, slice_get, get_or, refl, sym, ap, ◌∙◌, subst, arith}
use Rattle.std.specs.List.{cons_option}
use Rattle.std.proofs.lemmas.List.{take_all}
use Rattle.std.proofs.lemmas.Option.{slice_get_within}
use Rattle.qs_tree.specs.Trees.{Tree, node}
use Rattle.qs_pattern.specs.declared.pattern.Pattern.{Pattern, Node', Forest}
use Rattle.qs_pattern.specs.declared.pattern.Pattern.TheVariants as pattern
use Rattle.qs_pattern.specs.declared.subst.Value.{Value}
use Rattle.qs_pattern.specs.declared.subst.Value.TheVariants as value
use Rattle.qs_pattern.specs.Patterns.{patterns, row_patterns, NoForestAtTop}
use Rattle.qs_pattern.specs.Substitutions.{Substitution, value_of}
use Rattle.qs_pattern.specs.Instances.{inst, label_of, tree_in, IsTree, IsCovered}
use Rattle.qs_pattern.specs.Rules.{Rule, IsAccepted}
use Rattle.qs_pattern.proofs.Covering.{all_covered}
use Rattle.qs_match.specs.Fitting.{NeverStandsFor}
use Rattle.qs_pattern.proofs.MatchLemmas.{matched_value}
use Rattle.qs_graph.specs.Graphs.{Arc, Leads, arcs_at, trees_on}
use Rattle.qs_firing.specs.Firings.{Firing}
use Rattle.qs_join.specs.working.Searching.{FiresBy}
use Rattle.qs_join.proofs.Roots.{tree_on}

-- a list around one of its places
around : (ks : List ℕ) (place k : ℕ) → slice_get ks place ≡ Some k → (front : List ℕ) × (rest : List ℕ) × (ks ≡ front ++ (k ∷ rest)) × (length front ≡ place)
around [] place k e = absurd cc
around (j ∷ ks) zero k e = let same : j ≡ k = cc in ([], ks, ap (λ i. i ∷ ks) same, refl)
around (j ∷ ks) (suc place) k e =
    let (front, rest, is, long) = around ks place k e in
    (j ∷ front, rest, ap (λ is. j ∷ is) is, ap suc long)

-- one pattern of a side that has no forest variable at its top stands for one of the trees
one_value : (o : Option Value) → IsTree o → (t : Tree) × (o ≡ Some (value.Tree t))
one_value None i = absurd i
one_value (Some (value.Label l)) i = absurd i
one_value (Some (value.Tree t)) i = (t, refl)
one_value (Some (value.Forest ts)) i = absurd i

module _ (s : Substitution) where
  pub one_stands : (side : List Pattern) → NoForestAtTop (patterns side) → IsCovered s (patterns side) → (place : ℕ) (p : Pattern) (t : Tree) → slice_get side place ≡ Some p → slice_get (inst s (patterns side)) place ≡ Some t
      → IsCovered s (patterns (p ∷ [])) × (inst s (patterns (p ∷ [])) ≡ t ∷ [])
  one_stands [] n c place p t at tree = absurd cc
  one_stands (Node' h shape ks ∷ side) n c zero p t at tree =
      let same : Node' h shape ks ≡ p = cc in
      let is : node (label_of s h) (inst s (row_patterns ks)) ≡ t = cc in
      subst (λ (q : Pattern). IsCovered s (patterns (q ∷ [])) × (inst s (patterns (q ∷ [])) ≡ t ∷ [])) same ((c.0, c.1, tt), ap (λ u. u ∷ []) is)
  one_stands (Node' h shape ks ∷ side) n c (suc place) p t at tree = one_stands side n c.2 place p t at tree
  one_stands (pattern.Tree v ∷ side) n c zero p t at tree =
      let same : pattern.Tree v ≡ p = cc in
      let (u, e) = one_value (value_of s v) c.0 in
      let first : slice_get (u ∷ inst s (patterns side)) 0 ≡ Some t = ap (λ o. slice_get (tree_in o ++ inst s (patterns side)) 0) (sym e) ∙ tree in
      let is : u ≡ t = cc in
      subst (λ (q : Pattern). IsCovered s (patterns (q ∷ [])) × (inst s (patterns (q ∷ [])) ≡ t ∷ [])) same ((c.0, tt), ap (λ o. tree_in o ++ []) e ∙ ap (λ w. w ∷ []) is)
  one_stands (pattern.Tree v ∷ side) n c (suc place) p t at tree =
      let (u, e) = one_value (value_of s v) c.0 in
      one_stands side n c.1 place p t at (ap (λ o. slice_get (tree_in o ++ inst s (patterns side)) (suc place)) (sym e) ∙ tree)
  one_stands (Forest v ∷ side) n c place p t at tree = absurd n

-- the pattern at a place of a firing's path stands for the tree on the arc there
pub stands_at : (number : ℕ) (rule : Rule) (arcs : List Arc) (side : List Pattern) (place k : ℕ) (p : Pattern) (arc : Arc) → IsAccepted rule → patterns side ≡ rule.left → slice_get side place ≡ Some p → slice_get arcs k ≡ Some arc
    → (f : Firing) → FiresBy number rule arcs f → slice_get f.path place ≡ Some k → NeverStandsFor (patterns (p ∷ [])) (arc.tree ∷ []) → ⊥
stands_at number rule arcs side place k p arc ok left at is f by there never =
    let (front, rest, e, long) = around f.path place k there in
    let tree : slice_get (trees_on arcs f.path) place ≡ Some arc.tree =
    ap (λ n. slice_get (trees_on arcs f.path) n) (sym long) ∙ ap (λ ks. slice_get (trees_on arcs ks) (length front)) e ∙ tree_on arcs by.from by.to front k rest arc (subst (λ (ks : List ℕ). Leads arcs by.from ks by.to) e by.path.leads) is in
    let covered : IsCovered f.values rule.left = all_covered f.values rule.left ok.left.in_class (matched_value rule.left (trees_on arcs f.path) f.values by.matches) in
    let one = one_stands f.values side (subst NoForestAtTop (sym left) ok.left.no_forest_at_top) (subst (IsCovered f.values) (sym left) covered) place p arc.tree at
    (ap (λ ps. slice_get (inst f.values ps) place) left ∙ ap (λ ts. slice_get ts place) by.matches.instance ∙ tree) in
    never f.values one.0 one.1

-- each number on a path is that of an arc
pub is_arc : (arcs : List Arc) (a b : ℕ) (path : List ℕ) (i : ℕ) → Leads arcs a path b → i < length path → get_or path i 0 < length arcs
is_arc arcs a b [] i l h = absurd (omega arith)
is_arc arcs a b (k ∷ ks) zero (arc, at, f, l) h = slice_get_within arcs k arc at
is_arc arcs a b (k ∷ ks) (suc i) (arc, at, f, l) h = is_arc arcs arc.to b ks i l (omega arith)

-- matches of the whole path are those of the trees that lie apart
pub whole : (arcs : List Arc) (path : List ℕ) (i : ℕ) (ts : List Tree) → length path ≤ i → ts ≡ trees_on arcs (take i path) → ts ≡ trees_on arcs path
whole arcs path i ts h e = e ∙ ap (trees_on arcs) (take_all i path h)

-- as many trees lie on a path as it has arcs
pub length-trees : (arcs : List Arc) (a b : ℕ) (path : List ℕ) → Leads arcs a path b → length (trees_on arcs path) ≡ length path
length-trees arcs a b [] l = refl
length-trees arcs a b (k ∷ ks) (arc, at, f, l) =
    ap (λ o. length (map (λ (x : Arc). x.tree) (cons_option o (arcs_at arcs ks)))) at ∙ ap suc (length-trees arcs arc.to b ks l)
