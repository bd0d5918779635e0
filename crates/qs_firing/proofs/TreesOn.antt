-- The trees on one arc more.
use Rattle.std.proofs.Common.{◌≡◌, ℕ, ◌+◌, ◌<◌, List, [], ◌∷◌, ◌++◌, length, take, get_or, map, Some, None, append-nil, sym, ◌∙◌, ap}
use Rattle.std.specs.Prelude.{slice_get}
use Rattle.std.specs.List.{cons_option}
use Rattle.std.proofs.lemmas.List.{take_more, map-append}
use Rattle.std.proofs.lemmas.List.Elements.{filter_map-append}
use Rattle.qs_tree.specs.Trees.{Tree}
use Rattle.qs_graph.specs.Graphs.{Arc, arcs_at, trees_on}

abbrev tree_of_arc : Arc → Tree
tree_of_arc arc = arc.tree

trees_on-more : (arcs : List Arc) (ks : List ℕ) (i : ℕ) → i < length ks
    → trees_on arcs (take (i + 1) ks) ≡ trees_on arcs (take i ks) ++ map tree_of_arc (cons_option (slice_get arcs (get_or ks i 0)) [])
trees_on-more arcs ks i h =
    ap (trees_on arcs) (take_more ks i 0 h)
    ∙ ap (map tree_of_arc) (filter_map-append (slice_get arcs) (take i ks) (get_or ks i 0 ∷ []))
    ∙ map-append tree_of_arc (arcs_at arcs (take i ks)) (cons_option (slice_get arcs (get_or ks i 0)) [])

module _ (arcs : List Arc) (ks : List ℕ) (i : ℕ) (h : i < length ks) (trees : List Tree) (before : trees ≡ trees_on arcs (take i ks)) where
  -- there is such an arc
  pub one_tree_more : (arc : Arc) (more : List Tree) → slice_get arcs (get_or ks i 0) ≡ Some arc → more ≡ trees ++ arc.tree ∷ [] → more ≡ trees_on arcs (take (i + 1) ks)
  one_tree_more arc more at is =
      rw (trees_on-more arcs ks i h, at) (is ∙ ap (λ ts. ts ++ arc.tree ∷ []) before)

  -- there is none
  pub no_tree_more : slice_get arcs (get_or ks i 0) ≡ None → trees ≡ trees_on arcs (take (i + 1) ks)
  no_tree_more at = rw (trees_on-more arcs ks i h, at) (before ∙ sym (append-nil (trees_on arcs (take i ks))))
