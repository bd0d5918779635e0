-- Cleaning makes no arcs and no nodes, and no other trees.
use Rattle.std.proofs.Common.{◌≡◌, ℕ, suc, ◌+◌, ◌<◌, ◌≤◌, List, [], ◌∷◌, length, slice_get, Option, Some, None, refl, sym, ap, subst, inl, inr, ⊎_elim, arith}
use Rattle.std.specs.List.{cons_option}
use Rattle.std.proofs.lemmas.List.{length-map}
use Rattle.qs_tree.specs.Lists.{◌∈◌, Ascends}
use Rattle.qs_graph.specs.Graphs.{Arc, QGraph, IsNode, IsValid, arcs_at}
use Rattle.qs_tree.proofs.Members.{in_at, mapped}
use Rattle.qs_canon.specs.Rounds.{Stage}
use Rattle.qs_clean.specs.Cleaning.{Cleans, renumbered}
use Rattle.qs_clean.proofs.ArcLists.{in_arcs_at}
use Rattle.qs_graph.proofs.Paths.{leads_low}

-- so many numbers fit between two
ascend_fit : (low high : ℕ) (ns : List ℕ) → Ascends ◌<◌ ns → low ≤ high → ((n : ℕ) → n ∈ ns → (low ≤ n) × (n < high)) → low + length ns ≤ high
ascend_fit low high [] a l within = omega arith
ascend_fit low high (n ∷ ns) a l within =
    let here = within n (inl refl) in
    omega (arith, here, ascend_fit (n + 1) high ns a.1 (omega (arith, here)) (λ m i. (omega (arith, a.0 m i), (within m (inr i)).1)))

length-arcs_at : (arcs : List Arc) (ks : List ℕ) → length (arcs_at arcs ks) ≤ length ks
length-arcs_at arcs [] = omega arith
length-arcs_at arcs (k ∷ ks) = by (slice_get arcs k) (length-arcs_at arcs ks)
  where
    by : (o : Option Arc) → length (arcs_at arcs ks) ≤ length ks → length (cons_option o (arcs_at arcs ks)) ≤ suc (length ks)
    by None h = omega arith
    by (Some arc) h = omega arith

module _ (S : Stage) (H : QGraph) (cleans : Cleans S H) where
  kept_within : (k : ℕ) → k ∈ cleans.kept → (0 ≤ k) × (k < length S.graph.arcs)
  kept_within k i =
      let s = (cleans.kept_are k).0 i in
      (omega arith, leads_low S.graph.arcs s.entry s.path s.exit s.leads.leads k s.on)

  pub fewer_arcs : length H.arcs ≤ length S.graph.arcs
  fewer_arcs = omega (
    arith,
    ap length cleans.arcs,
    length-map (arcs_at S.graph.arcs cleans.kept) (renumbered cleans.left),
    length-arcs_at S.graph.arcs cleans.kept,
    ascend_fit 0 (length S.graph.arcs) cleans.kept cleans.kept_ascend (omega arith) kept_within,
  )

  -- what stands on an arc that is left stood on one before
  pub old_tree : (arc : Arc) → arc ∈ H.arcs → (was : Arc) × (was ∈ S.graph.arcs) × (arc.tree ≡ was.tree)
  old_tree arc i =
      let (was, j, e) = mapped (renumbered cleans.left) (arcs_at S.graph.arcs cleans.kept) arc (subst (λ (arcs : List Arc). arc ∈ arcs) cleans.arcs i) in
      let (k, m, is) = in_arcs_at S.graph.arcs cleans.kept was j in
      (was, in_at S.graph.arcs k was is, ap (λ (x : Arc). x.tree) e)

  module _ (valid : IsValid S.graph) where
    left_within : (n : ℕ) → n ∈ cleans.left → (1 ≤ n) × (n < S.graph.nodes + 1)
    left_within n i =
        let (arc, j, c) = (cleans.left_are n).0 i in
        let (k, m, is) = in_arcs_at S.graph.arcs cleans.kept arc j in
        let ends = valid.in_range arc (in_at S.graph.arcs k arc is) in
        let node : IsNode S.graph n = ⊎_elim (λ e. subst (IsNode S.graph) (sym e) ends.0) (λ e. subst (IsNode S.graph) (sym e) ends.1) c in
        (node.0, omega (arith, node.1))

    pub fewer_nodes : H.nodes ≤ S.graph.nodes
    fewer_nodes = omega (arith, cleans.nodes, ascend_fit 1 (S.graph.nodes + 1) cleans.left cleans.left_ascend (omega arith) left_within)
