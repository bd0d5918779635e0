-- Chains that are the arcs of a valid graph make this graph.
use Rattle.std.proofs.Common.{◌≡◌, ◌↔◌, ℕ, zero, suc, ◌+◌, ◌-◌, ◌<◌, ◌≤◌, true, false, refl, sym, ap, ◌∙◌, subst, inl, inr, ⊎_elim, List, [], ◌∷◌, ◌++◌, length, get_or, arith, append_assoc, append-nil}
use Rattle.std.specs.Prelude.{nat_le, Contains}
use Rattle.std.specs.List.{flat_map, filter}
use Rattle.std.specs.List.Sorted.{IsStrictlyIncreasing}
use Rattle.std.proofs.lemmas.Bool.Decides.{nat_tests}
use Rattle.qs_tree.specs.Lists.{◌∈◌}
use Rattle.qs_tree.proofs.Members.{in_flat_map}
use Rattle.qs_graph.specs.Graphs.{Arc, QGraph, IsNode, IsValid}
use Rattle.qs_graph.specs.Chains.{with_chain}
use Rattle.qs_graphtext.specs.WrittenChains.{WrittenChain}
use Rattle.qs_graphtext.specs.GraphOfChains.{numbers_in, different, dense, with_chains, graph_of}
use Rattle.qs_graphtext.specs.ChainsOfArcs.{AreChainsOf}
use Rattle.qs_graphtext.proofs.GraphsOfChains.{member_contains}
use Rattle.qs_graphtext.proofs.Numbering.{all_different, dense_is, count_from_point}
use Rattle.qs_graphtext.proofs.NodesOnArcs.{IsOnArc, on_arc}

-- so many numbers from the first one on, in order
abbrev counted : ℕ → ℕ → List ℕ
counted first zero = []
counted first (suc n) = first ∷ counted (suc first) n

length-counted : (first n : ℕ) → length (counted first n) ≡ n
length-counted first zero = refl
length-counted first (suc n) = ap suc (length-counted (suc first) n)

at_counted : (first n k d : ℕ) → k < n → get_or (counted first n) k d ≡ first + k
at_counted first zero k d l = absurd (omega (arith, l))
at_counted first (suc n) zero d l = omega arith
at_counted first (suc n) (suc k) d l = omega (arith, at_counted (suc first) n k d (omega (arith, l)))

counted_rises : (n : ℕ) → IsStrictlyIncreasing (counted 1 n)
counted_rises n k l =
    let within : k + 1 < n = omega (arith, l, length-counted 1 n) in
    omega (arith, at_counted 1 n k 0 (omega (arith, within)), at_counted 1 n (k + 1) 0 within)

to_counted : (n m : ℕ) → 1 ≤ m → m ≤ n → Contains (counted 1 n) m
to_counted n zero low high = absurd (omega (arith, low))
to_counted n (suc m) low high = (m, omega (arith, high, length-counted 1 n), omega (arith, at_counted 1 n m (suc m) (omega (arith, high))))

from_counted : (n m : ℕ) → Contains (counted 1 n) m → (1 ≤ m) × (m ≤ n)
from_counted n m c =
    let within : c.0 < n = omega (arith, c.1, length-counted 1 n) in
    let is : get_or (counted 1 n) c.0 m ≡ 1 + c.0 = at_counted 1 n c.0 m within in
    (omega (arith, is, c.2), omega (arith, is, c.2, within))

is_at_most : (m n : ℕ) → m ≤ n → nat_le m n ≡ true
is_at_most m n l = grind (arith, nat_tests)

is_more : (m n : ℕ) → n < m → nat_le m n ≡ false
is_more m n l = grind (arith, nat_tests)

-- n of them are at most n
count_counted : (n m : ℕ) → m ≤ n → length (filter (λ k. nat_le k m) (counted 1 n)) ≡ m
count_counted n m high =
    sym (count_from_point (λ k. nat_le k m) (counted 1 n) m (omega (arith, high, length-counted 1 n)) (
      λ k d low l. is_at_most (get_or (counted 1 n) k d) m (omega (arith, l, at_counted 1 n k d (omega (arith, l, high)))),
      λ k d low l. is_more (get_or (counted 1 n) k d) m (omega (arith, low, at_counted 1 n k d (omega (arith, l, length-counted 1 n)))),
    ))

-- the nodes of arcs, in order
abbrev ends_of : List Arc → List ℕ
ends_of arcs = flat_map (λ arc. arc.from ∷ arc.to ∷ []) arcs

numbers_are : (arcs : List Arc) (chains : List WrittenChain) → AreChainsOf arcs chains → numbers_in chains ≡ ends_of arcs
numbers_are [] [] are = refl
numbers_are [] (chain ∷ chains) are = absurd are
numbers_are (arc ∷ arcs) [] are = absurd are
numbers_are (arc ∷ arcs) (chain ∷ chains) are =
    ap (λ n. n ∷ chain.to ∷ numbers_in chains) are.0.from
    ∙ ap (λ n. arc.from ∷ n ∷ numbers_in chains) are.0.to
    ∙ ap (λ ns. arc.from ∷ arc.to ∷ ns) (numbers_are arcs chains are.1)

from_ends : (arcs : List Arc) (n : ℕ) → n ∈ ends_of arcs → IsOnArc arcs n
from_ends [] n i = absurd i
from_ends (arc ∷ arcs) n (inl e) = (arc, inl refl, inl (sym e))
from_ends (arc ∷ arcs) n (inr (inl e)) = (arc, inl refl, inr (sym e))
from_ends (arc ∷ arcs) n (inr (inr i)) = let (other, j, e) = from_ends arcs n i in (other, inr j, e)

to_ends : (arcs : List Arc) (n : ℕ) → IsOnArc arcs n → n ∈ ends_of arcs
to_ends arcs n on =
    in_flat_map (λ (arc : Arc). arc.from ∷ arc.to ∷ []) arcs on.0 n on.1 (⊎_elim (λ e. inl (sym e)) (λ e. inr (inl (sym e))) on.2)

contains_member : (ns : List ℕ) (n k : ℕ) → k < length ns → get_or ns k n ≡ n → n ∈ ns
contains_member [] n k l e = absurd (omega (arith, l))
contains_member (m ∷ ns) n zero l e = inl (sym e)
contains_member (m ∷ ns) n (suc k) l e = inr (contains_member ns n k (omega (arith, l)) e)

-- chains of arcs put these behind the others, where the new numbers of their nodes are the old ones
with_arcs : (number : ℕ → ℕ) (G : QGraph) (arcs : List Arc) (chains : List WrittenChain) → AreChainsOf arcs chains → ((n : ℕ) → IsOnArc arcs n → number n ≡ n)
    → with_chains number G chains ≡ record { nodes = G.nodes; arcs = G.arcs ++ arcs }
with_arcs number G [] [] are same = ap (λ xs. record { nodes = G.nodes; arcs = xs }) (sym (append-nil G.arcs))
with_arcs number G [] (chain ∷ chains) are same = absurd are
with_arcs number G (arc ∷ arcs) [] are same = absurd are
with_arcs number G (arc ∷ arcs) (chain ∷ chains) are same =
    ap (λ H. with_chains number H chains) one
    ∙ with_arcs number (record { nodes = G.nodes; arcs = G.arcs ++ arc ∷ [] }) arcs chains are.1 (λ n on. same n (on.0, inr on.1, on.2))
    ∙ ap (λ xs. record { nodes = G.nodes; arcs = xs }) (append_assoc G.arcs (arc ∷ []) arcs)
  where
    no_more : G.nodes + (1 - 1) ≡ G.nodes
    no_more = omega arith

    one : with_chain G (number chain.from) chain.trees (number chain.to) ≡ record { nodes = G.nodes; arcs = G.arcs ++ arc ∷ [] }
    one =
        ap (λ ts. with_chain G (number chain.from) ts (number chain.to)) are.0.trees
        ∙ ap (λ n. with_chain G n (arc.tree ∷ []) (number chain.to)) (ap number are.0.from ∙ same arc.from (arc, inl refl, inl refl))
        ∙ ap (λ n. with_chain G arc.from (arc.tree ∷ []) n) (ap number are.0.to ∙ same arc.to (arc, inl refl, inr refl))
        ∙ ap (λ n. record { nodes = n; arcs = G.arcs ++ arc ∷ [] }) no_more

module _ (G : QGraph) (valid : IsValid G) (chains : List WrittenChain) (are : AreChainsOf G.arcs chains) where
  -- the written numbers are those of the nodes
  same : (n : ℕ) → Contains (counted 1 G.nodes) n ↔ Contains (numbers_in chains) n
  same n = (
    λ c. subst (λ ns. Contains ns n) (sym (numbers_are G.arcs chains are)) (member_contains (ends_of G.arcs) n (to_ends G.arcs n (on_arc G valid n (from_counted G.nodes n c)))),
    λ c. of_arc n (from_ends G.arcs n (subst (λ ns. n ∈ ns) (numbers_are G.arcs chains are) (contains_member (numbers_in chains) n c.0 c.1 c.2))),
  )
    where
      of_arc : (m : ℕ) → IsOnArc G.arcs m → Contains (counted 1 G.nodes) m
      of_arc m on =
          let ends = valid.in_range on.0 on.1 in
          let node : IsNode G m = ⊎_elim (λ e. subst (λ k. IsNode G k) e ends.0) (λ e. subst (λ k. IsNode G k) e ends.1) on.2 in
          to_counted G.nodes m node.0 node.1

  -- so each keeps its number
  keeps : (n : ℕ) → IsOnArc G.arcs n → dense (numbers_in chains) n ≡ n
  keeps n on =
      let ends = valid.in_range on.0 on.1 in
      let node : IsNode G n = ⊎_elim (λ e. subst (λ k. IsNode G k) e ends.0) (λ e. subst (λ k. IsNode G k) e ends.1) on.2 in
      sym (dense_is (numbers_in chains) (counted 1 G.nodes) (counted_rises G.nodes) same n) ∙ count_counted G.nodes n node.1

  pub same_graph : graph_of chains ≡ G
  same_graph =
      with_arcs (dense (numbers_in chains)) (record { nodes = different (numbers_in chains); arcs = [] }) G.arcs chains are keeps
      ∙ ap (λ n. record { nodes = n; arcs = G.arcs }) (sym (all_different (numbers_in chains) (counted 1 G.nodes) (counted_rises G.nodes) same) ∙ length-counted 1 G.nodes)
