-- The arcs of a chain: one more, and their trees.
use Rattle.std.proofs.Common.{◌≡◌, ℕ, ◌+◌, ◌<◌, List, [], ◌∷◌, ◌++◌, length, refl, ap, inl, inr, append_assoc, arith}
use Rattle.std.proofs.lemmas.List.{append-nil}
use Rattle.qs_tree.specs.Lists.{◌∈◌}
use Rattle.qs_tree.specs.Trees.{Tree}
use Rattle.qs_graph.specs.Graphs.{Arc}
use Rattle.qs_graph.specs.Chains.{chain}

pub lay : (edges all : List Arc) (a next b end : ℕ) (t : Tree) (rest : List Tree) → (length rest ≡ 0 → end ≡ b) → (0 < length rest → end ≡ next)
    → edges ++ chain a (t ∷ rest) next b ≡ all → (edges ++ record { from = a; to = end; tree = t } ∷ []) ++ chain end rest (next + 1) b ≡ all
lay edges all a next b end t [] last more e = rw (append-nil, last refl) e
lay edges all a next b end t (u ∷ us) last more e =
    let same : end ≡ next = more (omega arith) in rw (append_assoc, same) e

-- the arcs of a chain carry its trees
pub tree_in_chain : (a : ℕ) (ts : List Tree) (next b : ℕ) (arc : Arc) → arc ∈ chain a ts next b → arc.tree ∈ ts
tree_in_chain a [] next b arc i = absurd i
tree_in_chain a (t ∷ []) next b arc (inl e) = inl (ap (λ (x : Arc). x.tree) e)
tree_in_chain a (t ∷ []) next b arc (inr i) = absurd i
tree_in_chain a (t ∷ u ∷ ts) next b arc (inl e) = inl (ap (λ (x : Arc). x.tree) e)
tree_in_chain a (t ∷ u ∷ ts) next b arc (inr i) = inr (tree_in_chain next (u ∷ ts) (next + 1) b arc i)
