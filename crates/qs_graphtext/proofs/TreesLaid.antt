-- The trees on the arcs of a graph of chains.
use Rattle.std.proofs.Common.{◌≡◌, ℕ, ◌+◌, List, [], ◌∷◌, ◌++◌, map, refl, sym, ◌∙◌, ap, subst, inl, inr, ⊎_elim, append_assoc, append-nil}
use Rattle.std.proofs.lemmas.List.{map-append}
use Rattle.qs_tree.specs.Lists.{◌∈◌}
use Rattle.qs_tree.specs.Trees.{Tree}
use Rattle.qs_tree.specs.Text.{IsNamed}
use Rattle.qs_tree.proofs.Members.{in_map, from_append}
use Rattle.qs_graph.specs.Graphs.{Arc, QGraph}
use Rattle.qs_graph.specs.Chains.{chain, with_chain}
use Rattle.qs_graphtext.specs.WrittenChains.{WrittenChain}
use Rattle.qs_graphtext.specs.GraphOfChains.{trees_in, with_chains}
use Rattle.qs_graphtext.specs.Texts.{AreArcsNamed}

abbrev pub tree_on : Arc → Tree
tree_on arc = arc.tree

trees_of_chain : (a : ℕ) (ts : List Tree) (next b : ℕ) → map tree_on (chain a ts next b) ≡ ts
trees_of_chain a [] next b = refl
trees_of_chain a (t ∷ []) next b = refl
trees_of_chain a (t ∷ u ∷ ts) next b = ap (λ xs. t ∷ xs) (trees_of_chain next (u ∷ ts) (next + 1) b)

pub trees_laid : (number : ℕ → ℕ) (G : QGraph) (chains : List WrittenChain) → map tree_on (with_chains number G chains).arcs ≡ map tree_on G.arcs ++ trees_in chains
trees_laid number G [] = sym (append-nil (map tree_on G.arcs))
trees_laid number G (c ∷ chains) =
    trees_laid number (with_chain G (number c.from) c.trees (number c.to)) chains
    ∙ ap (λ ts. ts ++ trees_in chains) (map-append tree_on G.arcs (chain (number c.from) c.trees (G.nodes + 1) (number c.to)) ∙ ap (λ ts. map tree_on G.arcs ++ ts) (trees_of_chain (number c.from) c.trees (G.nodes + 1) (number c.to)))
    ∙ append_assoc (map tree_on G.arcs) c.trees (trees_in chains)

tree_of : (chains : List WrittenChain) (tree : Tree) → tree ∈ trees_in chains → (chain : WrittenChain) × (chain ∈ chains) × (tree ∈ chain.trees)
tree_of [] tree i = absurd i
tree_of (c ∷ chains) tree i = ⊎_elim
    (λ j. (c, inl refl, j))
    (λ j. let (d, k, l) = tree_of chains tree j in (d, inr k, l))
    (from_append c.trees (trees_in chains) tree i)

pub named_laid : (n : ℕ) (chains : List WrittenChain) (arcs : List Arc) → map tree_on arcs ≡ trees_in chains → ((chain : WrittenChain) → chain ∈ chains → (tree : Tree) → tree ∈ chain.trees → IsNamed n tree) → AreArcsNamed n arcs
named_laid n chains arcs e h arc i =
    let (c, j, k) = tree_of chains arc.tree (subst (λ ts. arc.tree ∈ ts) e (in_map tree_on arcs arc i)) in
    h c j arc.tree k
