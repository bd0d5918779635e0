-- Laying chain behind chain.
use Rattle.std.proofs.Common.{◌≡◌, ℕ, ◌+◌, ◌-◌, ◌≤◌, List, [], ◌∷◌, length, refl, ◌∙◌, ap, subst, inl, inr, arith, length-append}
use Rattle.std.specs.Prelude.{nat_le}
use Rattle.std.specs.List.{filter}
use Rattle.qs_tree.specs.Lists.{◌∈◌}
use Rattle.qs_graph.specs.Graphs.{Arc, QGraph}
use Rattle.qs_graph.specs.Chains.{with_chain}
use Rattle.qs_graphtext.specs.WrittenChains.{WrittenChain}
use Rattle.qs_graphtext.specs.GraphOfChains.{IsWhole, trees_in, with_chains}

-- how many of the numbers are at most n
abbrev pub number_by : List ℕ → ℕ → ℕ
number_by nodes n = length (filter (λ m. nat_le m n) nodes)

-- what is laid so far, with the rest behind it, is the whole
pub record IsLaying (nodes : List ℕ) (chains : List WrittenChain) (count : ℕ) (arcs : List Arc) (rest : List WrittenChain) : Type 0 where
  pub whole : with_chains (number_by nodes) (record { nodes = count; arcs = arcs }) rest ≡ with_chains (number_by nodes) (record { nodes = length nodes; arcs = [] }) chains
  pub each : (chain : WrittenChain) → chain ∈ rest → IsWhole chain
  pub room : count + length (trees_in rest) ≤ length nodes + length (trees_in chains)

pub laying_first : (nodes : List ℕ) (chains : List WrittenChain) (count : ℕ) (arcs : List Arc) → count ≡ length nodes → arcs ≡ [] → ((chain : WrittenChain) → chain ∈ chains → IsWhole chain) → IsLaying nodes chains count arcs chains
laying_first nodes chains count arcs e f h = record {
  whole = ap (λ n. with_chains (number_by nodes) (record { nodes = n; arcs = arcs }) chains) e ∙ ap (λ xs. with_chains (number_by nodes) (record { nodes = length nodes; arcs = xs }) chains) f;
  each = h;
  room = omega (arith, e);
}

pub laying_next : (nodes : List ℕ) (chains : List WrittenChain) (count : ℕ) (arcs : List Arc) (chain : WrittenChain) (rest : List WrittenChain) (new_count : ℕ) (new_arcs : List Arc)
    → record { nodes = new_count; arcs = new_arcs } ≡ with_chain (record { nodes = count; arcs = arcs }) (number_by nodes chain.from) chain.trees (number_by nodes chain.to)
    → IsLaying nodes chains count arcs (chain ∷ rest) → IsLaying nodes chains new_count new_arcs rest
laying_next nodes chains count arcs chain rest new_count new_arcs e x = record {
  whole = ap (λ G. with_chains (number_by nodes) G rest) e ∙ x.whole;
  each = λ other i. x.each other (inr i);
  room =
      let n : new_count ≡ count + (length chain.trees - 1) = ap (λ (G : QGraph). G.nodes) e in
      omega (arith, n, x.room, length-append chain.trees (trees_in rest), (x.each chain (inl refl)).some);
}

-- the same with what was read of the chain
pub laying_read : (nodes : List ℕ) (chains : List WrittenChain) (count : ℕ) (arcs : List Arc) (read chain : WrittenChain) (left rest : List WrittenChain) (new_count : ℕ) (new_arcs : List Arc) (from to : ℕ)
    → read ≡ chain → left ≡ chain ∷ rest → from ≡ number_by nodes read.from → to ≡ number_by nodes read.to → record { nodes = new_count; arcs = new_arcs } ≡ with_chain (record { nodes = count; arcs = arcs }) from read.trees to
    → IsLaying nodes chains count arcs left → IsLaying nodes chains new_count new_arcs rest
laying_read nodes chains count arcs read chain left rest new_count new_arcs from to v l f t e x =
    laying_next nodes chains count arcs chain rest new_count new_arcs
    (e ∙ ap (λ n. with_chain (record { nodes = count; arcs = arcs }) n read.trees to) f ∙ ap (λ n. with_chain (record { nodes = count; arcs = arcs }) (number_by nodes read.from) read.trees n) t
    ∙ ap (λ (w : WrittenChain). with_chain (record { nodes = count; arcs = arcs }) (number_by nodes w.from) w.trees (number_by nodes w.to)) v)
    (subst (λ cs. IsLaying nodes chains count arcs cs) l x)
