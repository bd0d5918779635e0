-- The graph of chains: how many arcs it has, that they lead from node to node, and that it is the defined one.
use Rattle.std.proofs.Common.{◌≡◌, ◌↔◌, ℕ, suc, ◌+◌, ◌<◌, ◌≤◌, List, [], ◌∷◌, length, refl, sym, ◌∙◌, ap, subst, inl, inr, ⊎_elim, arith, length-append}
use Rattle.std.specs.Prelude.{Contains, Result, Ok, Err, IfErr}
use Rattle.std.specs.Result.{IsErrAnd}
use Rattle.std.specs.List.Sorted.{IsStrictlyIncreasing}
use Rattle.qs_tree.specs.Lists.{◌∈◌}
use Rattle.qs_tree.specs.Trees.{Tree}
use Rattle.qs_tree.proofs.Members.{in_flat_map, from_append}
use Rattle.qs_graph.specs.Graphs.{QGraph, IsNode}
use Rattle.qs_graph.specs.Chains.{chain, with_chain}
use Rattle.qs_graph.specs.Validity.{LeadsInside, IsRefused}
use Rattle.qs_graph.specs.declared.making.GraphEnd.{GraphEnd}
use Rattle.qs_graph.specs.declared.making.GraphEnd.TheVariants as graph_end
use Rattle.qs_graph.proofs.Lines.{sources, targets, length-chain}
use Rattle.qs_graphtext.specs.WrittenChains.{WrittenChain}
use Rattle.qs_graphtext.specs.GraphOfChains.{IsWhole, numbers_in, trees_in, dense, with_chains, graph_of, AreFew, AreRefused}
use Rattle.qs_graphtext.specs.Causes.{end_of}
use Rattle.qs_graphtext.proofs.Numbering.{all_different, dense_is, dense_within}
use Rattle.qs_graphtext.proofs.LayingSteps.{number_by}

-- as many arcs as trees
pub arcs_laid : (number : ℕ → ℕ) (G : QGraph) (chains : List WrittenChain) → length (with_chains number G chains).arcs ≡ length G.arcs + length (trees_in chains)
arcs_laid number G [] = omega arith
arcs_laid number G (c ∷ chains) =
    let more : length (with_chain G (number c.from) c.trees (number c.to)).arcs ≡ length G.arcs + length c.trees =
    length-append G.arcs (chain (number c.from) c.trees (G.nodes + 1) (number c.to)) ∙ ap (λ n. length G.arcs + n) (length-chain (number c.from) c.trees (G.nodes + 1) (number c.to)) in
    let all : length (trees_in (c ∷ chains)) ≡ length c.trees + length (trees_in chains) = length-append c.trees (trees_in chains) in
    omega (arith, more, all, arcs_laid number (with_chain G (number c.from) c.trees (number c.to)) chains)

-- a chain between nodes leads from node to node
inside_chain : (G : QGraph) (a b : ℕ) (ts : List Tree) → LeadsInside G → IsNode G a → IsNode G b → LeadsInside (with_chain G a ts b)
inside_chain G a b ts h na nb arc i = ⊎_elim old new (from_append G.arcs (chain a ts (G.nodes + 1) b) arc i)
  where
    old : arc ∈ G.arcs → IsNode (with_chain G a ts b) arc.from × IsNode (with_chain G a ts b) arc.to
    old j = let r = h arc j in ((r.0.0, omega (arith, r.0.1)), (r.1.0, omega (arith, r.1.1)))

    new : arc ∈ chain a ts (G.nodes + 1) b → IsNode (with_chain G a ts b) arc.from × IsNode (with_chain G a ts b) arc.to
    new j = (
      ⊎_elim (λ e. (omega (arith, na.0, e), omega (arith, na.1, e))) (λ n. (omega (arith, n.0), omega (arith, n.1))) (sources a ts (G.nodes + 1) b arc j),
      ⊎_elim (λ e. (omega (arith, nb.0, e), omega (arith, nb.1, e))) (λ n. (omega (arith, n.0), omega (arith, n.1))) (targets a ts (G.nodes + 1) b arc j),
    )

pub inside_laid : (number : ℕ → ℕ) (top : ℕ) (G : QGraph) (chains : List WrittenChain) → top ≤ G.nodes → LeadsInside G
    → ((c : WrittenChain) → c ∈ chains → ((1 ≤ number c.from) × (number c.from ≤ top)) × ((1 ≤ number c.to) × (number c.to ≤ top))) → LeadsInside (with_chains number G chains)
inside_laid number top G [] l h n = h
inside_laid number top G (c ∷ chains) l h n =
    let r = n c (inl refl) in
    inside_laid number top (with_chain G (number c.from) c.trees (number c.to)) chains (omega (arith, l))
    (inside_chain G (number c.from) (number c.to) c.trees h (r.0.0, omega (arith, r.0.1, l)) (r.1.0, omega (arith, r.1.1, l))) (λ d i. n d (inr i))

pub member_contains : (ns : List ℕ) (n : ℕ) → n ∈ ns → Contains ns n
member_contains [] n i = absurd i
member_contains (m ∷ ns) n (inl e) = (0, omega arith, sym e)
member_contains (m ∷ ns) n (inr i) = let r = member_contains ns n i in (suc r.0, omega (arith, r.1), r.2)

module _ (chains : List WrittenChain) (nodes : List ℕ) (rises : IsStrictlyIncreasing nodes) (same : (n : ℕ) → Contains nodes n ↔ Contains (numbers_in chains) n) where
  -- what was laid is the graph of the chains
  pub laid_is : with_chains (number_by nodes) (record { nodes = length nodes; arcs = [] }) chains ≡ graph_of chains
  laid_is =
      ap (λ (f : ℕ → ℕ). with_chains f (record { nodes = length nodes; arcs = [] }) chains) (λ i n. dense_is (numbers_in chains) nodes rises same n i)
      ∙ ap (λ k. with_chains (dense (numbers_in chains)) (record { nodes = k; arcs = [] }) chains) (all_different (numbers_in chains) nodes rises same)

  pub laid_inside : LeadsInside (with_chains (number_by nodes) (record { nodes = length nodes; arcs = [] }) chains)
  laid_inside =
      inside_laid (number_by nodes) (length nodes) (record { nodes = length nodes; arcs = [] }) chains (omega arith) (λ arc i. absurd i)
      (λ c i. (
        dense_within nodes c.from ((same c.from).1 (member_contains (numbers_in chains) c.from (in_flat_map (λ (d : WrittenChain). d.from ∷ d.to ∷ []) chains c c.from i (inl refl)))),
        dense_within nodes c.to ((same c.to).1 (member_contains (numbers_in chains) c.to (in_flat_map (λ (d : WrittenChain). d.from ∷ d.to ∷ []) chains c c.to i (inr (inl refl))))),
      ))

-- there are at least as many trees as chains, and two numbers a chain
pub numbers_few : (chains : List WrittenChain) → ((c : WrittenChain) → c ∈ chains → IsWhole c) → length (numbers_in chains) ≤ length (trees_in chains) + length (trees_in chains)
numbers_few [] h = omega arith
numbers_few (c ∷ chains) h =
    let all : length (trees_in (c ∷ chains)) ≡ length c.trees + length (trees_in chains) = length-append c.trees (trees_in chains) in
    omega (arith, all, (h c (inl refl)).some, numbers_few chains (λ d i. h d (inr i)))

pub trees_some : (chains : List WrittenChain) → 0 < length chains → ((c : WrittenChain) → c ∈ chains → IsWhole c) → 0 < length (trees_in chains)
trees_some [] l h = absurd (omega arith)
trees_some (c ∷ chains) l h =
    let all : length (trees_in (c ∷ chains)) ≡ length c.trees + length (trees_in chains) = length-append c.trees (trees_in chains) in
    omega (arith, all, (h c (inl refl)).some)

-- why their graph is refused
pub refused_by : (chains : List WrittenChain) (G : QGraph) (e : GraphEnd) → AreFew chains → G ≡ graph_of chains → IsRefused G e → AreRefused chains (end_of e)
refused_by chains G graph_end.Cycle few same r = (few, subst (λ H. IsRefused H graph_end.Cycle) same r)
refused_by chains G graph_end.Entries few same r = (few, subst (λ H. IsRefused H graph_end.Entries) same r)
refused_by chains G graph_end.Exits few same r = (few, subst (λ H. IsRefused H graph_end.Exits) same r)
refused_by chains G graph_end.Memory few same r = tt

pub err_is : {T E : Type 0} (P : E → Type 0) (x : E) (r : Result T E) → IsErrAnd r (λ e. e ≡ x) → P x → IfErr r P
err_is P x (Ok t) a p = tt
err_is P x (Err e) a p = subst P (sym a) p

-- the numbers that were lent
pub same_numbers : (lent nodes : List ℕ) (read chains : List WrittenChain) → lent ≡ nodes → read ≡ chains → ((n : ℕ) → Contains nodes n ↔ Contains (numbers_in read) n) → (n : ℕ) → Contains lent n ↔ Contains (numbers_in chains) n
same_numbers lent nodes read chains e f h n = subst (λ ns. Contains ns n ↔ Contains (numbers_in chains) n) (sym e) (subst (λ cs. Contains nodes n ↔ Contains (numbers_in cs) n) f (h n))
