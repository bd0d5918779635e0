-- A chain of trees between the nodes 1 and 2 is a valid graph.
use Rattle.std.proofs.Common.{◌≡◌, ◌≢◌, ℕ, suc, ◌+◌, ◌<◌, ◌≤◌, List, [], ◌∷◌, length, refl, sym, ap, inl, inr, ⊎_elim, ◌⊎◌, arith, eqb, cond}
use Rattle.std.proofs.lemmas.Bool.{cases_order}
use Rattle.std.proofs.lemmas.Bool.Decides.{nat_tests}
use Rattle.qs_tree.specs.Lists.{◌∈◌}
use Rattle.qs_tree.proofs.Members.{in_at}
use Rattle.qs_tree.specs.Trees.{Tree}
use Rattle.qs_graph.specs.Graphs.{Arc, Leads, IsPath, IsNode, IsEntry, IsExit, IsValid}
use Rattle.qs_graph.specs.Chains.{chain, line_graph}
use Rattle.qs_graph.specs.Limits.{most_read_arcs}
use Rattle.qs_graph.specs.Kept.{IsKept}

-- each arc leads to a higher rank
abbrev pub Rises : (ℕ → ℕ) → List Arc → Type 0
Rises rank arcs = (arc : Arc) → arc ∈ arcs → rank arc.from < rank arc.to

pub leads_up : (rank : ℕ → ℕ) (arcs : List Arc) → Rises rank arcs → (a : ℕ) (ks : List ℕ) (b : ℕ) → Leads arcs a ks b → rank a + length ks ≤ rank b
leads_up rank arcs up a [] b e = omega (arith, ap rank e)
leads_up rank arcs up a (k ∷ ks) b (arc, is, e, l) =
    omega (arith, up arc (in_at arcs k arc is), ap rank e, leads_up rank arcs up arc.to ks b l)

pub no_cycle : (rank : ℕ → ℕ) (arcs : List Arc) → Rises rank arcs → (a : ℕ) (path : List ℕ) → IsPath arcs a path a → ⊥
no_cycle rank arcs up a path p = omega (arith, leads_up rank arcs up a path a p.leads, p.some)

chain_rises : (rank : ℕ → ℕ) (a : ℕ) (ts : List Tree) (next b : ℕ) → rank a < next → ((n : ℕ) → next ≤ n → rank n ≡ n) → next + length ts ≤ rank b + 1
    → Rises rank (chain a ts next b)
chain_rises rank a [] next b low same high arc i = absurd i
chain_rises rank a (t ∷ []) next b low same high arc (inl e) = omega (arith, ap (λ (x : Arc). rank x.from) e, ap (λ (x : Arc). rank x.to) e)
chain_rises rank a (t ∷ []) next b low same high arc (inr i) = absurd i
chain_rises rank a (t ∷ u ∷ ts) next b low same high arc (inl e) =
    omega (arith, ap (λ (x : Arc). rank x.from) e, ap (λ (x : Arc). rank x.to) e, same next (omega arith))
chain_rises rank a (t ∷ u ∷ ts) next b low same high arc (inr i) =
    chain_rises rank next (u ∷ ts) (next + 1) b (omega (arith, same next (omega arith))) (λ n h. same n (omega arith)) (omega arith) arc i

-- one of the new nodes
abbrev pub IsInner : ℕ → List Tree → ℕ → Type 0
IsInner next ts n = (next ≤ n) × (n + 1 < next + length ts)

pub targets : (a : ℕ) (ts : List Tree) (next b : ℕ) (arc : Arc) → arc ∈ chain a ts next b → (arc.to ≡ b) ⊎ IsInner next ts arc.to
targets a [] next b arc i = absurd i
targets a (t ∷ []) next b arc (inl e) = inl (ap (λ (x : Arc). x.to) e)
targets a (t ∷ []) next b arc (inr i) = absurd i
targets a (t ∷ u ∷ ts) next b arc (inl e) = let f = ap (λ (x : Arc). x.to) e in inr (omega arith, omega arith)
targets a (t ∷ u ∷ ts) next b arc (inr i) = ⊎_elim inl (λ n. inr (omega arith, omega arith)) (targets next (u ∷ ts) (next + 1) b arc i)

pub sources : (a : ℕ) (ts : List Tree) (next b : ℕ) (arc : Arc) → arc ∈ chain a ts next b → (arc.from ≡ a) ⊎ IsInner next ts arc.from
sources a [] next b arc i = absurd i
sources a (t ∷ []) next b arc (inl e) = inl (ap (λ (x : Arc). x.from) e)
sources a (t ∷ []) next b arc (inr i) = absurd i
sources a (t ∷ u ∷ ts) next b arc (inl e) = inl (ap (λ (x : Arc). x.from) e)
sources a (t ∷ u ∷ ts) next b arc (inr i) = ⊎_elim (λ e. inr (omega arith, omega arith)) (λ n. inr (omega arith, omega arith)) (sources next (u ∷ ts) (next + 1) b arc i)

pub into : (a : ℕ) (ts : List Tree) (next b n : ℕ) → 0 < length ts → (n ≡ b) ⊎ IsInner next ts n → (arc : Arc) × (arc ∈ chain a ts next b) × (arc.to ≡ n)
into a [] next b n h c = absurd (omega arith)
into a (t ∷ []) next b n h (inl e) = (record { from = a; to = b; tree = t }, inl refl, sym e)
into a (t ∷ []) next b n h (inr i) = absurd (omega arith)
into a (t ∷ u ∷ ts) next b n h (inl e) = let (arc, i, f) = into next (u ∷ ts) (next + 1) b n (omega arith) (inl e) in (arc, inr i, f)
into a (t ∷ u ∷ ts) next b n h (inr i) = ⊎_elim
    (λ e. (record { from = a; to = next; tree = t }, inl refl, sym e))
    (λ d. let (arc, j, f) = into next (u ∷ ts) (next + 1) b n (omega arith) (inr (omega arith, omega arith)) in (arc, inr j, f))
    (cases_order n next)

pub out_of : (a : ℕ) (ts : List Tree) (next b n : ℕ) → 0 < length ts → (n ≡ a) ⊎ IsInner next ts n → (arc : Arc) × (arc ∈ chain a ts next b) × (arc.from ≡ n)
out_of a [] next b n h c = absurd (omega arith)
out_of a (t ∷ []) next b n h (inl e) = (record { from = a; to = b; tree = t }, inl refl, sym e)
out_of a (t ∷ []) next b n h (inr i) = absurd (omega arith)
out_of a (t ∷ u ∷ ts) next b n h (inl e) = (record { from = a; to = next; tree = t }, inl refl, sym e)
out_of a (t ∷ u ∷ ts) next b n h (inr i) = ⊎_elim
    (λ e. let (arc, j, f) = out_of next (u ∷ ts) (next + 1) b n (omega arith) (inl e) in (arc, inr j, f))
    (λ d. let (arc, j, f) = out_of next (u ∷ ts) (next + 1) b n (omega arith) (inr (omega arith, omega arith)) in (arc, inr j, f))
    (cases_order n next)

-- the start is lowest, the end highest, and inner nodes have their own numbers
abbrev rank_of : ℕ → ℕ → ℕ → ℕ → ℕ
rank_of a b top n = cond (eqb n a) 0 (cond (eqb n b) top n)

rank-a : (a b top : ℕ) → rank_of a b top a ≡ 0
rank-a a b top = grind (arith, nat_tests)

rank-b : (a b top : ℕ) → a ≢ b → rank_of a b top b ≡ top
rank-b a b top ne = grind (arith, nat_tests)

rank-inner : (a b top n : ℕ) → a ≢ n → b ≢ n → rank_of a b top n ≡ n
rank-inner a b top n na nb = grind (arith, nat_tests)

pub length-chain : (a : ℕ) (ts : List Tree) (next b : ℕ) → length (chain a ts next b) ≡ length ts
length-chain a [] next b = refl
length-chain a (t ∷ []) next b = refl
length-chain a (t ∷ u ∷ ts) next b = ap suc (length-chain next (u ∷ ts) (next + 1) b)

module _ (a b : ℕ) (ts : List Tree) (some : 0 < length ts) (ends : a + b ≡ 3) (low : 0 < a) (low' : 0 < b) where
  rises : Rises (rank_of a b (length ts + 3)) (chain a ts 3 b)
  rises =
      let ra = rank-a a b (length ts + 3) in
      let rb = rank-b a b (length ts + 3) (λ e. omega arith) in
      chain_rises (rank_of a b (length ts + 3)) a ts 3 b (omega (arith, ra)) (λ n h. rank-inner a b (length ts + 3) n (λ e. omega arith) (λ e. omega arith)) (omega (arith, rb))

  -- a node is an end or an inner node
  node_cases : (n : ℕ) → IsNode (line_graph a ts b) n → (n ≡ a) ⊎ ((n ≡ b) ⊎ IsInner 3 ts n)
  node_cases n h = ⊎_elim inl (λ d. inr (⊎_elim inl (λ e. inr (split d e)) (cases_order n b))) (cases_order n a)
    where
      split : (n < a) ⊎ (a < n) → (n < b) ⊎ (b < n) → IsInner 3 ts n
      split d e = (omega arith, omega arith)

  line_entry : IsEntry (line_graph a ts b) a
  line_entry = record { node = (omega arith, omega arith); none_in = λ arc i e. ⊎_elim (λ f. omega arith) (λ f. omega arith) (targets a ts 3 b arc i) }

  line_exit : IsExit (line_graph a ts b) b
  line_exit = record { node = (omega arith, omega arith); none_out = λ arc i e. ⊎_elim (λ f. omega arith) (λ f. omega arith) (sources a ts 3 b arc i) }

  pub line_valid : IsValid (line_graph a ts b)
  line_valid = record {
    some_arc = omega (arith, length-chain a ts 3 b);
    in_range = λ arc i. (⊎_elim (λ e. (omega arith, omega arith)) (λ n. (omega arith, omega arith)) (sources a ts 3 b arc i), ⊎_elim (λ e. (omega arith, omega arith)) (λ n. (omega arith, omega arith)) (targets a ts 3 b arc i));
    no_cycle = no_cycle (rank_of a b (length ts + 3)) (chain a ts 3 b) rises;
    entry = record {
      one = a;
      holds = line_entry;
      only = λ n entry. ⊎_elim (λ e. e) (λ c. let (arc, i, f) = into a ts 3 b n some c in absurd (entry.none_in arc i f)) (node_cases n entry.node);
    };
    exit = record {
      one = b;
      holds = line_exit;
      only = λ n exit. ⊎_elim
          (λ e. let (arc, i, f) = out_of a ts 3 b n some (inl e) in absurd (exit.none_out arc i f))
          (⊎_elim (λ e. e) (λ c. let (arc, i, f) = out_of a ts 3 b n some (inr c) in absurd (exit.none_out arc i f)))
          (node_cases n exit.node);
    };
  }

  pub line_kept : length ts ≤ most_read_arcs → IsKept (line_graph a ts b) a b
  line_kept few = record {
    valid = line_valid;
    entry_is = line_entry;
    exit_is = line_exit;
    few = omega (arith, length-chain a ts 3 b);
  }
