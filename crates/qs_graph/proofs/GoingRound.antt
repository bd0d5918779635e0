-- Arcs that go round: from a node back along them, until a node comes again.
use Rattle.std.proofs.Common.{◌≡◌, ℕ, zero, suc, ◌+◌, ◌<◌, ◌≤◌, sym, subst, inl, inr, ⊎_elim, List, [], ◌∷◌, length, arith}
use Rattle.qs_tree.specs.Lists.{◌∈◌}
use Rattle.qs_graph.specs.Graphs.{Arc}
use Rattle.qs_graph.specs.Validity.{HasCycle}
use Rattle.qs_graph.specs.working.Orders.{AreApart}
use Rattle.qs_graph.proofs.Numbers.{decide_in, apart_fit}
use Rattle.qs_graph.proofs.Paths.{Joined, JoinedOrSame, joined_arc, joined_then}

-- where an arc leads to each node of a kind from a node of that kind, arcs go round
module _ (nodes : ℕ) (arcs : List Arc) (IsLeft : ℕ → Type 0) (within : (n : ℕ) → IsLeft n → (1 ≤ n) × (n ≤ nodes))
    (back : (n : ℕ) → IsLeft n → (arc : Arc) × (arc ∈ arcs) × (arc.to ≡ n) × IsLeft arc.from) where
  -- from n back, until a node comes again
  walk : (more : ℕ) (n : ℕ) (seen : List ℕ) → IsLeft n → AreApart (n ∷ seen) → ((m : ℕ) → m ∈ (n ∷ seen) → IsLeft m × JoinedOrSame arcs n m) → nodes < more + length (n ∷ seen) → HasCycle arcs
  walk zero n seen left a h l = absurd (omega (arith, l, apart_fit nodes (n ∷ seen) a (λ m i. within m (h m i).0)))
  walk (suc more) n seen left a h l =
      let (arc, i, to, left') = back n left in
      by arc i to left' (decide_in arc.from (n ∷ seen))
      (λ f j. walk more arc.from (n ∷ seen) left' (f, a) j (omega (arith, l)))
    where
      onto : (arc : Arc) → arc ∈ arcs → arc.to ≡ n → Joined arcs arc.from n
      onto arc i to = subst (λ k. Joined arcs arc.from k) to (joined_arc arcs arc i)

      by : (arc : Arc) → arc ∈ arcs → arc.to ≡ n → IsLeft arc.from → Dec (arc.from ∈ (n ∷ seen))
          → ((arc.from ∈ (n ∷ seen) → ⊥) → ((m : ℕ) → m ∈ (arc.from ∷ n ∷ seen) → IsLeft m × JoinedOrSame arcs arc.from m) → HasCycle arcs) → HasCycle arcs
      by arc i to left' (yes j) rest =
          let again = joined_then arcs arc.from n arc.from (onto arc i to) (h arc.from j).1 in
          record { node = arc.from; path = again.path; is = again.is }
      by arc i to left' (no f) rest = rest f (λ m. ⊎_elim
          (λ s. (subst IsLeft (sym s) left', inl (sym s)))
          (λ j. ((h m j).0, inr (joined_then arcs arc.from n m (onto arc i to) (h m j).1))))

  pub goes_round : (n : ℕ) → IsLeft n → HasCycle arcs
  goes_round n left =
      walk nodes n [] left ((λ none. none), tt) (λ m. ⊎_elim (λ s. (subst IsLeft (sym s) left, inl (sym s))) (λ none. absurd none)) (omega arith)
