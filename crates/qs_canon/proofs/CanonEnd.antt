-- Where the last round is done, the tables are the maps.
use Rattle.std.proofs.Common.{◌≡◌, ℕ, zero, suc, ◌-◌, ◌<◌, List, [], ◌∷◌, length, map, take, drop, refl, sym, ap, ◌∙◌, subst, arith, Option, Some, slice_get}
use Rattle.qs_graph.specs.Graphs.{IsEntry, IsExit}
use Rattle.qs_core.specs.Core.{fired}
use Rattle.qs_core.specs.Runs.{Machine}
use Rattle.qs_canon.specs.Rounds.{Stage, Closes}
use Rattle.qs_canon.specs.Numbering.{IsNumbering}
use Rattle.qs_canon.specs.working.CanonNumbers.{table_of, AllAre}
use Rattle.qs_canon.specs.working.CanonSteps.{IsFinal}
use Rattle.qs_canon.proofs.Canonical as canonical

-- ---- tables with a number at each place

numbers_by : (ℕ → ℕ) → List (Option ℕ) → List ℕ
numbers_by f [] = []
numbers_by f (x ∷ xs) = f 0 ∷ numbers_by (λ k. f (suc k)) xs

all_from : (xs : List (Option ℕ)) (f : ℕ → ℕ) → ((k : ℕ) → k < length xs → table_of xs k ≡ Some (f k)) → (ns : List ℕ) × AllAre xs ns
all_from [] f e = ([], refl)
all_from (x ∷ xs) f e =
    let (ns, a) = all_from xs (λ k. f (suc k)) (λ k h. e (suc k) (omega arith)) in
    (f 0 ∷ ns, (λ i. sym (e 0 (omega arith)) i ∷ a i))

gives : (ns : List ℕ) (k l : ℕ) → table_of (map (λ n. Some n) ns) k ≡ Some l → slice_get ns k ≡ Some l
gives [] k l e = absurd cc
gives (n ∷ ns) zero l e = e
gives (n ∷ ns) (suc k) l e = gives ns k l e

all_gives : (xs : List (Option ℕ)) (ns : List ℕ) (k l : ℕ) → AllAre xs ns → table_of xs k ≡ Some l → slice_get ns k ≡ Some l
all_gives xs ns k l a e = gives ns k l (subst (λ (ys : List (Option ℕ)). table_of ys k ≡ Some l) (sym a) e)

all_long : (xs : List (Option ℕ)) (ns : List ℕ) → AllAre xs ns → length ns ≡ length xs
all_long xs ns a = sym (long ns) ∙ ap (λ (ys : List (Option ℕ)). length ys) a
  where
    long : (ns : List ℕ) → length (map (λ n. Some n) ns) ≡ length ns
    long [] = refl
    long (n ∷ ns) = ap suc (long ns)

take_whole : (xs : List (Option ℕ)) (n : ℕ) → n ≡ length xs → take n xs ≡ xs
take_whole [] zero e = refl
take_whole [] (suc n) e = absurd (omega (arith, e))
take_whole (x ∷ xs) zero e = absurd (omega (arith, e))
take_whole (x ∷ xs) (suc n) e = ap (λ ys. x ∷ ys) (take_whole xs n (omega (arith, e)))

-- the part behind the first place
pub behind_first : (xs : List (Option ℕ)) → take (length xs - 1) (drop 1 xs) ≡ drop 1 xs
behind_first [] = take_whole [] (length {A = Option ℕ} [] - 1) (omega arith)
behind_first (x ∷ xs) = take_whole xs (length (x ∷ xs) - 1) (omega arith)

dropped : (xs : List (Option ℕ)) (k : ℕ) → table_of (drop 1 xs) k ≡ table_of xs (suc k)
dropped [] k = refl
dropped (x ∷ xs) k = refl

dropped_long : (xs : List (Option ℕ)) → length (drop 1 xs) ≡ length xs - 1
dropped_long [] = omega arith
dropped_long (x ∷ xs) = omega arith

module _ (M : Machine) (arcs nodes : List (Option ℕ)) (S : Stage) (x : IsFinal M arcs nodes S) where
  closes : Closes M.base.rules M.base.start S
  closes = record { rounds = x.rounds; reached = x.between.reached; closed = x.closed }

  pub some_arcs : (ns : List ℕ) × AllAre arcs ns
  some_arcs =
      let b = x.between in
      let (A, t, m) = canonical.maps M.base.rules M.base.start (fired M.state) M.state.graph b.recorded x.rounds S b.reached (table_of arcs) b.table (table_of nodes) b.node_table closes in
      all_from arcs A.arcs (λ k h. t k (omega (arith, h, b.arcs_each)))

  pub some_nodes : (ns : List ℕ) × AllAre (drop 1 nodes) ns
  some_nodes =
      let b = x.between in
      let (A, t, m) = canonical.maps M.base.rules M.base.start (fired M.state) M.state.graph b.recorded x.rounds S b.reached (table_of arcs) b.table (table_of nodes) b.node_table closes in
      all_from (drop 1 nodes) (λ k. A.nodes (suc k)) (λ k h. dropped nodes k ∙ m (suc k) (omega (arith, h, b.nodes_each, dropped_long nodes)))

  pub is_numbering : (entry exit start : ℕ) → IsEntry M.base.start entry → IsExit M.base.start exit → start ≡ length M.base.start.arcs → (ks ns : List ℕ) → AllAre arcs ks → AllAre (drop 1 nodes) ns
      → IsNumbering M (record { stage = S; entry = entry; exit = exit; start = start }) ks ns
  is_numbering entry exit start is_entry is_exit is_start ks ns a n =
      let b = x.between in
      let (A, t, m) = canonical.maps M.base.rules M.base.start (fired M.state) M.state.graph b.recorded x.rounds S b.reached (table_of arcs) b.table (table_of nodes) b.node_table closes in
      record {
        closure = record { closes = closes; entry = is_entry; exit = is_exit; start = is_start };
        same = A;
        arcs_each = all_long arcs ks a ∙ b.arcs_each;
        nodes_each = let l = all_long (drop 1 nodes) ns n in omega (arith, l, dropped_long nodes, b.nodes_each);
        arcs_are = λ k h. all_gives arcs ks k (A.arcs k) a (t k h);
        nodes_are = λ j h.
            let back : suc (j - 1) ≡ j = omega (arith, h.0) in
            all_gives (drop 1 nodes) ns (j - 1) (A.nodes j) n (dropped nodes (j - 1) ∙ subst (λ i. table_of nodes i ≡ Some (A.nodes j)) (sym back) (m j h.1));
      }
