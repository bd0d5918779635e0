-- Taking nodes one by one, each when all arcs into it come from nodes that were taken before.
use Rattle.std.proofs.Common.{◌≡◌, ◌↔◌, ℕ, ◌+◌, ◌<◌, ◌≤◌, ◌==◌, Bool, true, false, cond, List, [], ◌∷◌, ◌++◌, length, take, get_or, map, refl, sym, ◌∙◌, ap, subst, inl, inr, ⊎_elim, arith, length-append, eqb-true, eq-eqb}
use Rattle.std.proofs.Math.Seq.{take-length}
use Rattle.std.proofs.lemmas.List.{take_more, length-take, take-append-le}
use Rattle.qs_tree.specs.Lists.{◌∈◌}
use Rattle.qs_tree.proofs.Decisions.{decide_number}
use Rattle.qs_graph.specs.Graphs.{Arc, IsNode}
use Rattle.qs_graph.specs.Validity.{HasCycle}
use Rattle.qs_graph.specs.working.Orders.{one_if, times, has, AreApart, targets_from, IsLowered}
use Rattle.qs_tree.proofs.Members.{from_append, in_append_left, in_append_right, in_get_or}
use Rattle.qs_graph.proofs.GoingRound.{goes_round}
use Rattle.qs_graph.proofs.Paths.{path_above}
use Rattle.qs_graph.proofs.Numbers.{decide_in, has_in, in_has, not_in_has, has_not_in, has-more, times_in, times_not_in, apart_append, apart_at, apart_take, apart_full, missing, in_take, before, before_in, before_last}

-- 1 where an arc to n comes from a node that wasn't taken
abbrev pub waits : Bool → Bool → ℕ
waits to true = 0
waits to false = one_if to

-- how many arcs lead to n from nodes that are not in the list
abbrev pub arriving : List Arc → List ℕ → ℕ → ℕ
arriving [] done n = 0
arriving (arc ∷ arcs) done n = waits (arc.to == n) (has done arc.from) + arriving arcs done n

-- at first each arc counts
pub arriving_first : (arcs : List Arc) (n : ℕ) → arriving arcs [] n ≡ times n (map (λ arc. arc.to) arcs)
arriving_first [] n = refl
arriving_first (arc ∷ arcs) n = ap (λ k. one_if (arc.to == n) + k) (arriving_first arcs n)

-- with one more node taken, the arcs from it don't count
pub arriving_less : (arcs : List Arc) (done : List ℕ) (x n : ℕ) → (x ∈ done → ⊥) → arriving arcs done n ≡ arriving arcs (done ++ x ∷ []) n + times n (targets_from arcs x)
arriving_less [] done x n h = omega arith
arriving_less (arc ∷ arcs) done x n h = by (arc.from == x) refl (arriving_less arcs done x n h)
  where
    now : Type 0
    now = ℕ

    by : (b : Bool) → (arc.from == x) ≡ b → arriving arcs done n ≡ arriving arcs (done ++ x ∷ []) n + times n (targets_from arcs x)
        → waits (arc.to == n) (has done arc.from) + arriving arcs done n
        ≡ (waits (arc.to == n) (has (done ++ x ∷ []) arc.from) + arriving arcs (done ++ x ∷ []) n) + times n (cond b (arc.to ∷ targets_from arcs x) (targets_from arcs x))
    by true e rest =
        let same : arc.from ≡ x = eqb-true arc.from x e in
        let was : waits (arc.to == n) (has done arc.from) ≡ one_if (arc.to == n) = ap (waits (arc.to == n)) (not_in_has done arc.from (λ i. h (subst (λ m. m ∈ done) same i))) in
        let is : waits (arc.to == n) (has (done ++ x ∷ []) arc.from) ≡ 0 = ap (waits (arc.to == n)) (in_has (done ++ x ∷ []) arc.from (in_append_right done (x ∷ []) arc.from (inl same))) in
        omega (arith, was, is, rest)
    by false e rest =
        let kept : waits (arc.to == n) (has (done ++ x ∷ []) arc.from) ≡ waits (arc.to == n) (has done arc.from) =
        ap (waits (arc.to == n)) (has-more done x arc.from (λ s. (let f : true ≡ false = sym (eq-eqb arc.from x (sym s)) ∙ e in cc))) in
        omega (arith, kept, rest)

-- where none counts, the arcs into n come from nodes in the list
pub none_arrives : (arcs : List Arc) (done : List ℕ) (n : ℕ) → arriving arcs done n ≡ 0 → (arc : Arc) → arc ∈ arcs → arc.to ≡ n → arc.from ∈ done
none_arrives [] done n z arc i e = absurd i
none_arrives (a ∷ arcs) done n z arc (inr i) e = none_arrives arcs done n (omega (arith, z)) arc i e
none_arrives (a ∷ arcs) done n z arc (inl s) e = by (has done arc.from) refl
  where
    by : (b : Bool) → has done arc.from ≡ b → arc.from ∈ done
    by true f = has_in done arc.from f
    by false f =
        let to : (a.to == n) ≡ true = eq-eqb a.to n (ap (λ (x : Arc). x.to) (sym s) ∙ e) in
        let from : has done a.from ≡ false = ap (λ (x : Arc). has done x.from) (sym s) ∙ f in
        let one : waits (a.to == n) (has done a.from) ≡ 1 = ap (λ b. waits b (has done a.from)) to ∙ ap (waits true) from in
        absurd (omega (arith, one, z))

-- where some count, one of them comes from a node that isn't in the list
pub some_arrives : (arcs : List Arc) (done : List ℕ) (n : ℕ) → 1 ≤ arriving arcs done n → (arc : Arc) × (arc ∈ arcs) × (arc.to ≡ n) × (arc.from ∈ done → ⊥)
some_arrives [] done n l = absurd (omega arith)
some_arrives (a ∷ arcs) done n l = by (a.to == n) (has done a.from) refl refl (some_arrives arcs done n)
  where
    by : (p q : Bool) → (a.to == n) ≡ p → has done a.from ≡ q → (1 ≤ arriving arcs done n → (arc : Arc) × (arc ∈ arcs) × (arc.to ≡ n) × (arc.from ∈ done → ⊥))
        → (arc : Arc) × (arc ∈ (a ∷ arcs)) × (arc.to ≡ n) × (arc.from ∈ done → ⊥)
    by true false e f rest = (a, inl refl, eqb-true a.to n e, has_not_in done a.from f)
    by p true e f rest =
        let none : waits (a.to == n) (has done a.from) ≡ 0 = ap (waits (a.to == n)) f in
        let (arc, i, to, out) = rest (omega (arith, l, none)) in (arc, inr i, to, out)
    by false false e f rest =
        let none : waits (a.to == n) (has done a.from) ≡ 0 = ap (λ b. waits b (has done a.from)) e ∙ ap (waits false) f in
        let (arc, i, to, out) = rest (omega (arith, l, none)) in (arc, inr i, to, out)

-- the targets of arcs from a node are ends of arcs
pub target_of : (arcs : List Arc) (x n : ℕ) → n ∈ targets_from arcs x → (arc : Arc) × (arc ∈ arcs) × (arc.to ≡ n)
target_of [] x n i = absurd i
target_of (a ∷ arcs) x n i = by (a.from == x) i (target_of arcs x n)
  where
    by : (b : Bool) → n ∈ cond b (a.to ∷ targets_from arcs x) (targets_from arcs x) → (n ∈ targets_from arcs x → (arc : Arc) × (arc ∈ arcs) × (arc.to ≡ n)) → (arc : Arc) × (arc ∈ (a ∷ arcs)) × (arc.to ≡ n)
    by true (inl e) rest = (a, inl refl, sym e)
    by true (inr j) rest = let (arc, k, to) = rest j in (arc, inr k, to)
    by false j rest = let (arc, k, to) = rest j in (arc, inr k, to)

-- one arc more
pub targets_from-more : (arcs : List Arc) (arc : Arc) (x : ℕ) → targets_from (arcs ++ arc ∷ []) x ≡ targets_from arcs x ++ cond (arc.from == x) (arc.to ∷ []) []
targets_from-more [] arc x = refl
targets_from-more (a ∷ arcs) arc x = by (a.from == x) (targets_from-more arcs arc x)
  where
    by : (b : Bool) → targets_from (arcs ++ arc ∷ []) x ≡ targets_from arcs x ++ cond (arc.from == x) (arc.to ∷ []) []
        → cond b (a.to ∷ targets_from (arcs ++ arc ∷ []) x) (targets_from (arcs ++ arc ∷ []) x) ≡ cond b (a.to ∷ targets_from arcs x) (targets_from arcs x) ++ cond (arc.from == x) (arc.to ∷ []) []
    by true e = ap (λ ns. a.to ∷ ns) e
    by false e = e

-- `taken` nodes of the order are taken
pub record IsTaking (nodes : ℕ) (arcs : List Arc) (counts order : List ℕ) (taken : ℕ) : Type 0 where
  pub within : taken ≤ length order
  pub long : length counts ≡ nodes + 1
  pub counts_are : (n : ℕ) → get_or counts n 0 ≡ arriving arcs (take taken order) n
  pub apart : AreApart order
  pub are : (n : ℕ) → n ∈ order ↔ ((1 ≤ n) × (n ≤ nodes) × (get_or counts n 0 ≡ 0))
  pub forward : (arc : Arc) → arc ∈ arcs → arc.to ∈ take taken order → (arc.from ∈ take taken order) × (before arc.from (take taken order) < before arc.to (take taken order))

module _ (nodes : ℕ) (arcs : List Arc) (in_range : (arc : Arc) → arc ∈ arcs → IsNode (record { nodes = nodes; arcs = arcs }) arc.from × IsNode (record { nodes = nodes; arcs = arcs }) arc.to) where
  pub taking_first : (counts order targets : List ℕ) → length counts ≡ nodes + 1 → targets ≡ map (λ arc. arc.to) arcs → ((n : ℕ) → get_or counts n 0 ≡ times n targets) → AreApart order
      → ((n : ℕ) → n ∈ order ↔ ((1 ≤ n) × (n < length counts) × (get_or counts n 0 ≡ 0))) → IsTaking nodes arcs counts order 0
  taking_first counts order targets l e c a h = record {
    within = omega arith;
    long = l;
    counts_are = λ n. c n ∙ ap (times n) e ∙ sym (arriving_first arcs n);
    apart = a;
    are = λ n. (λ i. let r = (h n).0 i in (r.0, omega (arith, r.1), r.2), λ r. (h n).1 (r.0, omega (arith, r.1), r.2));
    forward = λ arc i j. absurd j;
  }

  module _ (counts order : List ℕ) (taken : ℕ) (t : IsTaking nodes arcs counts order taken) where
    -- the next node is a node, and no arc counts that leads to it
    pub next_node : taken < length order → (1 ≤ get_or order taken 0) × (get_or order taken 0 ≤ nodes) × (get_or counts (get_or order taken 0) 0 ≡ 0)
    next_node l = (t.are (get_or order taken 0)).0 (in_get_or order taken 0 l)

    pub can_lower : taken < length order → (n : ℕ) → times n (targets_from arcs (get_or order taken 0)) ≤ get_or counts n 0
    can_lower l n = omega (arith, t.counts_are n, arriving_less arcs (take taken order) (get_or order taken 0) n (apart_at order taken t.apart l))

    module _ (new_counts new_order : List ℕ) (l : taken < length order) (w : IsLowered (targets_from arcs (get_or order taken 0)) counts new_counts order new_order) where
      abbrev x : ℕ
      x = get_or order taken 0

      abbrev done : List ℕ
      done = take taken order

      x_new : x ∈ done → ⊥
      x_new = apart_at order taken t.apart l

      longer : length order ≤ length new_order
      longer = omega (arith, ap length w.behind, length-append order w.fresh)

      next_done : take (taken + 1) new_order ≡ done ++ x ∷ []
      next_done = ap (take (taken + 1)) w.behind ∙ take-append-le (taken + 1) order w.fresh (omega (arith, l)) ∙ take_more order taken 0 l

      counts_next : (n : ℕ) → get_or new_counts n 0 ≡ arriving arcs (done ++ x ∷ []) n
      counts_next n = omega (arith, t.counts_are n, w.lower n, arriving_less arcs done x n x_new)

      -- a target had a count
      new_ones : (n : ℕ) → n ∈ order → n ∈ w.fresh → ⊥
      new_ones n i j = omega (arith, ((t.are n).0 i).2, w.lower n, times_in n (targets_from arcs x) ((w.are n).0 j).0)

      are_there : (n : ℕ) → n ∈ new_order → (1 ≤ n) × (n ≤ nodes) × (get_or new_counts n 0 ≡ 0)
      are_there n i = ⊎_elim
          (λ j. let r = (t.are n).0 j in (r.0, r.1, omega (arith, r.2, w.lower n)))
          (λ j.
          let r = (w.are n).0 j in
          let (arc, k, to) = target_of arcs x n r.0 in
          let in_graph = (in_range arc k).1 in
          (omega (arith, in_graph.0, to), omega (arith, in_graph.1, to), r.1))
          (from_append order w.fresh n (subst (λ ns. n ∈ ns) w.behind i))

      are_back : (n : ℕ) → (1 ≤ n) × (n ≤ nodes) × (get_or new_counts n 0 ≡ 0) → n ∈ new_order
      are_back n r = subst (λ ns. n ∈ ns) (sym w.behind) (by (decide_in n (targets_from arcs x)))
        where
          by : Dec (n ∈ targets_from arcs x) → n ∈ (order ++ w.fresh)
          by (yes i) = in_append_right order w.fresh n ((w.are n).1 (i, r.2))
          by (no f) = in_append_left order w.fresh n ((t.are n).1 (r.0, r.1, omega (arith, r.2, w.lower n, times_not_in n (targets_from arcs x) f)))

      forward_next : (arc : Arc) → arc ∈ arcs → arc.to ∈ (done ++ x ∷ []) → (arc.from ∈ (done ++ x ∷ [])) × (before arc.from (done ++ x ∷ []) < before arc.to (done ++ x ∷ []))
      forward_next arc i j = ⊎_elim
          (λ k.
          let r = t.forward arc i k in
          (in_append_left done (x ∷ []) arc.from r.0, omega (arith, r.1, (before_in arc.from done (x ∷ []) r.0).0, (before_in arc.to done (x ∷ []) k).0)))
          (λ k. ⊎_elim
          (λ s.
          let from : arc.from ∈ done = none_arrives arcs done x (sym (t.counts_are x) ∙ (next_node l).2) arc i s in
          let low = before_in arc.from done (x ∷ []) from in
          let high : before arc.to (done ++ x ∷ []) ≡ length done = ap (λ n. before n (done ++ x ∷ [])) s ∙ before_last x done x_new in
          (in_append_left done (x ∷ []) arc.from from, omega (arith, low.0, low.1, high)))
          (λ none. absurd none)
          k)
          (from_append done (x ∷ []) arc.to j)

      pub taking_next : IsTaking nodes arcs new_counts new_order (taken + 1)
      taking_next = record {
        within = omega (arith, longer, l);
        long = w.len ∙ t.long;
        counts_are = λ n. subst (λ ds. get_or new_counts n 0 ≡ arriving arcs ds n) (sym next_done) (counts_next n);
        apart = subst AreApart (sym w.behind) (apart_append order w.fresh t.apart w.apart new_ones);
        are = λ n. (are_there n, are_back n);
        forward = λ arc i j.
            subst (λ ds. (arc.from ∈ ds) × (before arc.from ds < before arc.to ds)) (sym next_done) (forward_next arc i (subst (λ ds. arc.to ∈ ds) next_done j));
      }

    -- where all nodes are taken, each arc leads forward
    pub no_cycle : taken ≡ nodes → HasCycle arcs → ⊥
    no_cycle all cycle = omega (arith, path_above (λ a b. before a done < before b done) (λ a b c f g. omega (arith, f, g)) arcs rises cycle.node cycle.path cycle.node cycle.is)
      where
        done : List ℕ
        done = take taken order

        full : (n : ℕ) → 1 ≤ n → n ≤ nodes → n ∈ take taken order
        full n low high = apart_full nodes (take taken order) (apart_take order taken t.apart) (λ m i. let r = (t.are m).0 (in_take order taken m i) in (r.0, r.1))
            (omega (arith, length-take taken order, t.within, all)) n low high

        rises : (arc : Arc) → arc ∈ arcs → before arc.from (take taken order) < before arc.to (take taken order)
        rises arc i = let r = (in_range arc i).1 in (t.forward arc i (full arc.to r.0 r.1)).1

    -- where no node is left in the order, each that wasn't taken has one before it that wasn't
    module _ (all : length order ≤ taken) where
      abbrev IsLeft : ℕ → Type 0
      IsLeft n = (1 ≤ n) × (n ≤ nodes) × (n ∈ order → ⊥)

      whole : take taken order ≡ order
      whole = ap (λ k. take k order) (let e : taken ≡ length order = omega (arith, t.within, all) in e) ∙ take-length order

      back : (n : ℕ) → IsLeft n → (arc : Arc) × (arc ∈ arcs) × (arc.to ≡ n) × IsLeft arc.from
      back n left =
          let some : 1 ≤ arriving arcs order n = by (decide_number (get_or counts n 0) 0) in
          let (arc, i, to, out) = some_arrives arcs order n some in
          let r = (in_range arc i).0 in
          (arc, i, to, (r.0, r.1, out))
        where
          by : Dec (get_or counts n 0 ≡ 0) → 1 ≤ arriving arcs order n
          by (yes e) = absurd (left.2 ((t.are n).1 (left.0, left.1, e)))
          by (no f) = omega (arith, f, t.counts_are n, ap (λ ds. arriving arcs ds n) whole)

      pub cycle_left : taken < nodes → HasCycle arcs
      cycle_left l =
          let (n, low, high, out) = missing nodes order (omega (arith, l, all)) in
          goes_round nodes arcs IsLeft (λ m left. (left.0, left.1)) back n (low, high, out)
