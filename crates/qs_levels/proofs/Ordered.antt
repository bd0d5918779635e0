-- Going through the nodes in the order in which they are done.
use Rattle.std.proofs.Common.{◌≡◌, ◌≢◌, ◌⊎◌, ℕ, zero, suc, ◌+◌, ◌<◌, ◌≤◌, inl, inr, ⊎_elim, Bool, true, false, List, [], ◌∷◌, length, map, take, get_or, Option, Some, None, slice_get, refl, sym, ap, ◌∙◌, subst, arith}
use Rattle.std.proofs.lemmas.List.{length-map}
use Rattle.std.proofs.lemmas.Option.{slice_get_within, slice_get-get_or}
use Rattle.qs_tree.proofs.Elements.{slice_get-take}
use Rattle.qs_tree.specs.Lists.{◌∈◌}
use Rattle.qs_tree.proofs.Decisions.{decide_number}
use Rattle.qs_tree.proofs.Members.{in_at}
use Rattle.qs_firing.specs.Neighbours.{IsLastPlace}
use Rattle.qs_levels.specs.declared.ordering.Node.{Node}
use Rattle.qs_levels.specs.working.Steps.{AreChains}
use Rattle.qs_levels.specs.working.Ordering.{IsDone, IsUndone, IsBehind, IsUpTo, IsPassed, IsGoing, Waits, undone, IsVisited, AreStarted, AreDepths}
use Rattle.qs_levels.proofs.Passing.{nothing_passed, from_take}

-- a node of the order stands at a place from n on
abbrev pub IsFrom : List ℕ → ℕ → ℕ → ℕ → Type 0
IsFrom order n k a = (j : ℕ) × (n ≤ j) × (slice_get order j ≡ Some a)

-- the first nodes, fewer than n, are visited
pub record IsBegun (limit : ℕ) (sources targets : List ℕ) (nodes : List Node) (order : List ℕ) (n : ℕ) : Type 0 where
  pub going : IsGoing sources targets nodes order
  pub long : length nodes ≡ limit
  pub waits : (m : ℕ) → m < n → IsUndone nodes m → Waits sources targets nodes (IsFrom order 0) m

-- the steps from the first n nodes of the order are looked at
pub record IsTaking (limit : ℕ) (sources targets : List ℕ) (nodes : List Node) (order : List ℕ) (n : ℕ) : Type 0 where
  pub going : IsGoing sources targets nodes order
  pub long : length nodes ≡ limit
  pub within : n ≤ length order
  pub waits : (m : ℕ) → IsUndone nodes m → Waits sources targets nodes (IsFrom order n) m

-- of the node at n, those behind a step
abbrev pub IsLeft : List ℕ → ℕ → Option ℕ → ℕ → ℕ → Type 0
IsLeft order n step k a = IsFrom order (n + 1) k a ⊎ ((slice_get order n ≡ Some a) × IsUpTo step k)

pub record IsLeaving (limit : ℕ) (sources targets : List ℕ) (first_nodes : List Node) (first_order : List ℕ) (nodes : List Node) (order : List ℕ) (n : ℕ) (step : Option ℕ) : Type 0 where
  pub going : IsGoing sources targets nodes order
  pub long : length nodes ≡ limit
  pub some : n < length order
  pub waits : (m : ℕ) → IsUndone nodes m → Waits sources targets nodes (IsLeft order n step) m
  pub leaves : (k a : ℕ) → step ≡ Some k → slice_get order n ≡ Some a → slice_get sources k ≡ Some a
  pub work : undone nodes + length order ≡ undone first_nodes + length first_order

at_map : (last : List (Option ℕ)) (n : ℕ) (x : Node) → slice_get (map (λ (o : Option ℕ). record { depth = 0; unpassed = o; done = false }) last) n ≡ Some x
    → (x ≡ record { depth = 0; unpassed = get_or last n None; done = false })
at_map [] n x e = absurd cc
at_map (o ∷ last) zero x e = let s : record { depth = 0; unpassed = o; done = false } ≡ x = cc in sym s
at_map (o ∷ last) (suc n) x e = at_map last n x e

-- at the beginning
pub begun : (limit : ℕ) (sources targets : List ℕ) (last before : List (Option ℕ)) (nodes : List Node) (order : List ℕ) → AreChains limit targets last before → AreStarted last nodes → order ≡ [] → IsBegun limit sources targets nodes order 0
begun limit sources targets last before nodes order ch s e = record {
  going = record {
    passed = λ n x is.
        let same = at n x is in
        let low : n < limit = omega (arith, slice_get_within nodes n x is, long) in
        subst (λ (y : Node). IsPassed sources targets nodes n y.depth y.unpassed) (sym same) (nothing_passed sources targets nodes n (get_or last n None) (ch.last_of n low));
    finished = λ n x d. absurd (never n x d);
    low = λ n x d. absurd (never n x d);
    ordered = λ n x d. absurd (never n x d);
    within = λ n i. absurd (subst (λ ns. n ∈ ns) e i);
  };
  long = long;
  waits = λ m h. absurd (omega arith);
}
  where
    long : length nodes ≡ limit
    long = ap length s ∙ length-map last (λ (o : Option ℕ). record { depth = 0; unpassed = o; done = false }) ∙ ch.long_last

    at : (n : ℕ) (x : Node) → slice_get nodes n ≡ Some x → x ≡ record { depth = 0; unpassed = get_or last n None; done = false }
    at n x is = at_map last n x (subst (λ (ns : List Node). slice_get ns n ≡ Some x) s is)

    never : (n : ℕ) (x : Node) → IsDone nodes n x → ⊥
    never n x d = let f : false ≡ true = ap (λ (y : Node). y.done) (sym (at n x d.is)) ∙ d.done in cc

-- a visit
module _ (limit : ℕ) (sources targets : List ℕ) (nodes new : List Node) (order new_order : List ℕ) (n : ℕ) (v : IsVisited sources targets nodes new order new_order n) where
  -- what is waited for may change with the visit
  on : (P Q : ℕ → ℕ → Type 0) → ((k a : ℕ) → slice_get new_order (length order) ≡ Some a → Q k a)
      → (m : ℕ) → Waits sources targets nodes P m → ((k a : ℕ) → slice_get targets k ≡ Some m → slice_get sources k ≡ Some a → P k a → Q k a) → Waits sources targets new Q m
  on P Q fresh m w keep = record { step = w.step; to = w.to; source = w.source; from = w.from; why = by w.why }
    where
      by : IsUndone nodes w.source ⊎ P w.step w.source → IsUndone new w.source ⊎ Q w.step w.source
      by (inl u) = ⊎_elim inl (λ e. inr (fresh w.step w.source e)) (v.fate w.source u)
      by (inr p) = inr (keep w.step w.source w.to w.from p)

  -- the node itself waits for one that isn't done
  here : (Q : ℕ → ℕ → Type 0) → IsUndone new n → Waits sources targets new Q n
  here Q u =
      let w = v.waits u in
      record { step = w.step; to = w.to; source = w.source; from = w.from; why = ⊎_elim inl (λ none. absurd none) w.why }

  pub begun_more : IsBegun limit sources targets nodes order n → IsBegun limit sources targets new new_order (n + 1)
  begun_more b = record { going = v.going; long = v.long ∙ b.long; waits = λ m h u. by m h u (decide_number m n) }
    where
      by : (m : ℕ) → m < n + 1 → IsUndone new m → Dec (m ≡ n) → Waits sources targets new (IsFrom new_order 0) m
      by m h u (yes s) = subst (Waits sources targets new (IsFrom new_order 0)) (sym s) (here (IsFrom new_order 0) (subst (IsUndone new) s u))
      by m h u (no f) = on (IsFrom order 0) (IsFrom new_order 0) (λ k a e. (length order, omega arith, e)) m (b.waits m (omega (arith, f)) (v.was m u))
          (λ k a t s (j, l, e). (j, l, v.kept j a e))

  pub leaving_more : (first_nodes : List Node) (first_order : List ℕ) (last before : List (Option ℕ)) → AreChains limit sources last before → (i place : ℕ) → slice_get targets place ≡ Some n
      → IsLeaving limit sources targets first_nodes first_order nodes order i (Some place) → IsLeaving limit sources targets first_nodes first_order new new_order i (get_or before place None)
  leaving_more first_nodes first_order last before ch i place to l =
      let a = get_or order i 0 in
      let at : slice_get order i ≡ Some (get_or order i 0) = slice_get-get_or order i 0 l.some in
      let from : slice_get sources place ≡ Some (get_or order i 0) = l.leaves place (get_or order i 0) refl at in
      let next : IsLastPlace (take place sources) (get_or order i 0) (get_or before place None) = ch.before_of place (get_or order i 0) from in
      record {
        going = v.going;
        long = v.long ∙ l.long;
        some = (let h = l.some in let g = v.longer in omega arith);
        waits = λ m u. by at next m u (decide_number m n);
        leaves = λ k b s e.
            let same : get_or order i 0 ≡ b = (let p = sym (v.kept i (get_or order i 0) at) ∙ e in cc) in
            subst (λ c. slice_get sources k ≡ Some c) same (from_take place sources k (get_or order i 0) (subst (IsLastPlace (take place sources) (get_or order i 0)) s next).0);
        work = v.work ∙ l.work;
      }
    where
      up : (o : Option ℕ) (a k : ℕ) → IsLastPlace (take place sources) a o → slice_get sources k ≡ Some a → k < place → IsUpTo o k
      up None a k h from low = h k (slice_get-take place sources k low ∙ from)
      up (Some q) a k h from low = h.1 k (slice_get-take place sources k low ∙ from)

      by : slice_get order i ≡ Some (get_or order i 0) → IsLastPlace (take place sources) (get_or order i 0) (get_or before place None) → (m : ℕ) → IsUndone new m → Dec (m ≡ n)
          → Waits sources targets new (IsLeft new_order i (get_or before place None)) m
      by at next m u (yes s) = subst (Waits sources targets new (IsLeft new_order i (get_or before place None))) (sym s) (here (IsLeft new_order i (get_or before place None)) (subst (IsUndone new) s u))
      by at next m u (no f) = on (IsLeft order i (Some place)) (IsLeft new_order i (get_or before place None)) (λ k a e. inl (length order, (let h = l.some in omega arith), e)) m (l.waits m (v.was m u)) kept
        where
          kept : (k a : ℕ) → slice_get targets k ≡ Some m → slice_get sources k ≡ Some a → IsLeft order i (Some place) k a → IsLeft new_order i (get_or before place None) k a
          kept k a t s (inl (j, h, e)) = inl (j, h, v.kept j a e)
          kept k a t s (inr (e, h)) =
              let other : k ≢ place = λ q. f (let p = sym t ∙ ap (slice_get targets) q ∙ to in cc) in
              let same : get_or order i 0 ≡ a = (let p = sym at ∙ e in cc) in
              inr (v.kept i a e, up (get_or before place None) a k (subst (λ c. IsLastPlace (take place sources) c (get_or before place None)) same next) s (omega (arith, other, h)))

-- the loop over the order begins
pub taking_first : (limit : ℕ) (sources targets : List ℕ) (nodes : List Node) (order : List ℕ) (n : ℕ) → limit ≤ n → IsBegun limit sources targets nodes order n → IsTaking limit sources targets nodes order 0
taking_first limit sources targets nodes order n all b = record {
  going = b.going;
  long = b.long;
  within = omega arith;
  waits = λ m u. b.waits m (omega (arith, slice_get_within nodes m u.node u.is, b.long)) u;
}

-- the loop over the steps from the node at n begins, and ends
module _ (limit : ℕ) (sources targets : List ℕ) (nodes : List Node) (order : List ℕ) (n : ℕ) (t : IsTaking limit sources targets nodes order n) where
  pub leaving_first : (last before : List (Option ℕ)) → AreChains limit sources last before → n < length order → (step : Option ℕ) → step ≡ get_or last (get_or order n 0) None
      → IsLeaving limit sources targets nodes order nodes order n step
  leaving_first last before ch some step is = record {
    going = t.going;
    long = t.long;
    some = some;
    waits = λ m u. by m (t.waits m u);
    leaves = λ k a s e.
        let same : get_or order n 0 ≡ a = (let p = sym at ∙ e in cc) in
        subst (λ c. slice_get sources k ≡ Some c) same (subst (IsLastPlace sources (get_or order n 0)) s last_is).0;
    work = refl;
  }
    where
      at : slice_get order n ≡ Some (get_or order n 0)
      at = slice_get-get_or order n 0 some

      last_is : IsLastPlace sources (get_or order n 0) step
      last_is = subst (IsLastPlace sources (get_or order n 0)) (sym is) (ch.last_of (get_or order n 0) (omega (arith, t.going.within (get_or order n 0) (in_at order n (get_or order n 0) at), t.long)))

      up : (o : Option ℕ) (a k : ℕ) → IsLastPlace sources a o → slice_get sources k ≡ Some a → IsUpTo o k
      up None a k h from = h k from
      up (Some q) a k h from = h.1 k from

      by : (m : ℕ) → Waits sources targets nodes (IsFrom order n) m → Waits sources targets nodes (IsLeft order n step) m
      by m w = record { step = w.step; to = w.to; source = w.source; from = w.from; why = ⊎_elim inl (λ (j, h, e). inr (split j h e (decide_number j n))) w.why }
        where
          split : (j : ℕ) → n ≤ j → slice_get order j ≡ Some w.source → Dec (j ≡ n) → IsLeft order n step w.step w.source
          split j h e (yes s) =
              let here : slice_get order n ≡ Some w.source = subst (λ i. slice_get order i ≡ Some w.source) s e in
              let same : get_or order n 0 ≡ w.source = (let p = sym at ∙ here in cc) in
              inr (here, up step w.source w.step (subst (λ c. IsLastPlace sources c step) same last_is) w.from)
          split j h e (no f) = inl (j, omega (arith, f), e)

  pub at_end : length order ≤ n → (m : ℕ) → IsUndone nodes m → Waits sources targets nodes (λ k a. ⊥) m
  at_end all m u =
      let w = t.waits m u in
      record { step = w.step; to = w.to; source = w.source; from = w.from; why = ⊎_elim inl (λ (j, h, e). absurd (omega (arith, slice_get_within order j w.source e))) w.why }

pub taking_more : (limit : ℕ) (sources targets : List ℕ) (first_nodes : List Node) (first_order : List ℕ) (nodes : List Node) (order : List ℕ) (n : ℕ) (step : Option ℕ) → step ≡ None
    → IsLeaving limit sources targets first_nodes first_order nodes order n step → IsTaking limit sources targets nodes order (n + 1)
taking_more limit sources targets first_nodes first_order nodes order n step none l = record {
  going = l.going;
  long = l.long;
  within = (let s = l.some in omega arith);
  waits = λ m u.
      let w = l.waits m u in
      record { step = w.step; to = w.to; source = w.source; from = w.from; why = ⊎_elim inl (λ p. inr (⊎_elim (λ q. q) (λ (e, h). absurd (subst (λ o. IsUpTo o w.step) none h)) p)) w.why };
}

-- where all are done, their depths are right
pub are_depths : (limit : ℕ) (sources targets : List ℕ) (nodes : List Node) (order : List ℕ) → IsGoing sources targets nodes order → length nodes ≡ limit → ((n : ℕ) → IsUndone nodes n → ⊥) → AreDepths limit sources targets nodes
are_depths limit sources targets nodes order g long all = record {
  long = long;
  rises = λ k a b x y from to at is.
      let p = g.passed b y is in
      let f = p.behind k to (subst (λ o. IsBehind o k) (sym (g.finished b y (record { is = is; done = done b y is }))) tt) in
      let same : f.source ≡ a = (let q = sym f.at ∙ from in cc) in
      let one : f.node ≡ x = (let q = sym (subst (λ c. slice_get nodes c ≡ Some f.node) same f.done.is) ∙ at in cc) in
      omega (arith, f.below, ap (λ (z : Node). z.depth) one);
  reached = λ n x is h. (g.passed n x is).reached h;
}
  where
    done : (n : ℕ) (x : Node) → slice_get nodes n ≡ Some x → x.done ≡ true
    done n x is = by x.done refl
      where
        by : (b : Bool) → x.done ≡ b → b ≡ true
        by true e = refl
        by false e = absurd (all n (record { node = x; is = is; undone = e }))
