-- The steps of the loops over targets and over arcs.
use Rattle.std.proofs.Common.{◌≡◌, ◌≢◌, ◌⊎◌, ℕ, zero, suc, ◌+◌, ◌<◌, ◌≤◌, ◌==◌, cond, List, [], ◌∷◌, ◌++◌, length, take, get_or, set, map, Global, refl, sym, ◌∙◌, ap, subst, inl, inr, ⊎_elim, arith, length-set, append_assoc, append-nil, eq-eqb}
use Rattle.std.proofs.lemmas.List.{take_more, map-set, get_or-map, length-map, get_or-set_same, get_or-set_other}
use Rattle.std.specs.declared.vec.Vec.{Vec}
use Rattle.qs_tree.specs.Lists.{◌∈◌}
use Rattle.qs_tree.proofs.Decisions.{decide_number}
use Rattle.qs_graph.specs.Graphs.{Arc}
use Rattle.qs_graph.specs.working.Orders.{one_if, times, targets_from, IsLowered}
use Rattle.qs_tree.proofs.Members.{from_append, in_append_left, in_append_right}
use Rattle.std.proofs.lemmas.Bool.{ne_eqb}
use Rattle.qs_graph.proofs.Numbers.{one-same, one-other, times-more, times-take, apart_append, get_or-set, within_count}
use Rattle.qs_graph.proofs.Taking.{targets_from-more}

pub nothing_lowered : (counts order : List ℕ) → IsLowered [] counts counts order order
nothing_lowered counts order = record {
  len = refl;
  lower = λ n. omega arith;
  fresh = [];
  behind = sym (append-nil order);
  apart = tt;
  are = λ n. (λ i. absurd i, λ r. r.0);
}

module _ (targets counts : List ℕ) (can : (n : ℕ) → times n targets ≤ get_or counts n 0) (now order now_order : List ℕ) (i : ℕ) (l : i < length targets) (w : IsLowered (take i targets) counts now order now_order) where
  abbrev t : ℕ
  t = get_or targets i 0

  -- the count of the next target isn't 0
  pub has_count : 1 ≤ get_or now t 0
  has_count = omega (arith, w.lower t, can t, times-take t targets i l, one-same t t refl)

  pub target_within : t < length now
  target_within = within_count now t has_count

  all : take (i + 1) targets ≡ take i targets ++ t ∷ []
  all = take_more targets i 0 l

  module _ (v : ℕ) (e : v + 1 ≡ get_or now t 0) where
    abbrev after : List ℕ
    after = set now t v

    cases : (n : ℕ) → ((n ≡ t) × (get_or after n 0 ≡ v)) ⊎ ((n ≢ t) × (get_or after n 0 ≡ get_or now n 0))
    cases n = get_or-set now t v n target_within

    lower_next : (n : ℕ) → get_or counts n 0 ≡ get_or after n 0 + times n (take (i + 1) targets)
    lower_next n =
        let more : times n (take (i + 1) targets) ≡ times n (take i targets) + one_if (t == n) = ap (times n) all ∙ times-more n (take i targets) t in
        ⊎_elim
        (λ p. omega (arith, more, one-same t n (sym p.0), w.lower n, ap (λ k. get_or now k 0) p.0, p.1, e))
        (λ p. omega (arith, more, one-other t n (λ s. p.0 (sym s)), w.lower n, p.1))
        (cases n)

    -- what was fresh isn't the target, and its count stays 0
    fresh_kept : (n : ℕ) → n ∈ w.fresh → (n ≢ t) × (get_or after n 0 ≡ 0)
    fresh_kept n j = ⊎_elim
        (λ p. absurd (omega (arith, has_count, ap (λ k. get_or now k 0) p.0, ((w.are n).0 j).1)))
        (λ p. (p.0, p.1 ∙ ((w.are n).0 j).1))
        (cases n)

    still_target : (n : ℕ) → n ∈ take i targets → n ∈ take (i + 1) targets
    still_target n j = subst (λ ns. n ∈ ns) (sym all) (in_append_left (take i targets) (t ∷ []) n j)

    was_target : (n : ℕ) → n ≢ t → n ∈ take (i + 1) targets → get_or after n 0 ≡ 0 → n ∈ w.fresh
    was_target n d j z = ⊎_elim
        (λ p. absurd (d p.0))
        (λ p. ⊎_elim (λ k. (w.are n).1 (k, sym p.1 ∙ z)) (λ k. ⊎_elim (λ s. absurd (d s)) (λ none. absurd none) k) (from_append (take i targets) (t ∷ []) n (subst (λ ns. n ∈ ns) all j)))
        (cases n)

    pub lowered_zero : (new_order : List ℕ) → v ≡ 0 → new_order ≡ now_order ++ t ∷ [] → IsLowered (take (i + 1) targets) counts after order new_order
    lowered_zero new_order z p = record {
      len = length-set now t v ∙ w.len;
      lower = lower_next;
      fresh = w.fresh ++ t ∷ [];
      behind = p ∙ ap (λ ns. ns ++ t ∷ []) w.behind ∙ append_assoc order w.fresh (t ∷ []);
      apart = apart_append w.fresh (t ∷ []) w.apart ((λ j. j), tt) (λ n j k. ⊎_elim (fresh_kept n j).0 (λ none. none) k);
      are = λ n. (there n, back n (decide_number n t));
    }
      where
        there : (n : ℕ) → n ∈ (w.fresh ++ t ∷ []) → (n ∈ take (i + 1) targets) × (get_or after n 0 ≡ 0)
        there n j = ⊎_elim
            (λ k. (still_target n ((w.are n).0 k).0, (fresh_kept n k).1))
            (λ k. ⊎_elim
            (λ s. (subst (λ ns. n ∈ ns) (sym all) (in_append_right (take i targets) (t ∷ []) n (inl s)), ⊎_elim (λ q. q.1 ∙ z) (λ q. absurd (q.0 s)) (cases n)))
            (λ none. absurd none)
            k)
            (from_append w.fresh (t ∷ []) n j)

        back : (n : ℕ) → Dec (n ≡ t) → (n ∈ take (i + 1) targets) × (get_or after n 0 ≡ 0) → n ∈ (w.fresh ++ t ∷ [])
        back n (yes s) r = in_append_right w.fresh (t ∷ []) n (inl s)
        back n (no d) r = in_append_left w.fresh (t ∷ []) n (was_target n d r.0 r.1)

    pub lowered_more : (new_order : List ℕ) → v ≢ 0 → new_order ≡ now_order → IsLowered (take (i + 1) targets) counts after order new_order
    lowered_more new_order z p = record {
      len = length-set now t v ∙ w.len;
      lower = lower_next;
      fresh = w.fresh;
      behind = p ∙ w.behind;
      apart = w.apart;
      are = λ n. (λ k. (still_target n ((w.are n).0 k).0, (fresh_kept n k).1), back n (decide_number n t));
    }
      where
        back : (n : ℕ) → Dec (n ≡ t) → (n ∈ take (i + 1) targets) × (get_or after n 0 ≡ 0) → n ∈ w.fresh
        back n (yes s) r = absurd (z (⊎_elim (λ q. sym q.1 ∙ r.1) (λ q. absurd (q.0 s)) (cases n)))
        back n (no d) r = was_target n d r.0 r.1

abbrev pub items_of : Vec ℕ Global → List ℕ
items_of v = v.items

-- one arc more in the groups
pub group_step : (arcs : List Arc) (i : ℕ) (arc : Arc) (groups : List (Vec ℕ Global)) (from to : ℕ) (was now : Vec ℕ Global) → take (i + 1) arcs ≡ take i arcs ++ arc ∷ [] → arc.from ≡ from → arc.to ≡ to → from < length groups
    → was ≡ get_or groups from was → now.items ≡ was.items ++ to ∷ [] → ((n : ℕ) → get_or (map items_of groups) n [] ≡ targets_from (take i arcs) n)
    → (n : ℕ) → get_or (map items_of (set groups from now)) n [] ≡ targets_from (take (i + 1) arcs) n
group_step arcs i arc groups from to was now more f t l read pushed h n =
    let in_range : from < length (map items_of groups) = omega (arith, l, length-map groups items_of) in
    let set_is : map items_of (set groups from now) ≡ set (map items_of groups) from now.items = map-set items_of groups from now in
    let goal_is : targets_from (take (i + 1) arcs) n ≡ targets_from (take i arcs) n ++ cond (from == n) (to ∷ []) [] =
    ap (λ xs. targets_from xs n) more ∙ targets_from-more (take i arcs) arc n ∙ ap (λ b. targets_from (take i arcs) n ++ cond b (arc.to ∷ []) []) (ap (λ k. k == n) f) ∙ ap (λ k. targets_from (take i arcs) n ++ cond (from == n) (k ∷ []) []) t in
    ap (λ gs. get_or gs n []) set_is ∙ by in_range (decide_number n from) ∙ sym goal_is
  where
    by : from < length (map items_of groups) → Dec (n ≡ from) → get_or (set (map items_of groups) from now.items) n [] ≡ targets_from (take i arcs) n ++ cond (from == n) (to ∷ []) []
    by in_range (yes e) =
        ap (λ k. get_or (set (map items_of groups) from now.items) k []) e ∙ get_or-set_same (map items_of groups) from now.items [] in_range
        ∙ pushed ∙ ap (λ ks. ks ++ to ∷ []) (ap items_of read ∙ sym (get_or-map items_of groups from was [] l) ∙ h from ∙ ap (targets_from (take i arcs)) (sym e))
        ∙ ap (λ b. targets_from (take i arcs) n ++ cond b (to ∷ []) []) (sym (eq-eqb from n (sym e)))
    by in_range (no d) =
        get_or-set_other (map items_of groups) from n now.items [] d ∙ h n ∙ sym (append-nil (targets_from (take i arcs) n))
        ∙ ap (λ b. targets_from (take i arcs) n ++ cond b (to ∷ []) []) (sym (ne_eqb from n (λ s. d (sym s))))

-- the group that was read is that of its node
pub group_read : (groups : List (Vec ℕ Global)) (arcs : List Arc) (k : ℕ) (at : Vec ℕ Global) → k < length groups → at ≡ get_or groups k at
    → ((n : ℕ) → get_or (map items_of groups) n [] ≡ targets_from arcs n) → at.items ≡ targets_from arcs k
group_read groups arcs k at l e h = ap items_of e ∙ sym (get_or-map items_of groups k at [] l) ∙ h k
