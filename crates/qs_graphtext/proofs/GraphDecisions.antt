-- Whether arcs have a cycle, and whether a graph has exactly one entry and exactly one exit.
use Rattle.std.proofs.Common.{◌≡◌, ◌≢◌, ◌⊎◌, ℕ, zero, suc, ◌≤◌, Some, slice_get, List, [], ◌∷◌, ◌++◌, map, refl, sym, ◌∙◌, ap, subst, inl, inr, ⊎_elim, arith, length-append}
use Rattle.std.proofs.lemmas.Bool.{cases_lt}
use Rattle.qs_tree.specs.Lists.{◌∈◌}
use Rattle.qs_tree.proofs.Decisions.{decide_number, decide_at_most, decide_each, decide_not, decide_both}
use Rattle.qs_tree.proofs.Members.{in_map, in_at}
use Rattle.qs_graph.specs.Graphs.{Arc, QGraph, Leads, IsPath, IsNode, IsEntry, IsExit, ExactlyOne}
use Rattle.qs_graph.specs.Validity.{HasCycle}
use Rattle.qs_graph.proofs.Paths.{leads-append}

-- ---- paths whose inner nodes are some

-- an arc from a to b
record IsArc (arcs : List Arc) (a b : ℕ) : Type 0 where
  number : ℕ
  arc : Arc
  there : slice_get arcs number ≡ Some arc
  from : arc.from ≡ a
  to : arc.to ≡ b

-- a path from a to b that goes through these nodes only: not through the first of them, or up to it and on from it
abbrev Goes : List Arc → List ℕ → ℕ → ℕ → Type 0
Goes arcs [] a b = IsArc arcs a b
Goes arcs (n ∷ ns) a b = Goes arcs ns a b ⊎ (Goes arcs ns a n × Goes arcs ns n b)

decide_either_way : {P Q R : Type 0} → Dec P → Dec Q → Dec R → Dec (P ⊎ (Q × R))
decide_either_way (yes p) q r = yes (inl p)
decide_either_way (no n) (yes q) (yes r) = yes (inr (q, r))
decide_either_way (no n) (no m) r = no (λ h. ⊎_elim n (λ t. m t.0) h)
decide_either_way (no n) q (no m) = no (λ h. ⊎_elim n (λ t. m t.1) h)

decide_arc : (arcs : List Arc) (a b : ℕ) → Dec (IsArc arcs a b)
decide_arc [] a b = no (λ h. none h.number h.arc h.there)
  where
    none : (k : ℕ) (arc : Arc) → slice_get [] k ≡ Some arc → ⊥
    none k arc e = absurd cc
decide_arc (arc ∷ arcs) a b = by (decide_number arc.from a) (decide_number arc.to b) (decide_arc arcs a b)
  where
    parts : (k : ℕ) (x : Arc) → slice_get (arc ∷ arcs) k ≡ Some x → x.from ≡ a → x.to ≡ b → ((arc.from ≡ a) × (arc.to ≡ b)) ⊎ IsArc arcs a b
    parts zero x e f t = let same : arc ≡ x = cc in inl (ap (λ (y : Arc). y.from) same ∙ f, ap (λ (y : Arc). y.to) same ∙ t)
    parts (suc k) x e f t = inr (record { number = k; arc = x; there = e; from = f; to = t })

    cases : IsArc (arc ∷ arcs) a b → ((arc.from ≡ a) × (arc.to ≡ b)) ⊎ IsArc arcs a b
    cases h = parts h.number h.arc h.there h.from h.to

    later : IsArc arcs a b → IsArc (arc ∷ arcs) a b
    later h = record { number = suc h.number; arc = h.arc; there = h.there; from = h.from; to = h.to }

    by : Dec (arc.from ≡ a) → Dec (arc.to ≡ b) → Dec (IsArc arcs a b) → Dec (IsArc (arc ∷ arcs) a b)
    by f t (yes h) = yes (later h)
    by (yes f) (yes t) (no n) = yes (record { number = 0; arc = arc; there = refl; from = f; to = t })
    by (no m) t (no n) = no (λ h. ⊎_elim (λ p. m p.0) n (cases h))
    by f (no m) (no n) = no (λ h. ⊎_elim (λ p. m p.1) n (cases h))

decide_goes : (arcs : List Arc) (ns : List ℕ) (a b : ℕ) → Dec (Goes arcs ns a b)
decide_goes arcs [] a b = decide_arc arcs a b
decide_goes arcs (n ∷ ns) a b = decide_either_way (decide_goes arcs ns a b) (decide_goes arcs ns a n) (decide_goes arcs ns n b)

arc_path : (arcs : List Arc) (a b : ℕ) → IsArc arcs a b → (path : List ℕ) × IsPath arcs a path b
arc_path arcs a b h = (h.number ∷ [], record { some = omega arith; leads = (h.arc, h.there, h.from, h.to) })

goes_path : (arcs : List Arc) (ns : List ℕ) (a b : ℕ) → Goes arcs ns a b → (path : List ℕ) × IsPath arcs a path b
goes_path arcs [] a b h = arc_path arcs a b h
goes_path arcs (n ∷ ns) a b (inl h) = goes_path arcs ns a b h
goes_path arcs (n ∷ ns) a b (inr h) =
    let p = goes_path arcs ns a n h.0 in let q = goes_path arcs ns n b h.1 in (
      p.0 ++ q.0,
      record { some = let some = p.1.some in omega (arith, length-append p.0 q.0, some); leads = leads-append arcs a p.0 n q.0 b p.1.leads q.1.leads },
    )

-- from a node to itself and on is no further
to_itself : (arcs : List Arc) (ns : List ℕ) (n a : ℕ) → Goes arcs (n ∷ ns) a n → Goes arcs ns a n
to_itself arcs ns n a (inl h) = h
to_itself arcs ns n a (inr h) = h.0

from_itself : (arcs : List Arc) (ns : List ℕ) (n b : ℕ) → Goes arcs (n ∷ ns) n b → Goes arcs ns n b
from_itself arcs ns n b (inl h) = h
from_itself arcs ns n b (inr h) = h.1

-- one such path behind another, where they meet at one of the nodes
goes_on : (arcs : List Arc) (ns : List ℕ) (a c b : ℕ) → c ∈ ns → Goes arcs ns a c → Goes arcs ns c b → Goes arcs ns a b
goes_on arcs [] a c b i g h = absurd i
goes_on arcs (n ∷ ns) a c b (inl e) g h =
    inr (
      to_itself arcs ns n a (subst (λ m. Goes arcs (n ∷ ns) a m) e g),
      from_itself arcs ns n b (subst (λ m. Goes arcs (n ∷ ns) m b) e h),
    )
goes_on arcs (n ∷ ns) a c b (inr i) (inl g) (inl h) = inl (goes_on arcs ns a c b i g h)
goes_on arcs (n ∷ ns) a c b (inr i) (inl g) (inr h) = inr (goes_on arcs ns a c n i g h.0, h.1)
goes_on arcs (n ∷ ns) a c b (inr i) (inr g) (inl h) = inr (g.0, goes_on arcs ns n c b i g.1 h)
goes_on arcs (n ∷ ns) a c b (inr i) (inr g) (inr h) = inr (g.0, h.1)

more_nodes : (arcs : List Arc) (ns : List ℕ) (a b : ℕ) → IsArc arcs a b → Goes arcs ns a b
more_nodes arcs [] a b h = h
more_nodes arcs (n ∷ ns) a b h = inl (more_nodes arcs ns a b h)

module _ (arcs : List Arc) where
  abbrev starts : List ℕ
  starts = map (λ (arc : Arc). arc.from) arcs

  path_goes : (a k : ℕ) (ks : List ℕ) (b : ℕ) → Leads arcs a (k ∷ ks) b → Goes arcs starts a b
  path_goes a k [] b l = more_nodes arcs starts a b (record { number = k; arc = l.0; there = l.1; from = l.2; to = l.3 })
  path_goes a k (j ∷ ks) b l =
      let first : IsArc arcs a l.0.to = record { number = k; arc = l.0; there = l.1; from = l.2; to = refl } in
      let next = l.3 in
      let meets : l.0.to ∈ starts = subst (λ n. n ∈ starts) next.2 (in_map (λ (arc : Arc). arc.from) arcs next.0 (in_at arcs j next.0 next.1)) in
      goes_on arcs starts a l.0.to b meets (more_nodes arcs starts a l.0.to first) (path_goes l.0.to j ks b next)

  -- a cycle goes round from where some arc starts
  decide_round : (ns : List ℕ) → Dec ((n : ℕ) × (n ∈ ns) × Goes arcs starts n n)
  decide_round [] = no (λ h. h.1)
  decide_round (n ∷ ns) = by (decide_goes arcs starts n n) (decide_round ns)
    where
      by : Dec (Goes arcs starts n n) → Dec ((m : ℕ) × (m ∈ ns) × Goes arcs starts m m) → Dec ((m : ℕ) × (m ∈ (n ∷ ns)) × Goes arcs starts m m)
      by (yes g) r = yes (n, inl refl, g)
      by (no f) (yes r) = yes (r.0, inr r.1, r.2)
      by (no f) (no g) = no (λ h. ⊎_elim (λ e. f (subst (λ m. Goes arcs starts m m) e h.2)) (λ i. g (h.0, i, h.2)) h.1)

  round_of : (a : ℕ) (path : List ℕ) → IsPath arcs a path a → (n : ℕ) × (n ∈ starts) × Goes arcs starts n n
  round_of a [] p = absurd (let some = p.some in omega arith)
  round_of a (k ∷ ks) p =
      let l = p.leads in (a, subst (λ n. n ∈ starts) l.2 (in_map (λ (arc : Arc). arc.from) arcs l.0 (in_at arcs k l.0 l.1)), path_goes a k ks a l)

  pub decide_cycle : Dec (HasCycle arcs)
  decide_cycle = by (decide_round starts)
    where
      by : Dec ((n : ℕ) × (n ∈ starts) × Goes arcs starts n n) → Dec (HasCycle arcs)
      by (yes r) = let p = goes_path arcs starts r.0 r.0 r.2 in yes (record { node = r.0; path = p.0; is = p.1 })
      by (no n) = no (λ c. n (round_of c.node c.path c.is))

-- ---- exactly one number up to some number

module _ (P : ℕ → Type 0) (d : (n : ℕ) → Dec (P n)) where
  -- none up to m, exactly one, or two that differ
  record IsOnlyUpTo (m n : ℕ) : Type 0 where
    holds : P n
    only : (k : ℕ) → k ≤ m → P k → k ≡ n

  record AreTwo (m : ℕ) : Type 0 where
    one : ℕ
    other : ℕ
    first : P one
    second : P other
    differ : one ≢ other

  abbrev Counted : ℕ → Type 0
  Counted m = ((k : ℕ) → k ≤ m → P k → ⊥) ⊎ (((n : ℕ) × (n ≤ m) × IsOnlyUpTo m n) ⊎ AreTwo m)

  counted : (m : ℕ) → Counted m
  counted zero = by (d 0)
    where
      by : Dec (P 0) → Counted zero
      by (yes p) = inr (inl (0, omega arith, record { holds = p; only = λ k l q. omega (arith, l) }))
      by (no n) = inl (λ k l q. n (let e : k ≡ 0 = omega (arith, l) in subst P e q))
  counted (suc m) = by (d (suc m)) (counted m)
    where
      split : (k : ℕ) → k ≤ suc m → (k ≤ m) ⊎ (k ≡ suc m)
      split k l = ⊎_elim (λ h. inl (omega (arith, h))) (λ h. inr (omega (arith, h, l))) (cases_lt k (suc m))

      by : Dec (P (suc m)) → Counted m → Counted (suc m)
      by (no n) (inl none) = inl (λ k l q. ⊎_elim (λ h. none k h q) (λ e. n (subst P e q)) (split k l))
      by (no n) (inr (inl o)) =
          inr (inl (o.0, let l = o.1 in omega (arith, l), record { holds = o.2.holds; only = λ k l q. ⊎_elim (λ h. o.2.only k h q) (λ e. absurd (n (subst P e q))) (split k l) }))
      by (no n) (inr (inr t)) = inr (inr (record { one = t.one; other = t.other; first = t.first; second = t.second; differ = t.differ }))
      by (yes p) (inl none) =
          inr (inl (suc m, omega arith, record { holds = p; only = λ k l q. ⊎_elim (λ h. absurd (none k h q)) (λ e. e) (split k l) }))
      by (yes p) (inr (inl o)) =
          inr (inr (record { one = suc m; other = o.0; first = p; second = o.2.holds; differ = λ e. let l = o.1 in absurd (omega (arith, l, e)) }))
      by (yes p) (inr (inr t)) = inr (inr (record { one = t.one; other = t.other; first = t.first; second = t.second; differ = t.differ }))

  pub decide_only : (m : ℕ) → ((n : ℕ) → P n → n ≤ m) → Dec (ExactlyOne P)
  decide_only m low = by (counted m)
    where
      by : Counted m → Dec (ExactlyOne P)
      by (inl none) = no (λ o. none o.one (low o.one o.holds) o.holds)
      by (inr (inl o)) = yes (record { one = o.0; holds = o.2.holds; only = λ n q. o.2.only n (low n q) q })
      by (inr (inr t)) = no (λ o. t.differ (o.only t.one t.first ∙ sym (o.only t.other t.second)))

-- ---- entries and exits

decide_node : (G : QGraph) (n : ℕ) → Dec (IsNode G n)
decide_node G n = decide_both (decide_at_most 1 n) (decide_at_most n G.nodes)

decide_entry : (G : QGraph) (n : ℕ) → Dec (IsEntry G n)
decide_entry G n = by (decide_node G n) (decide_each (λ (arc : Arc). arc.to ≢ n) (λ arc. decide_not (decide_number arc.to n)) G.arcs)
  where
    by : Dec (IsNode G n) → Dec ((arc : Arc) → arc ∈ G.arcs → arc.to ≢ n) → Dec (IsEntry G n)
    by (yes p) (yes q) = yes (record { node = p; none_in = q })
    by (no m) q = no (λ e. m e.node)
    by p (no m) = no (λ e. m e.none_in)

decide_exit : (G : QGraph) (n : ℕ) → Dec (IsExit G n)
decide_exit G n = by (decide_node G n) (decide_each (λ (arc : Arc). arc.from ≢ n) (λ arc. decide_not (decide_number arc.from n)) G.arcs)
  where
    by : Dec (IsNode G n) → Dec ((arc : Arc) → arc ∈ G.arcs → arc.from ≢ n) → Dec (IsExit G n)
    by (yes p) (yes q) = yes (record { node = p; none_out = q })
    by (no m) q = no (λ e. m e.node)
    by p (no m) = no (λ e. m e.none_out)

pub decide_one_entry : (G : QGraph) → Dec (ExactlyOne (IsEntry G))
decide_one_entry G = decide_only (IsEntry G) (decide_entry G) G.nodes (λ n e. e.node.1)

pub decide_one_exit : (G : QGraph) → Dec (ExactlyOne (IsExit G))
decide_one_exit G = decide_only (IsExit G) (decide_exit G) G.nodes (λ n e. e.node.1)
