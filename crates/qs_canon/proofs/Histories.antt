-- The history of a graph that grew: what is done when, and which firing added an arc or a node.
use Rattle.std.proofs.Common.{◌≡◌, ℕ, ◌+◌, ◌-◌, ◌<◌, ◌≤◌, List, [], ◌∷◌, length, refl, sym, ◌∙◌, subst, inl, inr, ⊎_elim, ◌⊎◌, arith, ap, Option, Some, None}
use Rattle.std.proofs.lemmas.Bool.{cases_lt}
use Rattle.qs_tree.specs.Lists.{◌∈◌}
use Rattle.qs_pattern.specs.Rules.{Rule}
use Rattle.qs_graph.specs.Graphs.{Arc, QGraph}
use Rattle.qs_firing.specs.Firings.{Firing, Fires}
use Rattle.qs_firing.specs.Adding.{adds, added, built, met, unless_met}
use Rattle.qs_firing.proofs.Within.{IsWithin, within_refl, within_trans, within_adds, length-adds}
use Rattle.qs_firing.proofs.Works.{work_of, work_low}
use Rattle.qs_core.specs.Growth.{Grown, DoneAt, AllApart}
use Rattle.qs_core.proofs.Growth.{grown_within}
use Rattle.qs_canon.specs.working.Same.{width}

module _ (R : List Rule) where
  -- the arcs of a firing's path are among those over which it fires
  pub fires_low : (arcs : List Arc) (f : Firing) → Fires R arcs f → (k : ℕ) → k ∈ f.path → k < length arcs
  fires_low arcs f r k i = let (m, w) = work_of R arcs f r in omega (arith, w.greatest.at_most k i, work_low R w)

  -- a firing that adds an arc meets none
  pub adding : (G : QGraph) (f : Firing) (j : ℕ) → j < length (added R G f) → (met R G f ≡ None) × (j < width R f)
  adding G f j h = tested (met R G f) refl h
    where
      tested : (o : Option ℕ) → met R G f ≡ o → j < length (unless_met o (built R f)) → (met R G f ≡ None) × (j < width R f)
      tested None e h = (e, h)
      tested (Some l) e h = absurd (omega arith)

  -- f fires over P and is added to it, on the way from G to H
  pub record Stands (G H : QGraph) (f : Firing) (P : QGraph) : Type 0 where
    pub before : IsWithin G P
    pub fires : Fires R P.arcs f
    pub after : IsWithin (adds R P f) H

  pub stands : (G : QGraph) (fs : List Firing) (H : QGraph) (f : Firing) (P : QGraph) → Grown R G fs H → DoneAt R G fs f P → Stands G H f P
  stands G [] H f P g at = absurd at
  stands G (h ∷ fs) H f P (r, g) (inl (e, p)) =
      let s : Stands G H h G = record { before = within_refl G G refl; fires = r; after = grown_within R (adds R G h) fs H g } in
      subst (λ X. Stands G H f X) (sym p) (subst (λ x. Stands G H x G) (sym e) s)
  stands G (h ∷ fs) H f P (r, g) (inr at) =
      let s = stands (adds R G h) fs H f P g at in
      record { before = within_trans (within_adds R G h) s.before; fires = s.fires; after = s.after }

  -- of two firings that are done, the one is added before the other, or they are one
  pub disjoint : (G : QGraph) (fs : List Firing) (H : QGraph) (f : Firing) (P : QGraph) (g : Firing) (Q : QGraph) → Grown R G fs H → DoneAt R G fs f P → DoneAt R G fs g Q
      → ((f ≡ g) × (P ≡ Q)) ⊎ (IsWithin (adds R P f) Q ⊎ IsWithin (adds R Q g) P)
  disjoint G [] H f P g Q t a b = absurd a
  disjoint G (h ∷ fs) H f P g Q (r, t) (inl (e, p)) (inl (d, q)) = inl (e ∙ sym d, p ∙ sym q)
  disjoint G (h ∷ fs) H f P g Q (r, t) (inl (e, p)) (inr b) =
      let s = stands (adds R G h) fs H g Q t b in
      inr (inl (subst (λ (X : QGraph). IsWithin (adds R X f) Q) (sym p) (subst (λ x. IsWithin (adds R G x) Q) (sym e) s.before)))
  disjoint G (h ∷ fs) H f P g Q (r, t) (inr a) (inl (d, q)) =
      let s = stands (adds R G h) fs H f P t a in
      inr (inr (subst (λ (X : QGraph). IsWithin (adds R X g) P) (sym q) (subst (λ x. IsWithin (adds R G x) P) (sym d) s.before)))
  disjoint G (h ∷ fs) H f P g Q (r, t) (inr a) (inr b) = disjoint (adds R G h) fs H f P g Q t a b

  pub in_of : (G : QGraph) (fs : List Firing) (f : Firing) (P : QGraph) → DoneAt R G fs f P → f ∈ fs
  in_of G [] f P a = a
  in_of G (h ∷ fs) f P (inl (e, p)) = inl e
  in_of G (h ∷ fs) f P (inr a) = inr (in_of (adds R G h) fs f P a)

  pub at_of : (G : QGraph) (fs : List Firing) (f : Firing) → f ∈ fs → (P : QGraph) × DoneAt R G fs f P
  at_of G [] f i = absurd i
  at_of G (h ∷ fs) f (inl e) = (G, inl (e, refl))
  at_of G (h ∷ fs) f (inr i) = let (P, a) = at_of (adds R G h) fs f i in (P, inr a)

  -- where each firing is done once, it is added to one graph
  pub one_place : (G : QGraph) (fs : List Firing) (f : Firing) (P Q : QGraph) → AllApart fs → DoneAt R G fs f P → DoneAt R G fs f Q → P ≡ Q
  one_place G [] f P Q u a b = absurd a
  one_place G (h ∷ fs) f P Q u (inl (e, p)) (inl (d, q)) = p ∙ sym q
  one_place G (h ∷ fs) f P Q u (inl (e, p)) (inr b) = absurd (u.0 (subst (λ x. x ∈ fs) e (in_of (adds R G h) fs f Q b)))
  one_place G (h ∷ fs) f P Q u (inr a) (inl (d, q)) = absurd (u.0 (subst (λ x. x ∈ fs) d (in_of (adds R G h) fs f P a)))
  one_place G (h ∷ fs) f P Q u (inr a) (inr b) = one_place (adds R G h) fs f P Q u.1 a b

  -- the firing that added an arc
  pub record ArcOrigin (G : QGraph) (fs : List Firing) (k : ℕ) : Type 0 where
    pub by : Firing
    pub to : QGraph
    pub place : ℕ
    pub at : DoneAt R G fs by to
    pub unmet : met R to by ≡ None
    pub within : place < width R by
    pub is : k ≡ length to.arcs + place

  pub arc_origin : (G : QGraph) (fs : List Firing) (H : QGraph) (k : ℕ) → Grown R G fs H → k < length H.arcs → (k < length G.arcs) ⊎ ArcOrigin G fs k
  arc_origin G [] H k e h = inl (omega (arith, ap (λ (X : QGraph). length X.arcs) e))
  arc_origin G (f ∷ fs) H k (r, g) h = ⊎_elim early late (arc_origin (adds R G f) fs H k g h)
    where
      late : ArcOrigin (adds R G f) fs k → (k < length G.arcs) ⊎ ArcOrigin G (f ∷ fs) k
      late o = inr (record { by = o.by; to = o.to; place = o.place; at = inr o.at; unmet = o.unmet; within = o.within; is = o.is })

      early : k < length (adds R G f).arcs → (k < length G.arcs) ⊎ ArcOrigin G (f ∷ fs) k
      early low = ⊎_elim inl
          (λ high.
          let (u, w) = adding G f (k - length G.arcs) (omega (arith, length-adds R G f)) in
          inr (record { by = f; to = G; place = k - length G.arcs; at = inl (refl, refl); unmet = u; within = w; is = omega arith }))
          (cases_lt k (length G.arcs))

  -- the firing that added a node
  pub record NodeOrigin (G : QGraph) (fs : List Firing) (n : ℕ) : Type 0 where
    pub by : Firing
    pub to : QGraph
    pub place : ℕ
    pub at : DoneAt R G fs by to
    pub some : 1 ≤ place
    pub within : place < width R by
    pub is : n ≡ to.nodes + place

  pub node_origin : (G : QGraph) (fs : List Firing) (H : QGraph) (n : ℕ) → Grown R G fs H → n ≤ H.nodes → (n ≤ G.nodes) ⊎ NodeOrigin G fs n
  node_origin G [] H n e h = inl (omega (arith, ap (λ (X : QGraph). X.nodes) e))
  node_origin G (f ∷ fs) H n (r, g) h = ⊎_elim early late (node_origin (adds R G f) fs H n g h)
    where
      late : NodeOrigin (adds R G f) fs n → (n ≤ G.nodes) ⊎ NodeOrigin G (f ∷ fs) n
      late o = inr (record { by = o.by; to = o.to; place = o.place; at = inr o.at; some = o.some; within = o.within; is = o.is })

      early : n ≤ (adds R G f).nodes → (n ≤ G.nodes) ⊎ NodeOrigin G (f ∷ fs) n
      early low = ⊎_elim
          (λ high.
          let (u, w) = adding G f (n - G.nodes) (omega arith) in
          inr (record { by = f; to = G; place = n - G.nodes; at = inl (refl, refl); some = omega arith; within = w; is = omega arith }))
          inl
          (cases_lt G.nodes n)
