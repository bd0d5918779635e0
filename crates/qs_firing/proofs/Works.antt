-- The work of an arc: each firing is in the work of one arc, later arcs never change it, and each arc has its work.
use Rattle.std.proofs.Common.{◌≡◌, ◌↔◌, ℕ, suc, ◌<◌, ◌≤◌, List, [], ◌∷◌, ◌++◌, length, take, drop, refl, sym, ◌∙◌, ap, subst, inl, inr, ⊎_elim, arith}
use Rattle.std.proofs.lemmas.List.{take-append-le, take-append-drop}
use Rattle.std.proofs.lemmas.Bool.{cases_lt}
use Rattle.qs_tree.proofs.Elements.{slice_get-take}
use Rattle.qs_tree.specs.Lists.{◌∈◌}
use Rattle.qs_tree.proofs.Decisions.{decide_number, decide_at_most, decide_member}
use Rattle.qs_pattern.specs.Rules.{Rule, AreLeftSidesInClass}
use Rattle.qs_pattern.specs.Instances.{IsMatch}
use Rattle.qs_graph.specs.Graphs.{Arc, QGraph, Leads}
use Rattle.qs_firing.specs.Firings.{Firing, Fires}
use Rattle.qs_firing.specs.Work.{IsGreatest, IsWorkOf, Work}
use Rattle.qs_firing.proofs.Orders.{Before-asym}
use Rattle.qs_firing.proofs.Ascending.{same_ascending}
use Rattle.qs_firing.proofs.FiringDecisions.{decide_fires}
use Rattle.qs_firing.proofs.Choosing.{firings_with, with-ascends, from_with, in_with}
use Rattle.qs_firing.proofs.Within.{IsWithin, fires_stays, trees_stay}
use Rattle.qs_graph.proofs.Paths.{leads_low}

abbrev of_arcs : List Arc → QGraph
of_arcs arcs = record { nodes = 0; arcs = arcs }

front_within : (n : ℕ) (arcs : List Arc) → IsWithin (of_arcs (take n arcs)) (of_arcs arcs)
front_within n arcs = record { more = drop n arcs; arcs = sym (take-append-drop n arcs); nodes = omega arith }

leads_front : (n : ℕ) (arcs : List Arc) (a : ℕ) (ks : List ℕ) (b : ℕ) → ((k : ℕ) → k ∈ ks → k < n) → Leads arcs a ks b → Leads (take n arcs) a ks b
leads_front n arcs a [] b low l = l
leads_front n arcs a (k ∷ ks) b low (arc, is, e, l) =
    (arc, slice_get-take n arcs k (low k (inl refl)) ∙ is, e, leads_front n arcs arc.to ks b (λ m i. low m (inr i)) l)

greatest_of : (ks : List ℕ) → 0 < length ks → (m : ℕ) × IsGreatest ks m
greatest_of [] h = absurd (omega arith)
greatest_of (k ∷ []) h = (k, record { member = inl refl; at_most = λ m i. ⊎_elim (λ e. omega arith) (λ j. absurd j) i })
greatest_of (k ∷ l ∷ ks) h = split (greatest_of (l ∷ ks) (omega arith))
  where
    split : ((m : ℕ) × IsGreatest (l ∷ ks) m) → (m : ℕ) × IsGreatest (k ∷ l ∷ ks) m
    split (m, g) = ⊎_elim
        (λ lt. (k, record { member = inl refl; at_most = λ n i. ⊎_elim (λ e. omega arith) (λ j. omega (arith, g.at_most n j)) i }))
        (λ le. (m, record { member = inr g.member; at_most = λ n i. ⊎_elim (λ e. omega arith) (λ j. g.at_most n j) i }))
        (cases_lt m k)

pub one_greatest : {ks : List ℕ} {m n : ℕ} → IsGreatest ks m → IsGreatest ks n → m ≡ n
one_greatest {m = m} {n = n} g h = omega (arith, g.at_most n h.member, h.at_most m g.member)

abbrev decide_all_at_most : (ks : List ℕ) (m : ℕ) → Dec ((k : ℕ) → k ∈ ks → k ≤ m)
decide_all_at_most [] m = yes (λ k i. absurd i)
decide_all_at_most (j ∷ ks) m = both (decide_at_most j m) (decide_all_at_most ks m)
  where
    both : Dec (j ≤ m) → Dec ((k : ℕ) → k ∈ ks → k ≤ m) → Dec ((k : ℕ) → k ∈ (j ∷ ks) → k ≤ m)
    both (yes h) (yes all) = yes (λ k i. ⊎_elim (λ e. subst (λ n. n ≤ m) (sym e) h) (all k) i)
    both (no n) all = no (λ f. n (f j (inl refl)))
    both h (no n) = no (λ f. n (λ k i. f k (inr i)))

abbrev decide_greatest : (ks : List ℕ) (m : ℕ) → Dec (IsGreatest ks m)
decide_greatest ks m = both (decide_member decide_number m ks) (decide_all_at_most ks m)
  where
    both : Dec (m ∈ ks) → Dec ((k : ℕ) → k ∈ ks → k ≤ m) → Dec (IsGreatest ks m)
    both (yes i) (yes all) = yes (record { member = i; at_most = all })
    both (no n) all = no (λ g. n g.member)
    both i (no n) = no (λ g. n g.at_most)

abbrev decide_work : (R : List Rule) (arcs : List Arc) (m : ℕ) (f : Firing) → Dec (IsWorkOf R arcs m f)
decide_work R arcs m f = both (decide_fires R (take (suc m) arcs) f) (decide_greatest f.path m)
  where
    both : Dec (Fires R (take (suc m) arcs) f) → Dec (IsGreatest f.path m) → Dec (IsWorkOf R arcs m f)
    both (yes r) (yes g) = yes (record { fires = r; greatest = g })
    both (no n) g = no (λ w. n w.fires)
    both r (no n) = no (λ w. n w.greatest)

module _ (R : List Rule) where
  pub fires_of_work : {arcs : List Arc} {m : ℕ} {f : Firing} → IsWorkOf R arcs m f → Fires R arcs f
  fires_of_work {arcs = arcs} {m = m} w = fires_stays R (front_within (suc m) arcs) w.fires

  pub work_low : {arcs : List Arc} {m : ℕ} {f : Firing} → IsWorkOf R arcs m f → m < length arcs
  work_low {arcs = arcs} {m = m} {f = f} w =
      let r = fires_of_work w in leads_low arcs r.from f.path r.to r.path.leads m w.greatest.member

  -- a firing whose arcs are all among the first n fires over these
  pub fires_front : (n : ℕ) (arcs : List Arc) (f : Firing) → Fires R arcs f → ((k : ℕ) → k ∈ f.path → k < n) → Fires R (take n arcs) f
  fires_front n arcs f r low =
      let l : Leads (take n arcs) r.from f.path r.to = leads_front n arcs r.from f.path r.to low r.path.leads in
      record {
        rule = r.rule;
        is_rule = r.is_rule;
        from = r.from;
        to = r.to;
        path = record { some = r.path.some; leads = l };
        long = r.long;
        matches = subst (λ ts. IsMatch r.rule.left ts f.values) (sym (trees_stay (front_within n arcs) r.from f.path r.to l)) r.matches;
        holds = r.holds;
      }

  -- each firing is in the work of its greatest arc
  pub work_of : (arcs : List Arc) (f : Firing) → Fires R arcs f → (m : ℕ) × IsWorkOf R arcs m f
  work_of arcs f r =
      let (m, g) = greatest_of f.path r.path.some in
      (m, record { greatest = g; fires = fires_front (suc m) arcs f r (λ k i. omega (arith, g.at_most k i)) })

  same_front : {G H : QGraph} → IsWithin G H → (m : ℕ) → m < length G.arcs → take (suc m) H.arcs ≡ take (suc m) G.arcs
  same_front {G} w m h = ap (take (suc m)) w.arcs ∙ take-append-le (suc m) G.arcs w.more h

  -- new arcs never change the work of an older one
  pub work_stays : {G H : QGraph} {m : ℕ} {f : Firing} → IsWithin G H → m < length G.arcs → IsWorkOf R G.arcs m f → IsWorkOf R H.arcs m f
  work_stays {m = m} {f = f} w h x = record { fires = subst (λ xs. Fires R xs f) (sym (same_front w m h)) x.fires; greatest = x.greatest }

  pub work_back : {G H : QGraph} {m : ℕ} {f : Firing} → IsWithin G H → m < length G.arcs → IsWorkOf R H.arcs m f → IsWorkOf R G.arcs m f
  work_back {m = m} {f = f} w h x = record { fires = subst (λ xs. Fires R xs f) (same_front w m h) x.fires; greatest = x.greatest }

  pub works_stay : {G H : QGraph} {m : ℕ} {F : List Firing} → IsWithin G H → m < length G.arcs → Work R G.arcs m F → Work R H.arcs m F
  works_stay w h x = record { ascends = x.ascends; sound = λ f i. work_stays w h (x.sound f i); complete = λ f y. x.complete f (work_back w h y) }

  pub works_back : {G H : QGraph} {m : ℕ} {F : List Firing} → IsWithin G H → m < length G.arcs → Work R H.arcs m F → Work R G.arcs m F
  works_back w h x = record { ascends = x.ascends; sound = λ f i. work_back w h (x.sound f i); complete = λ f y. x.complete f (work_stays w h y) }

  pub work_older : (arcs more : List Arc) (m : ℕ) (F : List Firing) → m < length arcs → Work R arcs m F ↔ Work R (arcs ++ more) m F
  work_older arcs more m F low =
      let w : IsWithin (of_arcs arcs) (of_arcs (arcs ++ more)) = record { more = more; arcs = refl; nodes = omega arith } in
      ((λ x. works_stay w low x), λ x. works_back w low x)

  -- the work of an arc is determined
  pub one_work : {arcs : List Arc} {m : ℕ} {E F : List Firing} → Work R arcs m E → Work R arcs m F → E ≡ F
  one_work {E = E} {F = F} x y = same_ascending Before-asym E F x.ascends y.ascends (λ f i. y.complete f (x.sound f i)) (λ f i. x.complete f (y.sound f i))

  -- and it exists: the firings over the first m + 1 arcs, but for those whose greatest arc is another
  pub some_work : AreLeftSidesInClass R → (arcs : List Arc) (m : ℕ) → (F : List Firing) × Work R arcs m F
  some_work ok arcs m =
      let d = decide_work R arcs m in (
        firings_with d R (take (suc m) arcs),
        record {
          ascends = with-ascends d R (take (suc m) arcs);
          sound = from_with d R (take (suc m) arcs);
          complete = in_with d R (take (suc m) arcs) ok (λ f w. w.fires);
        },
      )
