-- What cleaning leaves of the closures of the examples.
use Rattle.std.proofs.Common.{◌≡◌, ℕ, ◌<◌, List, [], ◌∷◌, length, refl, sym, ◌∙◌, ap, subst, inl, inr, ⊎_elim, arith, Some, slice_get}
use Rattle.qs_tree.specs.Lists.{◌∈◌}
use Rattle.qs_graph.specs.Graphs.{Arc, Leads, IsEntry, IsExit}
use Rattle.qs_firing.specs.Firings.{Firing}
use Rattle.qs_canon.specs.Rounds.{firings}
use Rattle.qs_clean.specs.Cleaning.{IsDenoted, Stays, Cleans}
use Rattle.qs_clean.specs.Examples.{A, B, C, X, Y, arc, done, one_rule_closure, one_rule_cleaned, equal_rules_closure, equal_rules_cleaned, overlapping_closure, nothing}
use Rattle.qs_firing.proofs.Listing.{in_range}
use Rattle.qs_clean.proofs.Straight.{each_of, IsStraight, ends_are, other_stays, first_goes}

pub one_rule_cleans : Cleans one_rule_closure one_rule_cleaned
one_rule_cleans = record {
  kept = 1 ∷ [];
  kept_ascend = (λ y i. absurd i, tt);
  kept_are = λ k. (stays k, from_stays k);
  left = 1 ∷ 2 ∷ [];
  left_ascend = (λ y i. ⊎_elim (λ e. omega arith) (λ h. absurd h) i, (λ y i. absurd i, tt));
  left_are = ends_are (arc 1 B 2 ∷ []) (each_of IsStraight (arc 1 B 2) [] (refl, refl) (λ y i. absurd i)) (arc 1 B 2) (inl refl);
  nodes = refl;
  arcs = refl;
}
  where
    straight : (a : Arc) → a ∈ one_rule_closure.graph.arcs → IsStraight a
    straight = each_of IsStraight (arc 1 A 2) (arc 1 B 2 ∷ []) (refl, refl) (each_of IsStraight (arc 1 B 2) [] (refl, refl) (λ y i. absurd i))

    paths : (f : Firing) → f ∈ firings one_rule_closure → f.path ≡ 0 ∷ []
    paths f (inl e) = ap (λ (g : Firing). g.path) e
    paths f (inr i) = absurd i

    denoted : IsDenoted one_rule_closure 0
    denoted = record { by = (done 0 (0 ∷ []) 1 1).firing; done = inl refl; used = inl refl }

    stays : (k : ℕ) → k ∈ (1 ∷ []) → Stays one_rule_closure k
    stays k (inl e) = subst (Stays one_rule_closure) (sym e) (other_stays one_rule_closure refl straight paths 1 (arc 1 B 2) refl (omega arith))
    stays k (inr i) = absurd i

    from_stays : (k : ℕ) → Stays one_rule_closure k → k ∈ (1 ∷ [])
    from_stays k s = split (first_goes one_rule_closure refl straight paths k denoted s) (in_range one_rule_closure.graph.arcs s.entry s.path s.exit s.leads.leads k s.on)
      where
        split : 0 < k → k ∈ (0 ∷ 1 ∷ []) → k ∈ (1 ∷ [])
        split h (inl e) = absurd (omega arith)
        split h (inr i) = i

pub equal_rules_clean : Cleans equal_rules_closure equal_rules_cleaned
equal_rules_clean = record {
  kept = 1 ∷ 2 ∷ [];
  kept_ascend = (λ y i. ⊎_elim (λ e. omega arith) (λ h. absurd h) i, (λ y i. absurd i, tt));
  kept_are = λ k. (stays k, from_stays k);
  left = 1 ∷ 2 ∷ [];
  left_ascend = (λ y i. ⊎_elim (λ e. omega arith) (λ h. absurd h) i, (λ y i. absurd i, tt));
  left_are = ends_are (arc 1 B 2 ∷ arc 1 B 2 ∷ []) (each_of IsStraight (arc 1 B 2) (arc 1 B 2 ∷ []) (refl, refl) (each_of IsStraight (arc 1 B 2) [] (refl, refl) (λ y i. absurd i))) (arc 1 B 2) (inl refl);
  nodes = refl;
  arcs = refl;
}
  where
    straight : (a : Arc) → a ∈ equal_rules_closure.graph.arcs → IsStraight a
    straight =
        each_of IsStraight (arc 1 A 2) (arc 1 B 2 ∷ arc 1 B 2 ∷ []) (refl, refl)
        (each_of IsStraight (arc 1 B 2) (arc 1 B 2 ∷ []) (refl, refl) (each_of IsStraight (arc 1 B 2) [] (refl, refl) (λ y i. absurd i)))

    paths : (f : Firing) → f ∈ firings equal_rules_closure → f.path ≡ 0 ∷ []
    paths f (inl e) = ap (λ (g : Firing). g.path) e
    paths f (inr (inl e)) = ap (λ (g : Firing). g.path) e
    paths f (inr (inr i)) = absurd i

    denoted : IsDenoted equal_rules_closure 0
    denoted = record { by = (done 0 (0 ∷ []) 1 1).firing; done = inl refl; used = inl refl }

    stays : (k : ℕ) → k ∈ (1 ∷ 2 ∷ []) → Stays equal_rules_closure k
    stays k (inl e) = subst (Stays equal_rules_closure) (sym e) (other_stays equal_rules_closure refl straight paths 1 (arc 1 B 2) refl (omega arith))
    stays k (inr (inl e)) = subst (Stays equal_rules_closure) (sym e) (other_stays equal_rules_closure refl straight paths 2 (arc 1 B 2) refl (omega arith))
    stays k (inr (inr i)) = absurd i

    from_stays : (k : ℕ) → Stays equal_rules_closure k → k ∈ (1 ∷ 2 ∷ [])
    from_stays k s = split (first_goes equal_rules_closure refl straight paths k denoted s) (in_range equal_rules_closure.graph.arcs s.entry s.path s.exit s.leads.leads k s.on)
      where
        split : 0 < k → k ∈ (0 ∷ 1 ∷ 2 ∷ []) → k ∈ (1 ∷ 2 ∷ [])
        split h (inl e) = absurd (omega arith)
        split h (inr i) = i

-- an arc of this number is this arc
is_arc : {k j : ℕ} {a b : Arc} → k ≡ j → slice_get overlapping_closure.graph.arcs k ≡ Some a → slice_get overlapping_closure.graph.arcs j ≡ Some b → a ≡ b
is_arc e p q = let r : Some _ ≡ Some _ = sym p ∙ ap (slice_get overlapping_closure.graph.arcs) e ∙ q in cc

-- the arc X ends at the node 4, from which neither X nor Y leads on, and which isn't the exit
stuck : (ks : List ℕ) (b : ℕ) → IsExit overlapping_closure.graph b → Leads overlapping_closure.graph.arcs 4 ks b → ((j : ℕ) → j ∈ ks → j ∈ (3 ∷ 4 ∷ [])) → ⊥
stuck [] b exit e few = exit.none_out (arc 4 C 2) (inr (inr (inl refl))) e
stuck (k ∷ ks) b exit (a, is, e, rest) few = split (few k (inl refl))
  where
    split : k ∈ (3 ∷ 4 ∷ []) → ⊥
    split (inl f) = let g = ap (λ (x : Arc). x.from) (is_arc {b = arc 1 X 4} f is refl) in omega arith
    split (inr (inl f)) = let g = ap (λ (x : Arc). x.from) (is_arc {b = arc 3 Y 2} f is refl) in omega arith
    split (inr (inr i)) = i

-- neither X nor Y leads from the entry to the exit
neither_leads : (a : ℕ) (ks : List ℕ) (b : ℕ) → IsEntry overlapping_closure.graph a → IsExit overlapping_closure.graph b → Leads overlapping_closure.graph.arcs a ks b → 0 < length ks
    → ((j : ℕ) → j ∈ ks → j ∈ (3 ∷ 4 ∷ [])) → ⊥
neither_leads a [] b entry exit l some few = omega arith
neither_leads a (k ∷ ks) b entry exit (c, is, e, rest) some few = split (few k (inl refl))
  where
    split : k ∈ (3 ∷ 4 ∷ []) → ⊥
    split (inl f) = let g = ap (λ (x : Arc). x.to) (is_arc {b = arc 1 X 4} f is refl) in
        stuck ks b exit (subst (λ n. Leads overlapping_closure.graph.arcs n ks b) g rest) (λ j i. few j (inr i))
    split (inr (inl f)) =
        let g = ap (λ (x : Arc). x.from) (is_arc {b = arc 3 Y 2} f is refl) in
        entry.none_in (arc 1 A 3) (inl refl) (sym g ∙ e)
    split (inr (inr i)) = i

pub overlapping_rules_clean : Cleans overlapping_closure nothing
overlapping_rules_clean = record {
  kept = [];
  kept_ascend = tt;
  kept_are = λ k. (λ i. absurd i, λ s. gone k s);
  left = [];
  left_ascend = tt;
  left_are = λ n. (λ i. absurd i, λ e. e.1);
  nodes = refl;
  arcs = refl;
}
  where
    denoted : (k : ℕ) → k ∈ (0 ∷ 1 ∷ 2 ∷ []) → IsDenoted overlapping_closure k
    denoted k (inl e) = record { by = (done 0 (0 ∷ 1 ∷ []) 3 1).firing; done = inl refl; used = inl e }
    denoted k (inr (inl e)) = record { by = (done 0 (0 ∷ 1 ∷ []) 3 1).firing; done = inl refl; used = inr (inl e) }
    denoted k (inr (inr (inl e))) = record { by = (done 1 (1 ∷ 2 ∷ []) 4 1).firing; done = inr (inl refl); used = inr (inl e) }
    denoted k (inr (inr (inr i))) = absurd i

    -- no arc is left but X and Y
    added : (k : ℕ) → (IsDenoted overlapping_closure k → ⊥) → k ∈ (0 ∷ 1 ∷ 2 ∷ 3 ∷ 4 ∷ []) → k ∈ (3 ∷ 4 ∷ [])
    added k u (inl e) = absurd (u (denoted k (inl e)))
    added k u (inr (inl e)) = absurd (u (denoted k (inr (inl e))))
    added k u (inr (inr (inl e))) = absurd (u (denoted k (inr (inr (inl e)))))
    added k u (inr (inr (inr i))) = i

    gone : (k : ℕ) → Stays overlapping_closure k → ⊥
    gone k s = neither_leads s.entry s.path s.exit s.is_entry s.is_exit s.leads.leads s.leads.some
        (λ j i. added j (s.undenoted j i) (in_range overlapping_closure.graph.arcs s.entry s.path s.exit s.leads.leads j i))
