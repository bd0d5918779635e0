-- In a valid graph each node stands on an arc.
use Rattle.std.proofs.Common.{◌≡◌, ◌≢◌, ◌⊎◌, ℕ, ◌<◌, refl, sym, ◌∙◌, subst, inl, inr, List, [], ◌∷◌, length, map, arith}
use Rattle.qs_tree.specs.Lists.{◌∈◌}
use Rattle.qs_tree.proofs.Members.{mapped, in_map}
use Rattle.qs_graph.specs.Graphs.{Arc, QGraph, IsNode, IsValid}
use Rattle.qs_graph.proofs.Numbers.{decide_in}
use Rattle.qs_graph.proofs.GoingRound.{goes_round}

-- some arc leads from the node, or to it
abbrev pub IsOnArc : List Arc → ℕ → Type 0
IsOnArc arcs n = (arc : Arc) × (arc ∈ arcs) × ((arc.from ≡ n) ⊎ (arc.to ≡ n))

module _ (G : QGraph) (valid : IsValid G) (n : ℕ) (node : IsNode G n) (none_in : (arc : Arc) → arc ∈ G.arcs → arc.to ≢ n) (none_out : (arc : Arc) → arc ∈ G.arcs → arc.from ≢ n) where
  -- the node would be the entry, so that an arc leads to each other node, and from another one
  abbrev IsOther : ℕ → Type 0
  IsOther m = IsNode G m × (m ≢ n)

  the_entry : n ≡ valid.entry.one
  the_entry = valid.entry.only n (record { node = node; none_in = none_in })

  other_back : (m : ℕ) → IsOther m → (arc : Arc) × (arc ∈ G.arcs) × (arc.to ≡ m) × IsOther arc.from
  other_back m other = by (decide_in m (map (λ arc. arc.to) G.arcs))
    where
      by : Dec (m ∈ map (λ (arc : Arc). arc.to) G.arcs) → (arc : Arc) × (arc ∈ G.arcs) × (arc.to ≡ m) × IsOther arc.from
      by (yes i) = let (arc, j, to) = mapped (λ x. x.to) G.arcs m i in (arc, j, sym to, ((valid.in_range arc j).0, none_out arc j))
      by (no f) = absurd (other.1 (valid.entry.only m (record {
        node = other.0;
        none_in = λ arc j e. f (subst (λ k. k ∈ map (λ (x : Arc). x.to) G.arcs) e (in_map (λ (x : Arc). x.to) G.arcs arc j));
      }) ∙ sym the_entry))

  first_other : (arcs : List Arc) → 0 < length arcs → ((arc : Arc) → arc ∈ arcs → arc ∈ G.arcs) → (m : ℕ) × IsOther m
  first_other [] some h = absurd (omega (arith, some))
  first_other (arc ∷ arcs) some h = (arc.from, ((valid.in_range arc (h arc (inl refl))).0, none_out arc (h arc (inl refl))))

  not_alone : ⊥
  not_alone =
      let (m, other) = first_other G.arcs valid.some_arc (λ arc i. i) in
      let cycle = goes_round G.nodes G.arcs IsOther (λ k left. left.0) other_back m other in
      valid.no_cycle cycle.node cycle.path cycle.is

pub on_arc : (G : QGraph) → IsValid G → (n : ℕ) → IsNode G n → IsOnArc G.arcs n
on_arc G valid n node = by (decide_in n (map (λ arc. arc.to) G.arcs)) (decide_in n (map (λ arc. arc.from) G.arcs))
  where
    by : Dec (n ∈ map (λ (arc : Arc). arc.to) G.arcs) → Dec (n ∈ map (λ (arc : Arc). arc.from) G.arcs) → IsOnArc G.arcs n
    by (yes i) other = let (arc, j, e) = mapped (λ x. x.to) G.arcs n i in (arc, j, inr (sym e))
    by (no f) (yes i) = let (arc, j, e) = mapped (λ x. x.from) G.arcs n i in (arc, j, inl (sym e))
    by (no f) (no g) = absurd (not_alone G valid n node
        (λ arc j e. f (subst (λ k. k ∈ map (λ (x : Arc). x.to) G.arcs) e (in_map (λ (x : Arc). x.to) G.arcs arc j)))
        (λ arc j e. g (subst (λ k. k ∈ map (λ (x : Arc). x.from) G.arcs) e (in_map (λ (x : Arc). x.from) G.arcs arc j))))
