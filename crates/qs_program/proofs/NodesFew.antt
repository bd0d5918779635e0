-- A valid graph has at most one node more than it has arcs.
use Rattle.std.proofs.Common.{◌≡◌, ℕ, zero, suc, ◌+◌, ◌<◌, ◌≤◌, Bool, true, false, List, [], ◌∷◌, length, map, refl, sym, ap, ◌∙◌, inl, inr, arith}
use Rattle.std.specs.Prelude.{nat_eq, Contains}
use Rattle.std.specs.List.{IsDistinct, AllByRecursion}
use Rattle.std.specs.Set.{is_member}
use Rattle.std.specs.Cmp.{unsigned_Decides}
use Rattle.std.proofs.lemmas.Cmp.{nat_eq_equiv}
use Rattle.std.proofs.lemmas.List.{length-map}
use Rattle.std.proofs.lemmas.Map.Made.{is_member-Decides, length-le_from_is_member}
use Rattle.qs_graphtext.proofs.GraphsOfChains.{member_contains}
use Rattle.qs_tree.specs.Lists.{◌∈◌}
use Rattle.qs_tree.proofs.Members.{in_map}
use Rattle.qs_graph.specs.Graphs.{Arc, QGraph, IsValid}

-- the nodes from n down to 1
abbrev down_from : ℕ → List ℕ
down_from zero = []
down_from (suc n) = suc n ∷ down_from n

length-down_from : (n : ℕ) → length (down_from n) ≡ n
length-down_from zero = refl
length-down_from (suc n) = ap suc (length-down_from n)

differ : (m n : ℕ) → n < m → nat_eq m n ≡ false
differ m n h = by (nat_eq m n) refl
  where
    by : (b : Bool) → nat_eq m n ≡ b → b ≡ false
    by true e = absurd (omega (arith, (unsigned_Decides m n).0 e))
    by false e = refl

all_differ : (m n : ℕ) → n < m → AllByRecursion (λ y. nat_eq m y ≡ false) (down_from n)
all_differ m zero h = tt
all_differ m (suc n) h = (differ m (suc n) h, all_differ m n (omega arith))

distinct : (n : ℕ) → IsDistinct nat_eq (down_from n)
unfolding IsDistinct
distinct zero = tt
distinct (suc n) = (all_differ (suc n) n (omega arith), distinct n)

within : (n q : ℕ) → Contains (down_from n) q → (1 ≤ q) × (q ≤ n)
within zero q (k, h, e) = absurd (omega arith)
within (suc n) q (zero, h, e) = (omega arith, omega arith)
within (suc n) q (suc k, h, e) = let r = within n q (k, omega arith, e) in (r.0, omega (arith, r.1))

module _ (G : QGraph) (valid : IsValid G) where
  -- the entry, and the nodes into which arcs lead
  abbrev reached : List ℕ
  reached = valid.entry.one ∷ map (λ (arc : Arc). arc.to) G.arcs

  is_reached : (q : ℕ) → q ∈ reached → is_member nat_eq reached q ≡ true
  is_reached q i = (is_member-Decides unsigned_Decides reached q).1 (member_contains reached q i)

  not_both : (q : ℕ) → is_member nat_eq reached q ≡ false → q ∈ reached → ⊥
  not_both q e i = let other : true ≡ false = sym (is_reached q i) ∙ e in cc

  each_node : (q : ℕ) → is_member nat_eq (down_from G.nodes) q ≡ true → is_member nat_eq reached q ≡ true
  each_node q m = by (is_member nat_eq reached q) refl
    where
      by : (b : Bool) → is_member nat_eq reached q ≡ b → b ≡ true
      by true e = refl
      by false e =
          let node : (1 ≤ q) × (q ≤ G.nodes) = within G.nodes q ((is_member-Decides unsigned_Decides (down_from G.nodes) q).0 m) in
          let entry : q ≡ valid.entry.one =
          valid.entry.only q (record {
            node = node;
            none_in = λ arc i at. not_both q e (inr (subst_member arc i at));
          }) in
          absurd (not_both q e (inl entry))
        where
          subst_member : (arc : Arc) → arc ∈ G.arcs → arc.to ≡ q → q ∈ map (λ (arc : Arc). arc.to) G.arcs
          subst_member arc i at = moved (map (λ (arc : Arc). arc.to) G.arcs) (in_map (λ (arc : Arc). arc.to) G.arcs arc i)
            where
              moved : (ns : List ℕ) → arc.to ∈ ns → q ∈ ns
              moved [] j = absurd j
              moved (n ∷ ns) (inl j) = inl (sym at ∙ j)
              moved (n ∷ ns) (inr j) = inr (moved ns j)

  pub nodes_few : G.nodes ≤ length G.arcs + 1
  nodes_few =
      omega (arith, length-le_from_is_member nat_eq_equiv (down_from G.nodes) reached (distinct G.nodes) each_node, length-down_from G.nodes, length-map G.arcs (λ (arc : Arc). arc.to))
