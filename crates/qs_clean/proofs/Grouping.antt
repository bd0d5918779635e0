-- Grouping links by the nodes from which they lead.
use Rattle.std.proofs.Common.{◌≡◌, ◌⊎◌, ℕ, zero, suc, ◌<◌, List, [], ◌∷◌, ◌++◌, length, get_or, set, refl, sym, ap, subst, inl, inr, ⊎_elim, arith}
use Rattle.qs_tree.specs.Lists.{◌∈◌}
use Rattle.qs_tree.proofs.Members.{from_append, in_append_left, in_append_right}
use Rattle.qs_clean.specs.declared.links.Link.{Link}
use Rattle.qs_clean.specs.working.Links.{IsLinked, AreGroups}

in_empty : (groups : List (List ℕ)) (a b : ℕ) → b ∈ get_or (groups ++ [] ∷ []) a [] → b ∈ get_or groups a []
in_empty [] zero b i = i
in_empty [] (suc a) b i = i
in_empty (g ∷ groups) zero b i = i
in_empty (g ∷ groups) (suc a) b i = in_empty groups a b i

-- one more empty group
pub empty_group : (groups new : List (List ℕ)) → new ≡ groups ++ [] ∷ [] → AreGroups [] groups → AreGroups [] new
empty_group groups new e g = subst (AreGroups []) (sym e) (record {
  sound = λ a b i. g.sound a b (in_empty groups a b i);
  all = λ link i. absurd i;
})

pub no_groups : AreGroups [] []
no_groups = record { sound = λ a b i. absurd i; all = λ link i. absurd i }

linked_more : (links more : List Link) (a b : ℕ) → IsLinked links a b → IsLinked (links ++ more) a b
linked_more links more a b l = record { link = l.link; is_in = in_append_left links more l.link l.is_in; from = l.from; to = l.to }

-- one member more in one group
in_group : (groups : List (List ℕ)) (k t a b : ℕ) → b ∈ get_or (set groups k (get_or groups k [] ++ t ∷ [])) a [] → (b ∈ get_or groups a []) ⊎ ((a ≡ k) × (b ≡ t))
in_group [] k t a b i = inl i
in_group (g ∷ groups) zero t zero b i = ⊎_elim inl (λ j. ⊎_elim (λ e. inr (refl, e)) (λ none. absurd none) j) (from_append g (t ∷ []) b i)
in_group (g ∷ groups) zero t (suc a) b i = inl i
in_group (g ∷ groups) (suc k) t zero b i = inl i
in_group (g ∷ groups) (suc k) t (suc a) b i = ⊎_elim inl (λ p. inr (ap suc p.0, p.1)) (in_group groups k t a b i)

still_in_group : (groups : List (List ℕ)) (k t a b : ℕ) → b ∈ get_or groups a [] → b ∈ get_or (set groups k (get_or groups k [] ++ t ∷ [])) a []
still_in_group [] k t a b i = i
still_in_group (g ∷ groups) zero t zero b i = in_append_left g (t ∷ []) b i
still_in_group (g ∷ groups) zero t (suc a) b i = i
still_in_group (g ∷ groups) (suc k) t zero b i = i
still_in_group (g ∷ groups) (suc k) t (suc a) b i = still_in_group groups k t a b i

new_in_group : (groups : List (List ℕ)) (k t : ℕ) → k < length groups → t ∈ get_or (set groups k (get_or groups k [] ++ t ∷ [])) k []
new_in_group [] k t l = absurd (omega arith)
new_in_group (g ∷ groups) zero t l = in_append_right g (t ∷ []) t (inl refl)
new_in_group (g ∷ groups) (suc k) t l = new_in_group groups k t (omega arith)

-- one more link
pub group_link : (links : List Link) (groups new : List (List ℕ)) (link : Link) → link.from < length groups → new ≡ set groups link.from (get_or groups link.from [] ++ link.to ∷ [])
    → AreGroups links groups → AreGroups (links ++ link ∷ []) new
group_link links groups new link l e g = subst (AreGroups (links ++ link ∷ [])) (sym e) (record {
  sound = λ a b i. ⊎_elim
      (λ j. linked_more links (link ∷ []) a b (g.sound a b j))
      (λ p. record { link = link; is_in = in_append_right links (link ∷ []) link (inl refl); from = sym p.0; to = sym p.1 })
      (in_group groups link.from link.to a b i);
  all = λ other i. ⊎_elim
      (λ j. still_in_group groups link.from link.to other.from other.to (g.all other j))
      (λ j. ⊎_elim
      (λ s. subst (λ (o : Link). o.to ∈ get_or (set groups link.from (get_or groups link.from [] ++ link.to ∷ [])) o.from []) (sym s) (new_in_group groups link.from link.to l))
      (λ none. absurd none)
      j)
      (from_append links (link ∷ []) other i);
})
