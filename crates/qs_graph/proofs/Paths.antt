-- Paths: their parts and their ends, and relations that rise along arcs.
use Rattle.std.proofs.Common.{◌≡◌, ◌⊎◌, ◌<◌, ℕ, zero, suc, Some, slice_get, List, [], ◌∷◌, ◌++◌, length, refl, sym, ap, subst, inl, inr, ⊎_elim, arith, length-append}
use Rattle.std.proofs.lemmas.Option.{slice_get_within}
use Rattle.qs_tree.specs.Lists.{◌∈◌}
use Rattle.qs_graph.specs.Graphs.{Arc, QGraph, Leads, IsPath, IsValid}
use Rattle.qs_tree.proofs.Members.{in_at}

-- a member stands at a place of the list
pub place_of : {X : Type 0} (xs : List X) (x : X) → x ∈ xs → (k : ℕ) × (slice_get xs k ≡ Some x)
place_of [] x i = absurd i
place_of (y ∷ xs) x (inl e) = (0, ap Some (sym e))
place_of (y ∷ xs) x (inr i) = let (k, is) = place_of xs x i in (suc k, is)

-- a place of a list is there in a longer one
pub slice_get-append : {X : Type 0} (xs ys : List X) (k : ℕ) (x : X) → slice_get xs k ≡ Some x → slice_get (xs ++ ys) k ≡ Some x
slice_get-append [] ys k x e = absurd cc
slice_get-append (y ∷ xs) ys zero x e = e
slice_get-append (y ∷ xs) ys (suc k) x e = slice_get-append xs ys k x e

-- the arcs of a path are arcs of the graph
pub leads_low : (arcs : List Arc) (a : ℕ) (ks : List ℕ) (b : ℕ) → Leads arcs a ks b → (k : ℕ) → k ∈ ks → k < length arcs
leads_low arcs a [] b l k i = absurd i
leads_low arcs a (m ∷ ks) b (arc, is, e, l) k (inl same) = omega (arith, slice_get_within arcs m arc is)
leads_low arcs a (m ∷ ks) b (arc, is, e, l) k (inr i) = leads_low arcs arc.to ks b l k i

-- one path behind another
pub leads-append : (arcs : List Arc) (a : ℕ) (ks : List ℕ) (b : ℕ) (ls : List ℕ) (c : ℕ) → Leads arcs a ks b → Leads arcs b ls c → Leads arcs a (ks ++ ls) c
leads-append arcs a [] b ls c e m = subst (λ n. Leads arcs n ls c) (sym e) m
leads-append arcs a (k ∷ ks) b ls c (arc, is, e, l) m = (arc, is, e, leads-append arcs arc.to ks b ls c l m)

-- a path is a path over more arcs
pub leads_more : (arcs more : List Arc) (a : ℕ) (ks : List ℕ) (b : ℕ) → Leads arcs a ks b → Leads (arcs ++ more) a ks b
leads_more arcs more a [] b e = e
leads_more arcs more a (k ∷ ks) b (arc, is, e, l) = (arc, slice_get-append arcs more k arc is, e, leads_more arcs more arc.to ks b l)

-- the first and the last arc of a path
pub first_arc : (arcs : List Arc) (a : ℕ) (path : List ℕ) (b : ℕ) → IsPath arcs a path b → (arc : Arc) × (arc ∈ arcs) × (arc.from ≡ a)
first_arc arcs a [] b p = absurd (omega (arith, p.some))
first_arc arcs a (k ∷ ks) b p = let (arc, is, e, l) = p.leads in (arc, in_at arcs k arc is, e)

leads_last : (arcs : List Arc) (a k : ℕ) (ks : List ℕ) (b : ℕ) → Leads arcs a (k ∷ ks) b → (arc : Arc) × (arc ∈ arcs) × (arc.to ≡ b)
leads_last arcs a k [] b (arc, is, e, l) = (arc, in_at arcs k arc is, l)
leads_last arcs a k (j ∷ ks) b (arc, is, e, l) = leads_last arcs arc.to j ks b l

pub last_arc : (arcs : List Arc) (a : ℕ) (path : List ℕ) (b : ℕ) → IsPath arcs a path b → (arc : Arc) × (arc ∈ arcs) × (arc.to ≡ b)
last_arc arcs a [] b p = absurd (omega (arith, p.some))
last_arc arcs a (k ∷ ks) b p = leads_last arcs a k ks b p.leads

-- what rises along each arc, and is transitive, rises along each path
module _ (Above : ℕ → ℕ → Type 0) (trans : (a b c : ℕ) → Above a b → Above b c → Above a c) (arcs : List Arc) (rises : (arc : Arc) → arc ∈ arcs → Above arc.from arc.to) where
  leads_above : (a k : ℕ) (ks : List ℕ) (b : ℕ) → Leads arcs a (k ∷ ks) b → Above a b
  leads_above a k [] b (arc, is, e, l) =
      subst (λ n. Above n b) e (subst (λ n. Above arc.from n) l (rises arc (in_at arcs k arc is)))
  leads_above a k (j ∷ ks) b (arc, is, e, l) =
      trans a arc.to b (subst (λ n. Above n arc.to) e (rises arc (in_at arcs k arc is))) (leads_above arc.to j ks b l)

  pub path_above : (a : ℕ) (path : List ℕ) (b : ℕ) → IsPath arcs a path b → Above a b
  path_above a [] b p = absurd (omega (arith, p.some))
  path_above a (k ∷ ks) b p = leads_above a k ks b p.leads

-- some path leads from the one node to the other
pub record Joined (arcs : List Arc) (a b : ℕ) : Type 0 where
  pub path : List ℕ
  pub is : IsPath arcs a path b

pub joined_arc : (arcs : List Arc) (arc : Arc) → arc ∈ arcs → Joined arcs arc.from arc.to
joined_arc arcs arc i =
    let (k, is) = place_of arcs arc i in
    record { path = k ∷ []; is = record { some = omega arith; leads = (arc, is, refl, refl) } }

pub joined_on : (arcs : List Arc) (a b c : ℕ) → Joined arcs a b → Joined arcs b c → Joined arcs a c
joined_on arcs a b c p q = record {
  path = p.path ++ q.path;
  is = record {
    some = omega (arith, p.is.some, length-append p.path q.path);
    leads = leads-append arcs a p.path b q.path c p.is.leads q.is.leads;
  };
}

abbrev pub JoinedOrSame : List Arc → ℕ → ℕ → Type 0
JoinedOrSame arcs a b = (a ≡ b) ⊎ Joined arcs a b

pub joined_then : (arcs : List Arc) (a b c : ℕ) → Joined arcs a b → JoinedOrSame arcs b c → Joined arcs a c
joined_then arcs a b c p q = ⊎_elim (λ e. subst (λ n. Joined arcs a n) e p) (λ r. joined_on arcs a b c p r) q

pub then_joined : (arcs : List Arc) (a b c : ℕ) → JoinedOrSame arcs a b → Joined arcs b c → Joined arcs a c
then_joined arcs a b c q p = ⊎_elim (λ e. subst (λ n. Joined arcs n c) (sym e) p) (λ r. joined_on arcs a b c r p) q

-- in a valid graph no node is joined to itself
pub not_joined : (G : QGraph) → IsValid G → (a : ℕ) → Joined G.arcs a a → ⊥
not_joined G valid a j = valid.no_cycle a j.path j.is
