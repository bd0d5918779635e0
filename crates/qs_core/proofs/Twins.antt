-- Where the rules are unique, a graph that grew has no equal arcs but the start's.
use Rattle.std.proofs.Common.{◌≡◌, ℕ, zero, suc, ◌+◌, ◌<◌, ◌≤◌, true, List, [], ◌∷◌, ◌++◌, length, refl, sym, ◌∙◌, ap, subst, inl, inr, ⊎_elim, ◌⊎◌, arith, Option, Some, None, slice_get}
use Rattle.std.proofs.lemmas.Option.{slice_get_within}
use Rattle.qs_tree.specs.Lists.{◌∈◌}
use Rattle.qs_tree.specs.Trees.{Tree}
use Rattle.qs_tree.proofs.Members.{in_at}
use Rattle.qs_pattern.specs.Rules.{Rule, all_unique}
use Rattle.qs_graph.specs.Graphs.{Arc, QGraph, IsPath, IsValid}
use Rattle.qs_graph.specs.Chains.{chain}
use Rattle.qs_graph.proofs.Paths.{place_of}
use Rattle.qs_firing.specs.Firings.{Firing, Fires}
use Rattle.qs_firing.specs.Adding.{adds, added, built, met, unless_met, start_of, end_of}
use Rattle.qs_firing.proofs.Merging.{met_at}
use Rattle.qs_firing.proofs.Within.{within_adds, within_length}
use Rattle.qs_core.specs.Growth.{Grown, NoTwins}
use Rattle.qs_core.proofs.Growth.{start_is, end_is}

-- a place in two lists, one behind the other
pub split_at : {X : Type 0} (xs ys : List X) (n : ℕ) (x : X) → slice_get (xs ++ ys) n ≡ Some x → (slice_get xs n ≡ Some x) ⊎ ((j : ℕ) × (n ≡ length xs + j) × (slice_get ys j ≡ Some x))
split_at [] ys n x e = inr (n, omega arith, e)
split_at (z ∷ xs) ys zero x e = inl e
split_at (z ∷ xs) ys (suc n) x e = ⊎_elim inl (λ (j, h, d). inr (j, omega arith, d)) (split_at xs ys n x e)

-- the ends of the arcs of a chain
pub chain_at : (a : ℕ) (ts : List Tree) (next b j : ℕ) (arc : Arc) → slice_get (chain a ts next b) j ≡ Some arc
    → (((j ≡ 0) × (arc.from ≡ a)) ⊎ ((1 ≤ j) × (arc.from + 1 ≡ next + j))) × (((j + 1 ≡ length ts) × (arc.to ≡ b)) ⊎ ((j + 1 < length ts) × (arc.to ≡ next + j)))
chain_at a [] next b j arc e = absurd cc
chain_at a (t ∷ []) next b zero arc e =
    let d : record { from = a; to = b; tree = t } ≡ arc = cc in
    (inl (refl, sym (ap (λ (x : Arc). x.from) d)), inl (omega arith, sym (ap (λ (x : Arc). x.to) d)))
chain_at a (t ∷ []) next b (suc j) arc e = absurd cc
chain_at a (t ∷ u ∷ ts) next b zero arc e =
    let d : record { from = a; to = next; tree = t } ≡ arc = cc in
    (inl (refl, sym (ap (λ (x : Arc). x.from) d)), inr (omega arith, omega (arith, ap (λ (x : Arc). x.to) d)))
chain_at a (t ∷ u ∷ ts) next b (suc j) arc e =
    let (f, g) = chain_at next (u ∷ ts) (next + 1) b j arc e in (
      ⊎_elim (λ (z, h). inr (omega arith, omega arith)) (λ (z, h). inr (omega arith, omega arith)) f,
      ⊎_elim (λ (z, h). inl (omega arith, h)) (λ (z, h). inr (omega arith, omega arith)) g,
    )

-- the ends of the arcs are among the nodes
abbrev pub HasEnds : QGraph → Type 0
HasEnds G = (arc : Arc) → arc ∈ G.arcs → (arc.from ≤ G.nodes) × (arc.to ≤ G.nodes)

pub valid_ends : {G : QGraph} → IsValid G → HasEnds G
valid_ends v arc i = let (f, t) = v.in_range arc i in (f.1, t.1)

path_ends : (G : QGraph) → HasEnds G → (a : ℕ) (ks : List ℕ) (b : ℕ) → IsPath G.arcs a ks b → (a ≤ G.nodes) × (b ≤ G.nodes)
path_ends G ends a [] b p = absurd (omega (arith, p.some))
path_ends G ends a (k ∷ []) b p =
    let (arc, is, e, l) = p.leads in
    let (f, t) = ends arc (in_at G.arcs k arc is) in
    (omega arith, omega arith)
path_ends G ends a (k ∷ m ∷ ks) b p =
    let (arc, is, e, l) = p.leads in
    let (f, t) = ends arc (in_at G.arcs k arc is) in
    let (f', t') = path_ends G ends arc.to (m ∷ ks) b (record { some = omega arith; leads = l }) in
    (omega arith, t')

module _ (R : List Rule) (G : QGraph) (ends : HasEnds G) (f : Firing) (fires : Fires R G.arcs f) where
  its_ends : (start_of G.arcs f.path ≤ G.nodes) × (end_of G.arcs f.path ≤ G.nodes)
  its_ends =
      let (a, b) = path_ends G ends fires.from f.path fires.to fires.path in
      (omega (arith, start_is G.arcs fires.from f.path fires.to fires.path), omega (arith, end_is G.arcs fires.from f.path fires.to fires.path))

  pub more_ends : HasEnds (adds R G f)
  more_ends arc i =
      let (k, at) = place_of (adds R G f).arcs arc i in
      ⊎_elim (old k) (new k) (split_at G.arcs (chain (start_of G.arcs f.path) (added R G f) (G.nodes + 1) (end_of G.arcs f.path)) k arc at)
    where
      old : (k : ℕ) → slice_get G.arcs k ≡ Some arc → (arc.from ≤ (adds R G f).nodes) × (arc.to ≤ (adds R G f).nodes)
      old k at = let (a, b) = ends arc (in_at G.arcs k arc at) in (omega arith, omega arith)

      new : (k : ℕ) → ((j : ℕ) × (k ≡ length G.arcs + j) × (slice_get (chain (start_of G.arcs f.path) (added R G f) (G.nodes + 1) (end_of G.arcs f.path)) j ≡ Some arc))
          → (arc.from ≤ (adds R G f).nodes) × (arc.to ≤ (adds R G f).nodes)
      new k (j, e, at) =
          let (a, b) = its_ends in
          let (p, q) = chain_at (start_of G.arcs f.path) (added R G f) (G.nodes + 1) (end_of G.arcs f.path) j arc at in
          let low : j + 1 ≤ length (added R G f) = ⊎_elim (λ (z, h). omega arith) (λ (z, h). omega arith) q in
          (⊎_elim (λ (z, h). omega arith) (λ (z, h). omega arith) p, ⊎_elim (λ (z, h). omega arith) (λ (z, h). omega arith) q)

  module _ (unique : all_unique R ≡ true) where
    -- an added arc is none of the old ones
    new_old : (j k : ℕ) (arc : Arc) → slice_get (chain (start_of G.arcs f.path) (added R G f) (G.nodes + 1) (end_of G.arcs f.path)) j ≡ Some arc → slice_get G.arcs k ≡ Some arc → ⊥
    new_old j k arc at old = tested (met R G f) refl (built R f) refl at
      where
        tested : (o : Option ℕ) → met R G f ≡ o → (ts : List Tree) → built R f ≡ ts → slice_get (chain (start_of G.arcs f.path) (unless_met o ts) (G.nodes + 1) (end_of G.arcs f.path)) j ≡ Some arc → ⊥
        tested (Some l) e ts w at = cc
        tested None e [] w at = cc
        tested None e (t ∷ []) w at = single j at
          where
            single : (j : ℕ) → slice_get (chain (start_of G.arcs f.path) (t ∷ []) (G.nodes + 1) (end_of G.arcs f.path)) j ≡ Some arc → ⊥
            single zero at = let (l, d, h) = met_at R G f t k unique w (old ∙ sym at) in cc
            single (suc j) at = cc
        tested None e (t ∷ u ∷ ts) w at =
            let (a, b) = its_ends in
            let (x, y) = ends arc (in_at G.arcs k arc old) in
            let (p, q) = chain_at (start_of G.arcs f.path) (t ∷ u ∷ ts) (G.nodes + 1) (end_of G.arcs f.path) j arc at in
            ⊎_elim (λ (z, h). ⊎_elim (λ (z', h'). omega arith) (λ (z', h'). omega arith) q) (λ (z, h). omega arith) p

    new_new : (i j : ℕ) (arc : Arc) → slice_get (chain (start_of G.arcs f.path) (added R G f) (G.nodes + 1) (end_of G.arcs f.path)) i ≡ Some arc
        → slice_get (chain (start_of G.arcs f.path) (added R G f) (G.nodes + 1) (end_of G.arcs f.path)) j ≡ Some arc → i ≡ j
    new_new i j arc at at' =
        let (a, b) = its_ends in
        let (p, q) = chain_at (start_of G.arcs f.path) (added R G f) (G.nodes + 1) (end_of G.arcs f.path) i arc at in
        let (p', q') = chain_at (start_of G.arcs f.path) (added R G f) (G.nodes + 1) (end_of G.arcs f.path) j arc at' in
        ⊎_elim
        (λ (z, h). ⊎_elim (λ (z', h'). omega arith) (λ (z', h'). absurd (omega arith)) p')
        (λ (z, h). ⊎_elim (λ (z', h'). absurd (omega arith)) (λ (z', h'). omega arith) p')
        p

    more_no_twins : (S : QGraph) → length S.arcs ≤ length G.arcs → NoTwins S G → NoTwins S (adds R G f)
    more_no_twins S low none k l arc at at' h =
        cases
        (split_at G.arcs (chain (start_of G.arcs f.path) (added R G f) (G.nodes + 1) (end_of G.arcs f.path)) k arc at)
        (split_at G.arcs (chain (start_of G.arcs f.path) (added R G f) (G.nodes + 1) (end_of G.arcs f.path)) l arc at')
      where
        cases : (slice_get G.arcs k ≡ Some arc) ⊎ ((j : ℕ) × (k ≡ length G.arcs + j) × (slice_get (chain (start_of G.arcs f.path) (added R G f) (G.nodes + 1) (end_of G.arcs f.path)) j ≡ Some arc))
            → (slice_get G.arcs l ≡ Some arc) ⊎ ((j : ℕ) × (l ≡ length G.arcs + j) × (slice_get (chain (start_of G.arcs f.path) (added R G f) (G.nodes + 1) (end_of G.arcs f.path)) j ≡ Some arc)) → k ≡ l
        cases (inl p) (inl q) = none k l arc p q h
        cases (inl p) (inr (j, e, q)) = absurd (new_old j k arc q p)
        cases (inr (i, d, p)) (inl q) = absurd (new_old i l arc p q)
        cases (inr (i, d, p)) (inr (j, e, q)) = let same = new_new i j arc p q in omega arith

grown_twins : (R : List Rule) (S G : QGraph) → all_unique R ≡ true → length S.arcs ≤ length G.arcs → HasEnds G → NoTwins S G → (fs : List Firing) (H : QGraph) → Grown R G fs H → NoTwins S H
grown_twins R S G u low ends none [] H e = subst (NoTwins S) e none
grown_twins R S G u low ends none (f ∷ fs) H (r, t) =
    grown_twins R S (adds R G f) u (omega (arith, within_length (within_adds R G f))) (more_ends R G ends f r) (more_no_twins R G ends f r u S low none) fs H t

-- the fourth statement
pub no_twins : (R : List Rule) (G : QGraph) → HasEnds G → all_unique R ≡ true → (fs : List Firing) (H : QGraph) → Grown R G fs H → NoTwins G H
no_twins R G ends u fs H t = grown_twins R G G u (omega arith) ends (λ k l arc at at' h. absurd (omega (arith, slice_get_within G.arcs l arc at'))) fs H t

pub grown_ends : (R : List Rule) (G : QGraph) → HasEnds G → (fs : List Firing) (H : QGraph) → Grown R G fs H → HasEnds H
grown_ends R G ends [] H e = subst HasEnds e ends
grown_ends R G ends (f ∷ fs) H (r, t) = grown_ends R (adds R G f) (more_ends R G ends f r) fs H t
