-- The least arc of a kind, looked for among the arcs that leave its start, from the last one down.
use Rattle.std.proofs.Common.{◌≡◌, ℕ, zero, suc, ◌+◌, ◌-◌, ◌<◌, ◌≤◌, List, [], ◌∷◌, length, drop, map, take, Option, Some, None, slice_get, refl, sym, ap, ◌∙◌, ⊎_elim, arith}
use Rattle.std.proofs.lemmas.Bool.{cases_lt}
use Rattle.std.proofs.lemmas.Option.{slice_get_within}
use Rattle.std.proofs.lemmas.List.{length-map, length-drop}
use Rattle.qs_tree.proofs.Elements.{at_mapped}
use Rattle.qs_tree.specs.Trees.{Tree}
use Rattle.qs_tree.proofs.Decisions.{same_there}
use Rattle.qs_graph.specs.Graphs.{Arc}
use Rattle.qs_firing.specs.Adding.{least_arc}
use Rattle.qs_firing.specs.Neighbours.{starts, IsLastPlace}
use Rattle.qs_firing.proofs.Merging.{least_is, is_least}

in_front : {X : Type 0} (n : ℕ) (xs : List X) (k : ℕ) (x : X) → k < n → slice_get xs k ≡ Some x → slice_get (take n xs) k ≡ Some x
in_front zero xs k x h e = absurd (omega arith)
in_front (suc n) [] k x h e = e
in_front (suc n) (y ∷ xs) zero x h e = e
in_front (suc n) (y ∷ xs) (suc k) x h e = in_front n xs k x (omega arith) e

from_front : {X : Type 0} (n : ℕ) (xs : List X) (k : ℕ) (x : X) → slice_get (take n xs) k ≡ Some x → (slice_get xs k ≡ Some x) × (k < n)
from_front zero xs k x e = absurd cc
from_front (suc n) [] k x e = absurd cc
from_front (suc n) (y ∷ xs) zero x e = (e, omega arith)
from_front (suc n) (y ∷ xs) (suc k) x e = let (d, h) = from_front n xs k x e in (d, omega arith)

-- how many arcs are still to be looked at, at most
abbrev pub still_left : Option ℕ → ℕ
still_left None = 0
still_left (Some n) = n + 1

-- the arc k is behind those that are still to be looked at, of which this one is the last
abbrev pub IsPast : Option ℕ → ℕ → Type 0
IsPast None k = Unit {0}
IsPast (Some n) k = n < k

module _ (arcs : List Arc) (a b : ℕ) (t : Tree) where
  abbrev pub Stands : ℕ → Type 0
  Stands k = slice_get arcs k ≡ Some (record { from = a; to = b; tree = t })

  abbrev pub StartsAt : Option ℕ → Type 0
  StartsAt None = Unit {0}
  StartsAt (Some n) = slice_get (starts arcs) n ≡ Some a

  -- of the arcs that were looked at, the least that leads from a to b and carries t
  pub record IsWalked (next least : Option ℕ) : Type 0 where
    pub found : (k : ℕ) → Stands k → IsPast next k → (l : ℕ) × (least ≡ Some l) × (l ≤ k)
    pub stands : (l : ℕ) → least ≡ Some l → Stands l × IsPast next l
    pub start : StartsAt next

  starts_there : (k : ℕ) → Stands k → slice_get (starts arcs) k ≡ Some a
  starts_there k e = at_mapped (λ (x : Arc). x.from) arcs k (record { from = a; to = b; tree = t }) e

  pub walk_begins : (next : Option ℕ) → IsLastPlace (starts arcs) a next → IsWalked next None
  walk_begins None last = record { found = λ k e p. absurd (last k (starts_there k e)); stands = λ l e. absurd cc; start = tt }
  walk_begins (Some n) last = record {
    found = λ k e p. absurd (omega (arith, p, last.1 k (starts_there k e)));
    stands = λ l e. absurd cc;
    start = last.0;
  }

  pub walk_low : (n : ℕ) → StartsAt (Some n) → n < length arcs
  walk_low n e = omega (arith, slice_get_within (starts arcs) n a e, length-map arcs (λ (x : Arc). x.from))

  -- what is before n and leads from a is at or before the next arc
  before_next : (n k : ℕ) (next : Option ℕ) → IsLastPlace (take n (starts arcs)) a next → Stands k → IsPast next k → k < n → ⊥
  before_next n k None last e p h = last k (in_front n (starts arcs) k a h (starts_there k e))
  before_next n k (Some m) last e p h = omega (arith, p, last.1 k (in_front n (starts arcs) k a h (starts_there k e)))

  past_next : (n l : ℕ) (next : Option ℕ) → IsLastPlace (take n (starts arcs)) a next → n ≤ l → IsPast next l
  past_next n l None last h = tt
  past_next n l (Some m) last h = omega (arith, (from_front n (starts arcs) m a last.0).1)

  start_next : (n : ℕ) (next : Option ℕ) → IsLastPlace (take n (starts arcs)) a next → StartsAt next
  start_next n None last = tt
  start_next n (Some m) last = (from_front n (starts arcs) m a last.0).0

  pub less_left : (n : ℕ) (next : Option ℕ) → IsLastPlace (take n (starts arcs)) a next → still_left next < still_left (Some n)
  less_left n None last = omega arith
  less_left n (Some m) last = omega (arith, (from_front n (starts arcs) m a last.0).1)

  -- the arc n is such a one
  pub walk_finds : (n : ℕ) (least next : Option ℕ) (arc : Arc) → IsWalked (Some n) least → slice_get arcs n ≡ Some arc → arc.to ≡ b → arc.tree ≡ t → IsLastPlace (take n (starts arcs)) a next → IsWalked next (Some n)
  walk_finds n least next arc w at to tree last = record {
    found = λ k e p. ⊎_elim (λ h. absurd (before_next n k next last e p h)) (λ h. (n, refl, h)) (cases_lt k n);
    stands = λ l e. let same : n ≡ l = cc in
        (at' l same, past_next n l next last (omega arith));
    start = start_next n next last;
  }
    where
      from : arc.from ≡ a
      from = same_there (at_mapped (λ (x : Arc). x.from) arcs n arc at) w.start

      at' : (l : ℕ) → n ≡ l → Stands l
      at' l same = ap (slice_get arcs) (sym same) ∙ at ∙ (λ i. Some (record { from = from i; to = to i; tree = tree i }))

  -- it isn't
  pub walk_passes : (n : ℕ) (least next : Option ℕ) (arc : Arc) → IsWalked (Some n) least → slice_get arcs n ≡ Some arc → ((arc.to ≡ b) × (arc.tree ≡ t) → ⊥) → IsLastPlace (take n (starts arcs)) a next → IsWalked next least
  walk_passes n least next arc w at not last = record {
    found = λ k e p. ⊎_elim (λ h. absurd (before_next n k next last e p h)) (λ h. w.found k e (other k e h)) (cases_lt k n);
    stands = λ l e. let (s, h) = w.stands l e in (s, past_next n l next last (omega arith));
    start = start_next n next last;
  }
    where
      other : (k : ℕ) → Stands k → n ≤ k → n < k
      other k e h = ⊎_elim
          (λ low. low)
          (λ high.
          let same : n ≡ k = omega arith in
          let is : arc ≡ record { from = a; to = b; tree = t } = same_there at (ap (slice_get arcs) same ∙ e) in
          absurd (not (ap (λ (x : Arc). x.to) is, ap (λ (x : Arc). x.tree) is)))
          (cases_lt n k)

  pub walk_ends : (least : Option ℕ) → IsWalked None least → least ≡ least_arc arcs a b t
  walk_ends (Some l) w = sym (is_least arcs a b t l (w.stands l refl).0 (λ k e. let (m, s, h) = w.found k e tt in let same : l ≡ m = cc in omega arith))
  walk_ends None w = tested (least_arc arcs a b t) refl
    where
      tested : (o : Option ℕ) → least_arc arcs a b t ≡ o → None ≡ least_arc arcs a b t
      tested None e = sym e
      tested (Some l) e = let (m, s, h) = w.found l (least_is arcs a b t l e) tt in absurd cc

-- what stands at a place, and what stands behind it
drop_suc : {X : Type 0} (xs : List X) (i : ℕ) (x : X) → slice_get xs i ≡ Some x → drop i xs ≡ x ∷ drop (suc i) xs
drop_suc [] i x e = absurd cc
drop_suc (y ∷ xs) zero x e = let same : y ≡ x = cc in ap (λ z. z ∷ xs) same
drop_suc (y ∷ xs) (suc i) x e = drop_suc xs i x e

pub mapped_drop : {X Y : Type 0} (f : X → Y) (xs : List X) (i : ℕ) (x : X) → slice_get xs i ≡ Some x → map f (drop i xs) ≡ f x ∷ map f (drop (i + 1) xs)
mapped_drop f xs i x e =
    let n : suc i ≡ i + 1 = omega arith in
    ap (map f) (drop_suc xs i x e) ∙ ap (λ k. f x ∷ map f (drop k xs)) n

pub length-left : {X Y : Type 0} (f : X → Y) (xs : List X) (i : ℕ) → length (map f (drop i xs)) ≡ length xs - i
length-left f xs i = length-map (drop i xs) f ∙ length-drop i xs
