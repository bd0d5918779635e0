-- How often arcs are in the paths of firings, and counts that are counted down.
use Rattle.std.specs.Prelude.{ℕ, zero, suc, ◌+◌, ◌≡◌}
use Rattle.std.specs.Prelude.{List, [], ◌∷◌, ◌++◌, map, slice_get, slice_index}
use Rattle.std.specs.Prelude.{unwrap_or}
use Rattle.std.specs.Option.{option_map}
use Rattle.std.proofs.Common.{Global}
use Rattle.std.specs.declared.vec.Vec.{Vec}
use Rattle.qs_graph.specs.working.Orders.{times}
use Rattle.qs_core.specs.Core.{Fired}

-- The paths of firings that are done; and the one at place i, or none.
abbrev pub paths_of : List Fired → List (List ℕ)
paths_of done = map (λ d. d.firing.path) done

abbrev pub path_at : List (List ℕ) → ℕ → List ℕ
path_at paths i = unwrap_or (slice_get paths i) []

-- What the list at place k has.
abbrev pub users_at : List (Vec ℕ Global) → ℕ → List ℕ
users_at lists k = unwrap_or (option_map (λ v. v.items) (slice_get lists k)) []

-- For each arc there are the places of the firings in whose paths it is, as often as it is there.
abbrev pub AreUsers : List (List ℕ) → List (Vec ℕ Global) → Type 0
AreUsers paths users = (k i : ℕ) → times i (users_at users k) ≡ times k (path_at paths i)

-- What the lists at these places have, one behind the other.
abbrev pub uses : List (Vec ℕ Global) → List ℕ → List ℕ
uses users [] = []
uses users (k ∷ ks) = users_at users k ++ uses users ks

-- 1 where a count that wasn't 0 has come to be 0, and else 0.
abbrev pub reaches : ℕ → ℕ → ℕ
reaches zero b = 0
reaches (suc a) zero = 1
reaches (suc a) (suc b) = 0

-- For each time that a number stands in the list, the count at that place was counted down by one; and the places whose
-- counts came to be 0, each once, are behind those of `before`.
pub record AreCountedDown (old list new before ready : List ℕ) : Type 0 where
  pub counts : (i : ℕ) → slice_index new i + times i list ≡ slice_index old i
  pub ready_are : (i : ℕ) → times i ready ≡ times i before + reaches (slice_index old i) (slice_index new i)
