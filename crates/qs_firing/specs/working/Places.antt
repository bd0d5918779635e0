-- What a list of numbers keeps, in which each number's last place is found at once.
use Rattle.std.specs.Prelude.{ℕ, ◌≡◌, ◌<◌, ◌^◌, List, length, map, take, slice_get, Option, Some, None, unwrap_or}
use Rattle.std.specs.Prelude.{nat_eq}
use Rattle.std.specs.HashMap.{get}
use Rattle.qs_firing.specs.declared.last_places.LastPlaces.{LastPlaces}
use Rattle.qs_firing.specs.declared.places.Place.{Place}
use Rattle.qs_firing.specs.Neighbours.{IsLastPlace}

-- The first of two where there is one, else the second.
abbrev pub first_of : Option ℕ → Option ℕ → Option ℕ
first_of (Some k) o = Some k
first_of None o = o

-- What a table has for a number; none where it is too short.
abbrev pub in_table : List (Option ℕ) → ℕ → Option ℕ
in_table near n = unwrap_or (slice_get near n) None

-- The last place of a number: that of the table, and else that of the map.
abbrev pub known_place : LastPlaces → ℕ → Option ℕ
known_place p n = first_of (in_table p.near.items n) (get nat_eq p.far n)

-- The numbers at these places.
abbrev pub numbers_at : List Place → List ℕ
numbers_at places = map (λ place. place.number) places

-- Each place knows the last place before it of the same number, and each number has its last place in the map.
pub record IsPlaced (places : List Place) (last_of : ℕ → Option ℕ) : Type 0 where
  pub few : length places < 2 ^ 32
  pub before : (k : ℕ) (place : Place) → slice_get places k ≡ Some place
      → IsLastPlace (take k (numbers_at places)) place.number place.before
  pub last : (n : ℕ) → IsLastPlace (numbers_at places) n (last_of n)
