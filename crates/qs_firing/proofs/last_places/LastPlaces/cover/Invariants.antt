use Rattle.std.proofs.Common.{◌≡◌, ℕ}
use Rattle.qs_firing.specs.working.Places.{known_place}
use Rattle.qs_firing.proofs.last_places.LastPlaces.cover.Given as goal

abbrev pub invariant-loop : goal.invariant-loop
invariant-loop l = (n : ℕ) → known_place l.self n ≡ known_place l.initial.self n
