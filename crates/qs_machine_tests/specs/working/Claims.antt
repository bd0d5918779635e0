-- What a test remembers of each seat's claim.
use Rattle.std.specs.Prelude.{ℕ, ◌≡◌, ◌↔◌, List, slice_get, Option, Some}
use Rattle.qs_core.specs.Core.{CoreState, HasClaim}

-- For each seat the arc that it has claimed, with the number of firings of its work that are done, or none: these are
-- exactly the claims of this state.
abbrev pub AreHeld : List (Option (ℕ × ℕ)) → CoreState → Type 0
AreHeld held S = (i m k : ℕ) → HasClaim S i m k ↔ (slice_get held i ≡ Some (Some (m, k)))
