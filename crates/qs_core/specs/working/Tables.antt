-- Statuses with what is looked up among them: the claim of a seat, and the arcs that wait.
use Rattle.std.specs.Prelude.{ℕ, ◌+◌, ◌^◌, ◌<◌, ◌≤◌, ◌≡◌, ◌↔◌, List, [], ◌∷◌, length, slice_get, Option, Some, None}
use Rattle.qs_core.specs.declared.step.Status.{Status}
use Rattle.qs_core.specs.declared.step.Status.TheVariants as status

-- How many of them aren't done.
abbrev pub undone_one : Status → ℕ
undone_one status.Waiting = 1
undone_one (status.Claimed i k) = 1
undone_one status.Done = 0

abbrev pub undone : List Status → ℕ
undone [] = 0
undone (s ∷ ss) = undone_one s + undone ss

-- For each seat there is the arc that it has claimed, the first `next` arcs don't wait, and `left` aren't done.
pub record IsTable (list : List Status) (claims : List (Option ℕ)) (next left : ℕ) : Type 0 where
  pub few : length list < 2 ^ 32
  pub seats_few : length claims < 2 ^ 32
  pub claims_are : (i m : ℕ)
      → (slice_get claims i ≡ Some (Some m)) ↔ ((k : ℕ) × (slice_get list m ≡ Some (status.Claimed i k)))
  pub passed : (m : ℕ) → slice_get list m ≡ Some status.Waiting → next ≤ m
  pub next_few : next ≤ length list
  pub left_is : left ≡ undone list

-- The claim of seat i: of this arc, or none.
abbrev pub IsClaimOf : List Status → ℕ → Option ℕ → Type 0
IsClaimOf list i (Some m) = (k : ℕ) × (slice_get list m ≡ Some (status.Claimed i k))
IsClaimOf list i None = (m k : ℕ) → slice_get list m ≡ Some (status.Claimed i k) → ⊥

-- An arc that waits: this one, or none.
abbrev pub IsWaiting : List Status → Option ℕ → Type 0
IsWaiting list (Some m) = slice_get list m ≡ Some status.Waiting
IsWaiting list None = (m : ℕ) → slice_get list m ≡ Some status.Waiting → ⊥
