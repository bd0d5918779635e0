-- The places that are listed by the root of the first subtree too, as they are appended.
use Rattle.std.specs.Prelude.{ℕ, ◌≡◌, ◌<◌, ◌⊎◌, Option, Some, slice_get}
use Rattle.qs_tree.specs.Lists.{◌∈◌}
use Rattle.qs_tree.specs.declared.cell.Label.{Label}
use Rattle.qs_pattern.specs.Patterns.{Patterns, count}
use Rattle.qs_join.specs.declared.heads.Heads.{Heads}
use Rattle.qs_join.specs.Heads.{roots_asked, firsts_asked, below_of}

-- Pairs of which P holds were appended, and no others; and for each two labels those of which Q holds are listed.
pub record Adds (P : ℕ × ℕ → Type 0) (Q : Label → Option Label → ℕ × ℕ → Type 0) (old new : Heads) : Type 0 where
  pub only : (l : Label) (first : Option Label) (pair : ℕ × ℕ) → pair ∈ below_of new l first
      → (pair ∈ below_of old l first) ⊎ P pair
  pub kept : (l : Label) (first : Option Label) (pair : ℕ × ℕ) → pair ∈ below_of old l first
      → pair ∈ below_of new l first
  pub all : (l : Label) (first : Option Label) (pair : ℕ × ℕ) → Q l first pair → pair ∈ below_of new l first

-- It is this place.
abbrev pub IsOne : ℕ × ℕ → ℕ × ℕ → Type 0
IsOne place pair = pair ≡ place

-- It is this place, at which these two roots are asked for.
abbrev pub AsksOne : Option Label → Option Label → ℕ × ℕ → Label → Option Label → ℕ × ℕ → Type 0
AsksOne root asked place l first pair = (pair ≡ place) × (root ≡ Some l) × (asked ≡ first)

-- It is a place of the left side of the rule with this number.
abbrev pub IsOfRule : ℕ → Patterns → ℕ × ℕ → Type 0
IsOfRule number left pair = (pair.0 ≡ number) × (pair.1 < count left)

-- It is such a place that asks for these two roots.
abbrev pub AsksIn : ℕ → Patterns → Label → Option Label → ℕ × ℕ → Type 0
AsksIn number left l first pair =
    (pair.0 ≡ number) × (slice_get (roots_asked left) pair.1 ≡ Some (Some l))
    × (slice_get (firsts_asked left) pair.1 ≡ Some first)
