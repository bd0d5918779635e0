-- Whether a level certificate fits rules, by the levels that it gives.
use Rattle.std.specs.Prelude.{ℕ, ◌≡◌, ◌<◌, ◌≤◌, ◌⊎◌, List, Option, Some, slice_get}
use Rattle.qs_tree.specs.Lists.{◌∈◌}
use Rattle.qs_tree.specs.declared.cell.Label.{Label}
use Rattle.qs_pattern.specs.Patterns.{Patterns}
use Rattle.qs_pattern.specs.Rules.{Rule}
use Rattle.qs_levels.specs.Tops.{HasLabelsAtTop, top_labels}
use Rattle.qs_levels.specs.Certificates.{LevelCertificate, HasLevel}

-- What a certificate asks of itself.
pub record IsWellFormed (c : LevelCertificate) : Type 0 where
  pub some : 1 ≤ c.count
  pub below : (l : Label) (n : ℕ) → HasLevel c l n → n < c.count
  pub once : (i j : ℕ) (l : Label) (m n : ℕ) → slice_get c.of i ≡ Some (l, m) → slice_get c.of j ≡ Some (l, n) → i ≡ j

-- These are the levels of pairs, of which no two have the same label.
pub record AreLevels (pairs : List (Label × ℕ)) (level_of : ℕ → Option ℕ) : Type 0 where
  pub sound : (l : Label) (n : ℕ) → level_of l.0 ≡ Some n → (l, n) ∈ pairs
  pub all : (l : Label) (n : ℕ) → (l, n) ∈ pairs → level_of l.0 ≡ Some n
  pub once : (i j : ℕ) (l : Label) (m n : ℕ) → slice_get pairs i ≡ Some (l, m) → slice_get pairs j ≡ Some (l, n) → i ≡ j

-- Every pattern at the top of the side is a node with a label as head that has a level.
pub record HasLevels (level_of : ℕ → Option ℕ) (side : Patterns) : Type 0 where
  pub tops : HasLabelsAtTop side
  pub level : (l : Label) → l ∈ top_labels side → (n : ℕ) × (level_of l.0 ≡ Some n)

-- The greatest level at the top of a side, and 0 where there is none.
pub record IsGreatestOf (level_of : ℕ → Option ℕ) (side : Patterns) (greatest : ℕ) : Type 0 where
  pub has : HasLevels level_of side
  pub at_most : (l : Label) (n : ℕ) → l ∈ top_labels side → level_of l.0 ≡ Some n → n ≤ greatest
  pub attained : (greatest ≡ 0) ⊎ ((l : Label) × (l ∈ top_labels side) × (level_of l.0 ≡ Some greatest))

-- Each level at the top of a side is greater.
pub record AreAbove (level_of : ℕ → Option ℕ) (side : Patterns) (floor : ℕ) : Type 0 where
  pub has : HasLevels level_of side
  pub above : (l : Label) (n : ℕ) → l ∈ top_labels side → level_of l.0 ≡ Some n → floor < n

-- The levels of a rule rise.
pub record Rises (level_of : ℕ → Option ℕ) (rule : Rule) : Type 0 where
  pub left : HasLevels level_of rule.left
  pub right : HasLevels level_of rule.right
  pub rises : (l r : Label) → l ∈ top_labels rule.left → r ∈ top_labels rule.right
      → (m n : ℕ) → level_of l.0 ≡ Some m → level_of r.0 ≡ Some n → m < n

-- Each level is below a limit.
abbrev pub AreBelow : List (Label × ℕ) → ℕ → Type 0
AreBelow pairs limit = (l : Label) (n : ℕ) → (l, n) ∈ pairs → n < limit
