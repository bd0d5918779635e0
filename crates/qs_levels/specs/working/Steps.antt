-- Steps from the left labels of rules to the rules, and from rules to their right labels, between nodes: first the
-- rules, then the labels.
use Rattle.std.specs.Prelude.{ℕ, ◌≡◌, ◌+◌, ◌<◌, Bool, true, false, List, map, length}
use Rattle.std.specs.Prelude.{take, slice_get, slice_index_or, Option, Some, None}
use Rattle.qs_tree.specs.Lists.{◌∈◌}
use Rattle.qs_tree.specs.declared.cell.Label.{Label}
use Rattle.qs_levels.specs.declared.tops.Top.{Top}
use Rattle.qs_levels.specs.Tops.{each_once}
use Rattle.qs_firing.specs.Neighbours.{IsLastPlace}

-- The last places of numbers below a limit, and those before each place.
pub record AreChains (limit : ℕ) (numbers : List ℕ) (last before : List (Option ℕ)) : Type 0 where
  pub long_last : length last ≡ limit
  pub long_before : length before ≡ length numbers
  pub last_of : (n : ℕ) → n < limit → IsLastPlace numbers n (slice_index_or last n None)
  pub before_of : (k n : ℕ) → slice_get numbers k ≡ Some n
      → IsLastPlace (take k numbers) n (slice_index_or before k None)

-- The label has the node n, behind so many rules.
pub record IsNodeOf (rules : ℕ) (labels : List Label) (l : Label) (n : ℕ) : Type 0 where
  pub place : ℕ
  pub stands : slice_get labels place ≡ Some l
  pub node : n ≡ rules + place

-- The step of a top leads from its label to its rule where it stands left, and from its rule to its label where it
-- stands right.
abbrev pub IsStepBy : Bool → ℕ → List Label → Top → ℕ → ℕ → Type 0
IsStepBy true rules labels top a b = (a ≡ top.rule) × IsNodeOf rules labels top.label b
IsStepBy false rules labels top a b = IsNodeOf rules labels top.label a × (b ≡ top.rule)

abbrev pub IsStepOf : ℕ → List Label → Top → ℕ → ℕ → Type 0
IsStepOf rules labels top a b = IsStepBy top.right rules labels top a b

-- The steps of tops.
pub record AreStepsOf (rules : ℕ) (tops : List Top) (labels : List Label) (sources targets : List ℕ) : Type 0 where
  pub labels_are : labels ≡ each_once (map (λ top. top.label) tops)
  pub long_sources : length sources ≡ length tops
  pub long_targets : length targets ≡ length tops
  pub step : (k : ℕ) (top : Top) → slice_get tops k ≡ Some top
      → (a b : ℕ) × (slice_get sources k ≡ Some a) × (slice_get targets k ≡ Some b) × IsStepOf rules labels top a b

-- Each label of the list has its place as its number, and no other label has a number.
pub record AreNumbered (labels : List Label) (number_of : ℕ → Option ℕ) : Type 0 where
  pub sound : (l : Label) (k : ℕ) → number_of l.0 ≡ Some k → slice_get labels k ≡ Some l
  pub all : (l : Label) → l ∈ labels → number_of l.0 ≡ None → ⊥
