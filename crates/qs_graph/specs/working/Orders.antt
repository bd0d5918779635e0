-- Counts of arcs into nodes, and nodes taken one by one. No reader needs to believe what stands here: the contracts of
-- public functions never cite it.
use Rattle.std.specs.Prelude.{ℕ, ◌≡◌, ◌≤◌, ◌+◌, ◌↔◌, ◌==◌, if◌then◌else◌, Bool, true, false, List, [], ◌∷◌, ◌++◌}
use Rattle.std.specs.Prelude.{length, Option, Some, None, slice_index_or}
use Rattle.qs_tree.specs.Lists.{◌∈◌}
use Rattle.qs_graph.specs.Graphs.{Arc, ExactlyOne}

-- 1 where it is true, else 0.
abbrev pub one_if : Bool → ℕ
one_if true = 1
one_if false = 0

-- How often n is in the list.
abbrev pub times : ℕ → List ℕ → ℕ
times n [] = 0
times n (m ∷ ms) = one_if (m == n) + times n ms

-- Whether n is in the list.
abbrev pub has : List ℕ → ℕ → Bool
has [] n = false
has (m ∷ ms) n = if m == n then true else has ms n

-- No number stands at two places.
abbrev pub AreApart : List ℕ → Type 0
AreApart [] = Unit {0}
AreApart (n ∷ ns) = (n ∈ ns → ⊥) × AreApart ns

-- A number from 1 to `last` that is not in the list.
pub record IsOutside (last : ℕ) (ns : List ℕ) (n : ℕ) : Type 0 where
  pub low : 1 ≤ n
  pub high : n ≤ last
  pub out : n ∈ ns → ⊥

-- The one number of which P holds, or that it isn't one.
abbrev pub IsOnly : (ℕ → Type 0) → Option ℕ → Type 0
IsOnly P (Some n) = P n × ((m : ℕ) → P m → m ≡ n)
IsOnly P None = ExactlyOne P → ⊥

-- The ends of the arcs that begin at n, in order.
abbrev pub targets_from : List Arc → ℕ → List ℕ
targets_from [] n = []
targets_from (arc ∷ arcs) n = if arc.from == n then arc.to ∷ targets_from arcs n else targets_from arcs n

-- The counts are lowered, for each number by how often it is a target, and the targets whose counts come to 0 stand
-- behind the order.
pub record IsLowered (targets counts new_counts order new_order : List ℕ) : Type 0 where
  pub len : length new_counts ≡ length counts
  pub lower : (n : ℕ) → slice_index_or counts n 0 ≡ slice_index_or new_counts n 0 + times n targets
  pub fresh : List ℕ
  pub behind : new_order ≡ order ++ fresh
  pub apart : AreApart fresh
  pub are : (n : ℕ) → n ∈ fresh ↔ ((n ∈ targets) × (slice_index_or new_counts n 0 ≡ 0))
