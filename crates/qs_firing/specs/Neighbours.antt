-- The arcs at a node, by their numbers. (This project.)
use Rattle.std.specs.Prelude.{ℕ, ◌≡◌, ◌≤◌, List, map, slice_get, Option, Some, None}
use Rattle.qs_graph.specs.Graphs.{Arc}

-- The nodes at which these arcs start, in the order of the arcs, and the nodes at which they end.
abbrev pub starts : List Arc → List ℕ
starts arcs = map (λ arc. arc.from) arcs

abbrev pub ends : List Arc → List ℕ
ends arcs = map (λ arc. arc.to) arcs

-- The last place of a list at which n stands; none where n stands nowhere.
abbrev pub IsLastPlace : List ℕ → ℕ → Option ℕ → Type 0
IsLastPlace ns n (Some k) = (slice_get ns k ≡ Some n) × ((j : ℕ) → slice_get ns j ≡ Some n → j ≤ k)
IsLastPlace ns n None = (k : ℕ) → slice_get ns k ≡ Some n → ⊥
