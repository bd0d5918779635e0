-- Tables of numbers as lists.
use Rattle.std.specs.Prelude.{ℕ, ◌+◌, ◌≡◌, ◌==◌, if◌then◌else◌, List, []}
use Rattle.std.specs.Prelude.{◌∷◌, map, slice_get, slice_index_or, Option, Some, None}
use Rattle.std.specs.Prelude.{unwrap_or}
use Rattle.qs_graph.specs.Graphs.{Arc}
use Rattle.qs_tree.specs.Lists.{◌∈◌}
use Rattle.qs_firing.specs.Firings.{Before}
use Rattle.qs_core.specs.Core.{Fired}
use Rattle.qs_canon.specs.declared.numbers.Next.{Next}
use Rattle.qs_canon.specs.working.CanonTables.{Table, AreNumbered, in_numbers}
use Rattle.qs_graph.specs.working.Orders.{times}
use Rattle.qs_canon.specs.working.CanonCounts.{users_at}
use Rattle.std.proofs.Common.{Global}
use Rattle.std.specs.declared.vec.Vec.{Vec}

-- The number at each place, where there is one.
abbrev pub table_of : List (Option ℕ) → Table
table_of numbers k = slice_index_or numbers k None

-- There is a number at each place, and these are they.
abbrev pub AllAre : List (Option ℕ) → List ℕ → Type 0
AllAre numbers ns = map (λ n. Some n) ns ≡ numbers

-- The arc between the nodes that have these numbers.
abbrev pub renumbered : Table → Arc → Arc
renumbered N arc = record { from = unwrap_or (N arc.from) 0; to = unwrap_or (N arc.to) 0; tree = arc.tree }

-- The number n was entered in the lists at these places, as often as each of them is there.
abbrev pub IsEntered : ℕ → List ℕ → List (Vec ℕ Global) → List (Vec ℕ Global) → Type 0
IsEntered n places old new =
    (k i : ℕ) → times i (users_at new k) ≡ times i (users_at old k) + (if n == i then times k places else 0)

-- All arcs in the path of the firing at place i have numbers.
abbrev pub IsReadyAt : Table → List Fired → ℕ → Type 0
IsReadyAt T done i = (d : Fired) × (slice_get done i ≡ Some d) × ((ls : List ℕ) × AreNumbered T d.firing.path ls)

-- The next firing is the one at place i, in these numbers; and each of a list is the one at its place.
abbrev pub IsInNumbers : Table → List Fired → ℕ → Next → Type 0
IsInNumbers T done i next =
    (next.place ≡ i)
    × ((d : Fired) × (slice_get done i ≡ Some d)
    × ((ls : List ℕ) × AreNumbered T d.firing.path ls × (next.firing ≡ in_numbers d.firing ls)))

abbrev pub AreInNumbers : Table → List Fired → List ℕ → List Next → Type 0
AreInNumbers T done [] [] = Unit {0}
AreInNumbers T done (i ∷ places) (next ∷ others) = IsInNumbers T done i next × AreInNumbers T done places others
AreInNumbers T done _ _ = ⊥

-- No firing comes before one that stands in front of it.
abbrev pub NeverFalls : List Next → Type 0
NeverFalls [] = Unit {0}
NeverFalls (next ∷ others) =
    ((other : Next) → other ∈ others → Before other.firing next.firing → ⊥) × NeverFalls others
