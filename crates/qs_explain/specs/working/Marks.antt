-- Marks of arcs.
use Rattle.std.specs.Prelude.{ℕ, ◌≤◌, ◌<◌, Bool, List}
use Rattle.qs_clean.specs.Marks.{IsMarked}

-- k is one of the numbers from a on, up to b and without it.
abbrev pub IsFrom : ℕ → ℕ → ℕ → Type 0
IsFrom a b k = (a ≤ k) × (k < b)

-- One of these numbers is marked.
abbrev pub HasMarked : List Bool → ℕ → ℕ → Type 0
HasMarked marks a b = (k : ℕ) × IsFrom a b k × IsMarked marks k
