-- How numbers are written one behind the other.
use Rattle.std.specs.Prelude.{ℕ, Bool, if◌then◌else◌, List, [], ◌++◌, codes, decimal}

-- A number of a list: behind a comma, where others stand before it.
abbrev pub next_number : Bool → ℕ → List ℕ
next_number behind n = (if behind then codes "," else []) ++ decimal n
