-- Marks of numbers. (This project.)
use Rattle.std.specs.Prelude.{ℕ, ◌≡◌, Bool, true, false, List, slice_index_or}

-- n is marked in a list that has a mark, or none, for each number from 0.
abbrev pub IsMarked : List Bool → ℕ → Type 0
IsMarked marks n = slice_index_or marks n false ≡ true
