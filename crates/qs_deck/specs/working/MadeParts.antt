-- No public contract cites this: the parts of the texts of made decks.
use Rattle.std.specs.Prelude.{ℕ, List, ◌++◌, decimal}

-- a letter and a number in decimal
abbrev pub numbered : List ℕ → ℕ → List ℕ
numbered letter number = letter ++ decimal number
