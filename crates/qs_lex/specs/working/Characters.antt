-- A class of characters that the scanner looks for.
use Rattle.std.specs.Prelude.{ℕ, Bool, ◌||◌}
use Rattle.std.specs.Char.{is_ascii_digit, is_ascii_uppercase}

-- what a word and a node mark are written in: an ASCII capital or an ASCII digit
abbrev pub is_capital_or_digit : ℕ → Bool
is_capital_or_digit b = is_ascii_uppercase b || is_ascii_digit b
