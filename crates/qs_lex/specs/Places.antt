-- Lines and columns, each counted from 1.
use Rattle.std.specs.Prelude.{ℕ, ◌+◌, ◌==◌, not, List, take, count_by, chars}
use Rattle.std.specs.List.{suffix_len}
use Rattle.qs_lex.specs.Characters.{line_feed}

-- the line of a place: one more than the number of line feeds before it
abbrev pub line_of : List ℕ → ℕ → ℕ
line_of text place = 1 + count_by (λ c. c == line_feed) (chars (take place text))

-- the column of a place: one more than the number of characters before it, back to the last line feed or the start.
-- A tab or a carriage return is one character.
abbrev pub column_of : List ℕ → ℕ → ℕ
column_of text place = 1 + suffix_len (λ c. not (c == line_feed)) (chars (take place text))
