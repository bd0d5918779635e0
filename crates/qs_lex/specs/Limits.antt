-- The limits of tokens. The numbers are this project's own.
use Rattle.std.specs.Prelude.{ℕ}

-- the most parentheses that may be open at a time
abbrev pub most_open : ℕ
most_open = 1000

-- the greatest number of a variable
abbrev pub most_variable_number : ℕ
most_variable_number = 99

-- the greatest number of a node mark
abbrev pub most_node_number : ℕ
most_node_number = 999999999
