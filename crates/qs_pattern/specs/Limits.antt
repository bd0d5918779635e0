-- The limits of rules. The numbers are this project's own.
use Rattle.std.specs.Prelude.{ℕ}

-- the most patterns that a side of a rule may have
abbrev pub most_patterns : ℕ
most_patterns = 16

-- the most labels and variables that may be written in a rule
abbrev pub most_cells : ℕ
most_cells = 256

-- the most different variables that a rule may have
abbrev pub most_variables : ℕ
most_variables = 32

-- a grammar has fewer rules than this, so that the number of each fits in 32 bits
abbrev pub rule_bound : ℕ
rule_bound = 4294967295
