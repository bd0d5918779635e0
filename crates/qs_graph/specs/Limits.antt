-- The limits of graphs. The numbers are this project's own.
use Rattle.std.specs.Prelude.{ℕ}

-- the most arcs of a graph that is read: of the chains of a text, or of a line of words
abbrev pub most_read_arcs : ℕ
most_read_arcs = 65536

-- a graph has fewer arcs than this, so that the number of each arc and of each node fits in 32 bits
abbrev pub arc_bound : ℕ
arc_bound = 4294967295
