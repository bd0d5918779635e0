-- The limits of decks and of phrase texts. The numbers are this project's own.
use Rattle.std.specs.Prelude.{ℕ}
use Rattle.qs_graph.specs.Limits.{most_read_arcs}

-- the most grammars of a deck
abbrev pub most_systems : ℕ
most_systems = 256

-- the most words of a line: each makes an arc
abbrev pub most_words : ℕ
most_words = most_read_arcs

-- the greatest size of a made deck
abbrev pub most_size : ℕ
most_size = 13
