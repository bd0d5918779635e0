-- What is told of a made deck. This project's own.
use Rattle.std.specs.Prelude.{ℕ, ◌^◌, List, length}
use Rattle.qs_clean.specs.Cascades.{Left, a_graph, no_arc, over}
use Rattle.qs_telling.specs.Texts.{summary_line, limit_line}

-- What is told of a made deck, by what its grammar leaves of its graph: the summary, or that the limit was met.
abbrev pub summary : ℕ → ℕ → Left → List ℕ
summary limit size (a_graph firings graph) = summary_line size (2 ^ size) firings (length graph.arcs)
summary limit size (no_arc firings) = summary_line size (2 ^ size) firings 0
summary limit size over = limit_line limit
