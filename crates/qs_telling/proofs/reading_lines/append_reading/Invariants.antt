use Rattle.std.proofs.Common.{◌≡◌, ◌++◌, map, take}
use Rattle.std.specs.Prelude.{codes}
use Rattle.qs_tree.specs.Text.{tree_text}
use Rattle.qs_graph.specs.Graphs.{trees_on}
use Rattle.qs_ruletext.specs.Texts.{joined}
use Rattle.qs_telling.proofs.reading_lines.append_reading.Given as goal

abbrev pub invariant-loop-place : goal.invariant-loop-place
invariant-loop-place l = l.out.items ≡ l.initial.out.items ++ joined (codes " ") (map (tree_text l.names) (trees_on l.arcs (take l.place l.path)))
