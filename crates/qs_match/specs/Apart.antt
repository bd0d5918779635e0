-- Trees that lie apart. (This project.)
use Rattle.std.specs.Prelude.{List, map}
use Rattle.qs_tree.specs.declared.borrowed.TreeRef.{TreeRef}
use Rattle.qs_tree.specs.Cells.{tree_of}
use Rattle.qs_tree.specs.Trees.{Tree}

-- The trees that these borrowed cells are, one by one.
abbrev pub trees_apart : List TreeRef → List Tree
trees_apart refs = map (λ t. tree_of t.cells.now) refs
