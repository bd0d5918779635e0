-- A list of trees that is split at one place, into the trees in front of the place and those behind it. (This project.)
use Rattle.std.specs.Prelude.{◌≡◌, List, [], ◌∷◌, ◌++◌, take, drop}
use Rattle.qs_tree.specs.declared.split.Split.{Split}
use Rattle.qs_tree.specs.Trees.{Tree}
use Rattle.qs_tree.specs.Cells.{trees_of}

-- the trees in front of the place
abbrev pub front_of : Split → List Tree
front_of s = trees_of (take s.place s.cells.now)

-- the trees behind the place
abbrev pub behind_of : Split → List Tree
behind_of s = trees_of (drop s.place s.cells.now)

-- the place went past one tree, from the head of those behind it to the end of those in front
pub record PassesTree (front behind new_front new_behind : List Tree) : Type 0 where
  pub tree : Tree
  pub front_is : new_front ≡ front ++ tree ∷ []
  pub behind_is : behind ≡ tree ∷ new_behind
