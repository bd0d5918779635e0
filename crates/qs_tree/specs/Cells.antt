-- How trees lie in cells. There is one cell for each node, in prefix order: a node stands in front of its subtrees, and
-- they stand one behind the other. A cell has the label of its node, and the number of cells of the subtree that begins
-- there. (This project.)
use Rattle.std.specs.Prelude.{◌≡◌, ℕ, ◌-◌, List, [], ◌∷◌, ◌++◌}
use Rattle.std.proofs.Common.{suc, zero}
use Rattle.qs_tree.specs.declared.cell.Label.{Label}
use Rattle.qs_tree.specs.declared.cell.Cell.{Cell}
use Rattle.qs_tree.specs.Trees.{Forest, no_tree, first_tree, Tree, trees, size}

-- the cells of a list of trees: those of the first tree's root, of its subtrees and of the other trees
abbrev pub cells_of : Forest → List Cell
cells_of no_tree = []
cells_of (first_tree l k r) = record { label = l; extent = suc (size k) } ∷ (cells_of k ++ cells_of r)

-- the cells of a tree
abbrev pub cells_of_tree : Tree → List Cell
cells_of_tree t = record { label = t.root; extent = suc (size t.subtrees) } ∷ cells_of t.subtrees

-- The way back goes from the last cell to the first. What stands behind a cell is a list of trees already, and the
-- extent says how many nodes of it are below the cell.

-- the trees that the first n nodes are, where these are whole trees
abbrev pub front : ℕ → Forest → Forest
front zero g = no_tree
front (suc n) no_tree = no_tree
front (suc n) (first_tree l k r) = first_tree l k (front (n - size k) r)

-- the trees behind the first n nodes
abbrev pub back : ℕ → Forest → Forest
back zero g = g
back (suc n) no_tree = no_tree
back (suc n) (first_tree l k r) = back (n - size k) r

-- a tree with this label and this number of nodes, whose subtrees are the first of these trees,
-- and the others behind it
abbrev pub gather : Label → ℕ → Forest → Forest
gather l zero g = first_tree l no_tree g
gather l (suc n) g = first_tree l (front n g) (back n g)

-- the list of trees that has these cells
abbrev pub forest_in : List Cell → Forest
forest_in [] = no_tree
forest_in (c ∷ cs) = gather c.label c.extent (forest_in cs)

-- the same as a `List`
abbrev pub trees_of : List Cell → List Tree
trees_of cs = trees (forest_in cs)

-- the tree that has these cells; no tree has none, so that the first line is never used
abbrev pub tree_of : List Cell → Tree
tree_of [] = record { root = record { 0 = 0 }; subtrees = no_tree }
tree_of (c ∷ cs) = record { root = c.label; subtrees = forest_in cs }

-- these are the cells of a list of trees: of the one that is read from them
abbrev pub IsForest : List Cell → Type 0
IsForest cs = cells_of (forest_in cs) ≡ cs

-- these are the cells of one tree
abbrev pub IsTree : List Cell → Type 0
IsTree cs = cells_of_tree (tree_of cs) ≡ cs
