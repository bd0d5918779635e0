-- A tree is a label and a list of trees (Colmerauer 1970). A data type of this language cannot hold a `List` of itself,
-- so a list of trees is stored as a `Forest`, and `kids` and `node` give and take it as a `List`.
use Rattle.std.specs.Prelude.{ℕ, ◌+◌, List, [], ◌∷◌}
use Rattle.std.proofs.Common.{suc}
use Rattle.qs_tree.specs.declared.cell.Label.{Label}

-- a list of trees: no tree; or a first tree, by its label and its subtrees, and the trees behind it
pub data Forest : Type 0 where
  no_tree : Forest
  first_tree : Label → Forest → Forest → Forest

-- a tree: its label and its subtrees
pub record Tree : Type 0 where
  pub root : Label
  pub subtrees : Forest

-- a `Forest` as a `List`
abbrev pub trees : Forest → List Tree
trees no_tree = []
trees (first_tree l k r) = record { root = l; subtrees = k } ∷ trees r

-- a `List` as a `Forest`
abbrev pub forest : List Tree → Forest
forest [] = no_tree
forest (t ∷ ts) = first_tree t.root t.subtrees (forest ts)

-- the subtrees of a tree, from left to right
abbrev pub kids : Tree → List Tree
kids t = trees t.subtrees

-- the tree with this label and these subtrees
abbrev pub node : Label → List Tree → Tree
node l ts = record { root = l; subtrees = forest ts }

-- how many nodes the trees have
abbrev pub size : Forest → ℕ
size no_tree = 0
size (first_tree l k r) = suc (size k + size r)
