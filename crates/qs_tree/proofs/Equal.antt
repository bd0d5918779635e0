-- `==` on cells is equality, two runs of cells are equal exactly where their lists of trees are, and two trees are equal
-- where their roots and their subtrees are.
use Rattle.std.proofs.Common.{◌≡◌, List, Bool, sym, ap, ◌∙◌, rules}
use Rattle.std.specs.Bool.{Decides}
use lib.Pointwise.{pointwise}
use Rattle.std.proofs.lemmas.Slice.Eq.{slice_eq-Decides}
use Rattle.qs_tree.specs.declared.cell.Cell.{Cell}
use Rattle.qs_tree.specs.contracts.cell.CellPartialEq.TheImpl as cell
use Rattle.qs_tree.specs.Trees.{Tree, kids, forest}
use Rattle.qs_tree.specs.working.Trees.{forest-trees}
use Rattle.qs_tree.specs.Cells.{cells_of, forest_in, trees_of, IsForest}

cell_eq : (a b : Cell) → Decides (cell.eq-value.it a b) (a ≡ b)
cell_eq a b = search rules

-- what `==` on two runs of cells says
cells_eq : (xs ys : List Cell) (r : Bool) → r ≡ pointwise cell.eq-value.it xs ys → Decides r (xs ≡ ys)
cells_eq xs ys r e = slice_eq-Decides cell_eq xs ys r e

-- two trees with equal roots and equal subtrees are equal
pub tree_by_parts : (t u : Tree) → t.root ≡ u.root → kids t ≡ kids u → t ≡ u
tree_by_parts t u r k =
    let below : t.subtrees ≡ u.subtrees = sym (forest-trees t.subtrees) ∙ ap forest k ∙ forest-trees u.subtrees in
    ap (λ l. let v : Tree = record { root = l; subtrees = t.subtrees } in v) r ∙ ap (λ g. let v : Tree = record { root = u.root; subtrees = g } in v) below

pub forests_eq : (xs ys : List Cell) (r : Bool) → r ≡ pointwise cell.eq-value.it xs ys → IsForest xs → IsForest ys → Decides r (trees_of xs ≡ trees_of ys)
forests_eq xs ys r e x y = (
  λ t. ap trees_of ((cells_eq xs ys r e).0 t),
  λ s. (cells_eq xs ys r e).1 (sym x ∙ ap cells_of (sym (forest-trees (forest_in xs)) ∙ ap forest s ∙ forest-trees (forest_in ys)) ∙ y),
)
