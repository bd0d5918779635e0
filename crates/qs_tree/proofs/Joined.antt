-- One run of cells behind another.
use Rattle.std.proofs.Common.{◌≡◌, ℕ, suc, List, [], ◌∷◌, ◌++◌, length, sym, refl, ap, ◌∙◌, append_assoc, append-nil}
use Rattle.qs_tree.specs.declared.cell.Label.{Label}
use Rattle.qs_tree.specs.declared.cell.Cell.{Cell}
use Rattle.qs_tree.specs.Trees.{Forest, no_tree, first_tree, Tree, trees, size, node}
use Rattle.qs_tree.specs.working.Trees.{join, forest-trees}
use Rattle.qs_tree.specs.Cells.{cells_of, cells_of_tree, forest_in, trees_of, tree_of, IsTree, IsForest}
use Rattle.qs_tree.specs.working.Cells.{forest_in-cells_of, tree_of-cells_of_tree}
use Rattle.qs_tree.proofs.Runs.{tree_cells, forest_cells, length-cells_of}

pub cells_of-join : (g h : Forest) → cells_of (join g h) ≡ cells_of g ++ cells_of h
cells_of-join no_tree h = refl
cells_of-join (first_tree l k r) h =
    ap (λ xs. record { label = l; extent = suc (size k) } ∷ (cells_of k ++ xs)) (cells_of-join r h)
    ∙ ap (λ xs. record { label = l; extent = suc (size k) } ∷ xs) (sym (append_assoc (cells_of k) (cells_of r) (cells_of h)))

pub trees-join : (g h : Forest) → trees (join g h) ≡ trees g ++ trees h
trees-join no_tree h = refl
trees-join (first_tree l k r) h = ap (λ ts. record { root = l; subtrees = k } ∷ ts) (trees-join r h)

-- the cells of two lists of trees, one behind the other, are those of the joined list
pub record IsJoined (xs ys : List Cell) (trees : List Tree) : Type 0 where
  pub cells : IsForest (xs ++ ys)
  pub are : trees_of (xs ++ ys) ≡ trees_of xs ++ trees

pub joined : (xs ys : List Cell) → IsForest xs → IsForest ys → IsJoined xs ys (trees_of ys)
joined xs ys x y =
    let g : Forest = forest_in xs in
    let h : Forest = forest_in ys in
    let both : xs ++ ys ≡ cells_of (join g h) = sym (cells_of-join g h ∙ ap (λ zs. zs ++ cells_of h) x ∙ ap (λ zs. xs ++ zs) y) in
    record {
      cells = forest_cells (join g h) _ both;
      are = ap trees_of both ∙ ap trees (forest_in-cells_of (join g h)) ∙ trees-join g h;
    }

-- the cells of a tree are those of a list of one tree
lone : (ys : List Cell) → IsTree ys → ys ≡ cells_of (first_tree (tree_of ys).root (tree_of ys).subtrees no_tree)
lone ys y =
    sym (ap (λ zs. record { label = (tree_of ys).root; extent = suc (size (tree_of ys).subtrees) } ∷ zs) (append-nil (cells_of (tree_of ys).subtrees)) ∙ y)

pub joined_tree : (xs ys : List Cell) → IsForest xs → IsTree ys → IsJoined xs ys (tree_of ys ∷ [])
joined_tree xs ys x y =
    let g : Forest = first_tree (tree_of ys).root (tree_of ys).subtrees no_tree in
    let j : IsJoined xs ys (trees_of ys) = joined xs ys x (forest_cells g ys (lone ys y)) in
    let one : trees_of ys ≡ tree_of ys ∷ [] = ap trees_of (lone ys y) ∙ ap trees (forest_in-cells_of g) in
    record { cells = j.cells; are = j.are ∙ ap (λ ts. trees_of xs ++ ts) one }

-- a cell before the cells of a list of trees, with one more than their number, makes one tree of them
pub record IsRooted (l : Label) (ys zs : List Cell) : Type 0 where
  pub cells : IsTree zs
  pub is : tree_of zs ≡ node l (trees_of ys)

pub rooted : (l : Label) (n : ℕ) (ys zs : List Cell) → IsForest ys → n ≡ suc (length ys) → zs ≡ record { label = l; extent = n } ∷ ys → IsRooted l ys zs
rooted l n ys zs y e z =
    let g : Forest = forest_in ys in
    let t : Tree = record { root = l; subtrees = g } in
    let long : n ≡ suc (size g) = e ∙ ap suc (sym (ap length y) ∙ length-cells_of g) in
    let all : zs ≡ cells_of_tree t =
    z ∙ ap (λ m. record { label = l; extent = m } ∷ ys) long ∙ ap (λ xs. record { label = l; extent = suc (size g) } ∷ xs) (sym y)
    in
    let again : t ≡ node l (trees_of ys) = ap (λ h. record { root = l; subtrees = h }) (sym (forest-trees g)) in
    record { cells = tree_cells t zs all; is = ap tree_of all ∙ tree_of-cells_of_tree t ∙ again }
