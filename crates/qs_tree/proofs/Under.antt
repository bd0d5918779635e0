-- The last trees of a list, put under a new node.
use Rattle.std.proofs.Common.{◌≡◌, ℕ, ◌+◌, ◌-◌, ◌≤◌, suc, List, [], ◌∷◌, ◌++◌, length, take, drop, sym, ap, ◌∙◌, arith, refl, length-append, append-nil}
use Rattle.std.proofs.Math.Seq.{take-append_seam, drop-append_seam}
use Rattle.qs_tree.specs.declared.cell.Label.{Label}
use Rattle.qs_tree.specs.declared.cell.Cell.{Cell}
use Rattle.qs_tree.specs.Trees.{Forest, no_tree, first_tree, Tree, trees, forest, size, node}
use Rattle.qs_tree.specs.working.Trees.{join, forest-trees, trees-forest}
use Rattle.qs_tree.specs.Cells.{cells_of, cells_of_tree, forest_in, trees_of, tree_of, IsTree, IsForest}
use Rattle.qs_tree.specs.working.Cells.{forest_in-cells_of, tree_of-cells_of_tree}
use Rattle.qs_tree.proofs.Runs.{tree_cells, forest_cells, length-cells_of}
use Rattle.qs_tree.proofs.Joined.{cells_of-join, trees-join}

forest-append : (xs ys : List Tree) → forest (xs ++ ys) ≡ join (forest xs) (forest ys)
forest-append [] ys = refl
forest-append (t ∷ ts) ys = ap (λ g. first_tree t.root t.subtrees g) (forest-append ts ys)

-- the cells of these trees
pub cells_are : (cs : List Cell) (ts : List Tree) → IsForest cs → trees_of cs ≡ ts → cs ≡ cells_of (forest ts)
cells_are cs ts f e = sym f ∙ ap cells_of (sym (forest-trees (forest_in cs)) ∙ ap forest e)

-- a list has as many cells as its trees have nodes
pub counted : (cs : List Cell) → IsForest cs → length cs ≡ size (forest (trees_of cs))
counted cs f = ap length (cells_are cs (trees_of cs) f refl) ∙ length-cells_of (forest (trees_of cs))

module _ (cs : List Cell) (is : IsForest cs) (first last : List Tree) (are : trees_of cs ≡ first ++ last) where
  parts : cs ≡ cells_of (forest first) ++ cells_of (forest last)
  parts = cells_are cs _ is are ∙ ap cells_of (forest-append first last) ∙ cells_of-join (forest first) (forest last)

  -- as many cells as the first trees have nodes are within the list
  pub within : size (forest first) ≤ length cs
  within =
      omega (arith, ap length parts, length-append (cells_of (forest first)) (cells_of (forest last)), length-cells_of (forest first))

  -- the first trees stay, and the last ones are under a new node
  pub record IsUnder (label : Label) (zs : List Cell) : Type 0 where
    pub cells : IsForest zs
    pub list : trees_of zs ≡ first ++ node label last ∷ []

  pub under : (label : Label) (n extent : ℕ) (zs : List Cell) → n ≡ size (forest first) → extent ≡ length cs - n + 1 → zs ≡ take n cs ++ record { label = label; extent = extent } ∷ drop n cs → IsUnder label zs
  under label n extent zs e x z =
      let f : Forest = forest first in
      let l : Forest = forest last in
      let long : n ≡ length (cells_of f) = e ∙ sym (length-cells_of f) in
      let front : take n cs ≡ cells_of f =
      ap (λ m. take m cs) long ∙ ap (λ ys. take (length (cells_of f)) ys) parts ∙ take-append_seam (cells_of f) (cells_of l)
      in
      let back : drop n cs ≡ cells_of l =
      ap (λ m. drop m cs) long ∙ ap (λ ys. drop (length (cells_of f)) ys) parts ∙ drop-append_seam (cells_of f) (cells_of l)
      in
      let tall : extent ≡ suc (size l) =
      omega (arith, x, long, ap length parts, length-append (cells_of f) (cells_of l), length-cells_of l)
      in
      let g : Forest = join f (first_tree label l no_tree) in
      let all : zs ≡ cells_of g =
      z
      ∙ ap (λ ys. ys ++ record { label = label; extent = extent } ∷ drop n cs) front
      ∙ ap (λ m. cells_of f ++ record { label = label; extent = m } ∷ drop n cs) tall
      ∙ ap (λ ys. cells_of f ++ record { label = label; extent = suc (size l) } ∷ ys) (back ∙ sym (append-nil (cells_of l)))
      ∙ sym (cells_of-join f (first_tree label l no_tree))
      in
      record {
        cells = forest_cells g zs all;
        list =
            ap trees_of all ∙ ap trees (forest_in-cells_of g) ∙ trees-join f (first_tree label l no_tree)
            ∙ ap (λ ts. ts ++ node label last ∷ []) (trees-forest first);
      }

-- the cells of a list of one tree are those of the tree
pub record IsAlone (cs : List Cell) (tree : Tree) : Type 0 where
  pub cells : IsTree cs
  pub is : tree_of cs ≡ tree

pub alone : (cs : List Cell) (tree : Tree) → IsForest cs → trees_of cs ≡ tree ∷ [] → IsAlone cs tree
alone cs tree f e =
    let all : cs ≡ cells_of_tree tree =
    cells_are cs (tree ∷ []) f e
    ∙ ap (λ ys. record { label = tree.root; extent = suc (size tree.subtrees) } ∷ ys) (append-nil (cells_of tree.subtrees))
    in
    record { cells = tree_cells tree cs all; is = ap tree_of all ∙ tree_of-cells_of_tree tree }
