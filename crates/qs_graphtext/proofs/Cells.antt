-- The cells of trees as they are put down.
use Rattle.std.proofs.Common.{◌≡◌, ℕ, suc, ◌+◌, ◌-◌, refl, sym, ◌∙◌, ap, List, [], ◌∷◌, ◌++◌, length, append_assoc, append-nil, length-append, arith}
use Rattle.std.specs.Prelude.{slice_set}
use Rattle.std.proofs.lemmas.List.{set_at}
use Rattle.qs_tree.specs.declared.cell.Label.{Label}
use Rattle.qs_tree.specs.declared.cell.Cell.{Cell}
use Rattle.qs_tree.specs.Trees.{Forest, no_tree, first_tree, Tree, size}
use Rattle.qs_tree.specs.working.Trees.{join}
use Rattle.qs_tree.specs.Cells.{cells_of, cells_of_tree, IsTree, tree_of}
use Rattle.qs_tree.specs.working.Cells.{tree_of-cells_of_tree}
use Rattle.qs_tree.proofs.Runs.{length-cells_of}
use Rattle.qs_tree.proofs.Joined.{cells_of-join}

pub join_assoc : (f g h : Forest) → join (join f g) h ≡ join f (join g h)
join_assoc no_tree g h = refl
join_assoc (first_tree l k r) g h = ap (λ x. first_tree l k x) (join_assoc r g h)

cells_of_one : (t : Tree) → cells_of_tree t ≡ cells_of (first_tree t.root t.subtrees no_tree)
cells_of_one t = ap (λ xs. record { label = t.root; extent = suc (size t.subtrees) } ∷ xs) (sym (append-nil (cells_of t.subtrees)))

-- the first tree's cells, and those of one more tree
pub first_cells : (old now : List Cell) (t : Tree) → now ≡ old ++ cells_of_tree t → now ≡ old ++ cells_of (first_tree t.root t.subtrees no_tree)
first_cells old now t e = e ∙ ap (λ xs. old ++ xs) (cells_of_one t)

pub more_cells : (old before now : List Cell) (so_far : Forest) (t : Tree) → before ≡ old ++ cells_of so_far → now ≡ before ++ cells_of_tree t
    → now ≡ old ++ cells_of (join so_far (first_tree t.root t.subtrees no_tree))
more_cells old before now so_far t b e =
    e ∙ ap (λ xs. xs ++ cells_of_tree t) b ∙ append_assoc old (cells_of so_far) (cells_of_tree t)
    ∙ ap (λ xs. old ++ (cells_of so_far ++ xs)) (cells_of_one t)
    ∙ ap (λ xs. old ++ xs) (sym (cells_of-join so_far (first_tree t.root t.subtrees no_tree)))

-- the root's cell is put down, then those of its subtrees, and then its extent is known
pub root_cells : (old pushed all : List Cell) (c : Cell) (label : Label) (kids : Forest) (root len : ℕ)
    → pushed ≡ old ++ c ∷ [] → all ≡ pushed ++ cells_of kids → root ≡ length old → len ≡ length all
    → slice_set all root (record { label = label; extent = len - root }) ≡ old ++ cells_of_tree (record { root = label; subtrees = kids })
root_cells old pushed all c label kids root len p a r n =
    let are : all ≡ old ++ c ∷ cells_of kids = a ∙ ap (λ xs. xs ++ cells_of kids) p ∙ append_assoc old (c ∷ []) (cells_of kids) in
    let count : len ≡ length old + suc (size kids) = n ∙ ap length are ∙ length-append old (c ∷ cells_of kids) ∙ ap (λ k. length old + suc k) (length-cells_of kids) in
    let extent : len - root ≡ suc (size kids) = omega (arith, count, r) in
    rw (are, r) (set_at old c (cells_of kids) _ (length old) refl) ∙ ap (λ k. old ++ record { label = label; extent = k } ∷ cells_of kids) extent

-- what was put down from nothing is one tree
pub whole_tree : (cells : List Cell) (t : Tree) → cells ≡ [] ++ cells_of_tree t → IsTree cells
whole_tree cells t e = rw e (ap cells_of_tree (tree_of-cells_of_tree t))

pub tree_is : (cells : List Cell) (t : Tree) → cells ≡ [] ++ cells_of_tree t → tree_of cells ≡ t
tree_is cells t e = rw e (tree_of-cells_of_tree t)

pub from_nothing : (old now seen : List Cell) (t : Tree) → old ≡ [] → now ≡ old ++ cells_of_tree t → seen ≡ now → seen ≡ [] ++ cells_of_tree t
from_nothing old now seen t o n s = s ∙ n ∙ ap (λ xs. xs ++ cells_of_tree t) o
