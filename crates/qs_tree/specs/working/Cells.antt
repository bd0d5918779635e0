-- That cells give back the trees whose cells they are: the logic keeps trees as their cells.
use Rattle.std.specs.Prelude.{◌≡◌, ◌+◌, ◌-◌, List, [], ◌++◌, refl}
use Rattle.std.specs.Coded.{Coded, code_by, coded_list}
use Rattle.std.proofs.Common.{sym, ◌∙◌, ap, suc, arith, append_assoc, append-nil}
use Rattle.qs_tree.specs.declared.cell.Cell.{Cell}
use Rattle.qs_tree.specs.contracts.cell.Cell as cell
use Rattle.qs_tree.specs.Trees.{Forest, no_tree, first_tree, Tree, size}
use Rattle.qs_tree.specs.working.Trees.{join}
use Rattle.qs_tree.specs.Cells.{cells_of, cells_of_tree, front, back, gather, forest_in, tree_of}

pub front-join : (k h : Forest) → front (size k) (join k h) ≡ k
front-join no_tree h = refl
front-join (first_tree l k r) h =
    ap (λ g. first_tree l k g) (ap (λ n. front n (join r h)) (let e : (size k + size r) - size k ≡ size r = omega arith
    in e) ∙ front-join r h)

pub back-join : (k h : Forest) → back (size k) (join k h) ≡ h
back-join no_tree h = refl
back-join (first_tree l k r) h =
    ap (λ n. back n (join r h)) (let e : (size k + size r) - size k ≡ size r = omega arith in e) ∙ back-join r h

pub join-no_tree : (g : Forest) → join g no_tree ≡ g
join-no_tree no_tree = refl
join-no_tree (first_tree l k r) = ap (λ g. first_tree l k g) (join-no_tree r)

-- cells of trees, and whatever comes behind them, give these trees and what comes behind them
pub forest_in-append : (g : Forest) (cs : List Cell) → forest_in (cells_of g ++ cs) ≡ join g (forest_in cs)
forest_in-append no_tree cs = refl
forest_in-append (first_tree l k r) cs =
    ap (λ xs. gather l (suc (size k)) (forest_in xs)) (append_assoc (cells_of k) (cells_of r) cs)
    ∙ ap (λ g. gather l (suc (size k)) g) (forest_in-append k (cells_of r ++ cs))
    ∙ ap (λ g. gather l (suc (size k)) (join k g)) (forest_in-append r cs)
    ∙ ap (λ g. first_tree l g (back (size k) (join k (join r (forest_in cs))))) (front-join k (join r (forest_in cs)))
    ∙ ap (λ g. first_tree l k g) (back-join k (join r (forest_in cs)))

pub forest_in-cells_of : (g : Forest) → forest_in (cells_of g) ≡ g
forest_in-cells_of g = ap forest_in (sym (append-nil (cells_of g))) ∙ forest_in-append g [] ∙ join-no_tree g

pub tree_of-cells_of_tree : (t : Tree) → tree_of (cells_of_tree t) ≡ t
tree_of-cells_of_tree t =
    ap (λ (g : Forest). let r : Tree = record { root = t.root; subtrees = g } in r) (forest_in-cells_of t.subtrees)

abbrev pub tree_code : Coded Tree
tree_code =
    code_by (List Cell) (coded_list cell.the_row.coded) cells_of_tree tree_of tree_of-cells_of_tree
