-- Where the first tree of a list of trees ends in its cells.
use Rattle.std.proofs.Common.{◌≡◌, ℕ, ◌+◌, ◌≤◌, suc, List, [], ◌∷◌, ◌++◌, length, take, drop, Some, sym, refl, ap, ◌∙◌, subst, arith, length-append}
use Rattle.std.specs.Prelude.{slice_get}
use Rattle.std.proofs.Math.Seq.{take-append_seam, drop-append_seam}
use Rattle.qs_tree.specs.declared.cell.Label.{Label}
use Rattle.qs_tree.specs.declared.cell.Cell.{Cell}
use Rattle.qs_tree.specs.Trees.{Forest, no_tree, first_tree, Tree, trees, size}
use Rattle.qs_tree.specs.Cells.{cells_of, cells_of_tree, forest_in, trees_of, tree_of, IsTree, IsForest}
use Rattle.qs_tree.specs.working.Cells.{forest_in-cells_of, tree_of-cells_of_tree}

pub length-cells_of : (g : Forest) → length (cells_of g) ≡ size g
length-cells_of no_tree = refl
length-cells_of (first_tree l k r) =
    ap suc (length-append (cells_of k) (cells_of r) ∙ ap (λ n. n + length (cells_of r)) (length-cells_of k) ∙ ap (λ n. size k + n) (length-cells_of r))

-- the first n of these cells are one tree, and the others the trees behind it
pub record Splits (cs : List Cell) (n : ℕ) : Type 0 where
  pub within : n ≤ length cs
  pub first : IsTree (take n cs)
  pub rest : IsForest (drop n cs)
  pub are : trees_of cs ≡ tree_of (take n cs) ∷ trees_of (drop n cs)

pub tree_cells : (t : Tree) (cs : List Cell) → cs ≡ cells_of_tree t → IsTree cs
tree_cells t cs e = subst IsTree (sym e) (ap cells_of_tree (tree_of-cells_of_tree t))

pub forest_cells : (g : Forest) (cs : List Cell) → cs ≡ cells_of g → IsForest cs
forest_cells g cs e = subst IsForest (sym e) (ap cells_of (forest_in-cells_of g))

first_tree-Splits : (l : Label) (k r : Forest) → Splits (cells_of (first_tree l k r)) (suc (size k))
first_tree-Splits l k r =
    let long : length (cells_of k) ≡ size k = length-cells_of k in
    let t : Tree = record { root = l; subtrees = k } in
    let cs : List Cell = cells_of k ++ cells_of r in
    let front : take (size k) cs ≡ cells_of k = ap (λ n. take n cs) (sym long) ∙ take-append_seam (cells_of k) (cells_of r) in
    let back : drop (size k) cs ≡ cells_of r = ap (λ n. drop n cs) (sym long) ∙ drop-append_seam (cells_of k) (cells_of r) in
    record {
      within = omega (arith, long, length-append (cells_of k) (cells_of r));
      first = tree_cells t _ (ap (λ xs. record { label = l; extent = suc (size k) } ∷ xs) front);
      rest = forest_cells r _ back;
      are =
          ap trees (forest_in-cells_of (first_tree l k r))
          ∙ ap (λ us. t ∷ us) (sym (ap trees_of back ∙ ap trees (forest_in-cells_of r)))
          ∙ ap (λ g. record { root = l; subtrees = g } ∷ trees_of (drop (size k) cs)) (sym (ap forest_in front ∙ forest_in-cells_of k));
    }

splits_at : (g : Forest) (c : Cell) (cs : List Cell) → cells_of g ≡ c ∷ cs → Splits (c ∷ cs) c.extent
splits_at no_tree c cs e = cc
splits_at (first_tree l k r) c cs e =
    let n : suc (size k) ≡ c.extent = cc in
    subst (λ m. Splits (c ∷ cs) m) n (subst (λ xs. Splits xs (suc (size k))) e (first_tree-Splits l k r))

-- the first cell says where the first tree ends
pub splits : (cs : List Cell) (c : Cell) → Some c ≡ slice_get cs 0 → IsForest cs → Splits cs c.extent
splits [] c e h = cc
splits (x ∷ xs) c e h =
    let same : x ≡ c = cc in
    subst (λ d. Splits (x ∷ xs) d.extent) same (splits_at (forest_in (x ∷ xs)) x xs h)

trees-size : (g : Forest) → length (trees g) ≤ size g
trees-size no_tree = omega arith
trees-size (first_tree l k r) = omega (arith, trees-size r)

-- cells hold at most as many trees as they are
pub count_le : (cs : List Cell) → IsForest cs → length (trees_of cs) ≤ length cs
count_le cs h = omega (arith, trees-size (forest_in cs), length-cells_of (forest_in cs), ap length h)
