-- Trees in which each node but the last has one subtree.
use Rattle.std.proofs.Common.{◌≡◌, ℕ, zero, suc, ◌+◌, ◌<◌, List, [], ◌∷◌, ◌++◌, sym, refl, ap, ◌∙◌, subst, arith, append-nil, append_assoc}
use Rattle.qs_tree.specs.declared.cell.Label.{Label}
use Rattle.qs_tree.specs.declared.cell.Cell.{Cell}
use Rattle.qs_tree.specs.Trees.{Forest, no_tree, first_tree, Tree, size}
use Rattle.qs_tree.specs.Cells.{cells_of, tree_of, IsTree}
use Rattle.qs_tree.specs.working.Cells.{tree_of-cells_of_tree}
use Rattle.qs_tree.specs.Text.{AreNamed, IsNamed}
use Rattle.qs_tree.proofs.Runs.{tree_cells}

abbrev pub chain : Label → ℕ → Forest
chain l zero = no_tree
chain l (suc n) = first_tree l (chain l n) no_tree

size-chain : (l : Label) (n : ℕ) → size (chain l n) ≡ n
size-chain l zero = refl
size-chain l (suc n) = omega (arith, size-chain l n)

AreNamed-chain : (l : Label) (n : ℕ) → AreNamed (l.0 + 1) (chain l n)
AreNamed-chain l zero = tt
AreNamed-chain l (suc n) = (omega arith, AreNamed-chain l n, tt)

-- a cell more, and a chain that is one shorter behind it
pub chain_on : (l : Label) (n m : ℕ) (xs : List Cell) → n ≡ m + 1 → (xs ++ record { label = l; extent = n } ∷ []) ++ cells_of (chain l m) ≡ xs ++ cells_of (chain l n)
chain_on l n m xs e =
    append_assoc xs (record { label = l; extent = n } ∷ []) (cells_of (chain l m))
    ∙ ap (λ ys. xs ++ ys) (ap (λ k. record { label = l; extent = k } ∷ cells_of (chain l m)) (longer ∙ ap suc (sym (size-chain l m))) ∙ ap (λ ys. record { label = l; extent = suc (size (chain l m)) } ∷ ys) (sym (append-nil (cells_of (chain l m)))))
    ∙ ap (λ k. xs ++ cells_of (chain l k)) (sym longer)
  where
    longer : n ≡ suc m
    longer = omega arith

-- the cells of a chain of at least one node are those of a tree
pub IsTree-chain : (l : Label) (n : ℕ) (cs : List Cell) → 0 < n → cs ≡ cells_of (chain l n) → IsTree cs
IsTree-chain l zero cs h e = absurd (omega arith)
IsTree-chain l (suc n) cs h e =
    tree_cells (record { root = l; subtrees = chain l n }) cs (e ∙ ap (λ ys. record { label = l; extent = suc (size (chain l n)) } ∷ ys) (append-nil (cells_of (chain l n))))

pub IsNamed-chain : (l : Label) (n : ℕ) (cs : List Cell) → 0 < n → cs ≡ cells_of (chain l n) → IsNamed (l.0 + 1) (tree_of cs)
IsNamed-chain l zero cs h e = absurd (omega arith)
IsNamed-chain l (suc n) cs h e =
    let t : Tree = record { root = l; subtrees = chain l n } in
    let is : tree_of cs ≡ t = ap tree_of (e ∙ ap (λ ys. record { label = l; extent = suc (size (chain l n)) } ∷ ys) (append-nil (cells_of (chain l n)))) ∙ tree_of-cells_of_tree t in
    let all : IsNamed (l.0 + 1) t = (omega arith, AreNamed-chain l n) in
    subst (IsNamed (l.0 + 1)) (sym is) all

-- no cells are left to come
pub whole : (l : Label) (n : ℕ) (xs ys : List Cell) → n ≡ 0 → xs ++ cells_of (chain l n) ≡ ys → xs ≡ ys
whole l n xs ys e h = sym (append-nil xs) ∙ ap (λ k. xs ++ cells_of (chain l k)) (sym e) ∙ h
