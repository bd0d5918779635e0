-- Trees that are the same are equal, and each is the same as itself.
use Rattle.std.proofs.Common.{◌≡◌, Bool, true, false, refl, eqb, eqb-true, eq-eqb}
use Rattle.std.specs.Prelude.{◌&&◌}
use Rattle.qs_tree.specs.declared.cell.Label.{Label}
use Rattle.qs_tree.specs.Trees.{Forest, no_tree, first_tree, Tree}
use Rattle.qs_tree.specs.Sameness.{same_forest, same_tree}

pub and_true : (a b : Bool) → (a && b) ≡ true → (a ≡ true) × (b ≡ true)
and_true true b e = (refl, e)
and_true false b e = absurd cc

pub true_and : (a b : Bool) → a ≡ true → b ≡ true → (a && b) ≡ true
true_and true b e d = d
true_and false b e d = absurd cc

same_label : (l m : Label) → eqb l.0 m.0 ≡ true → l ≡ m
same_label l m e = let p = eqb-true l.0 m.0 e in λ i. record { 0 = p i }

pub same_forest-true : (f g : Forest) → same_forest f g ≡ true → f ≡ g
same_forest-true no_tree no_tree e = refl
same_forest-true no_tree (first_tree m h s) e = absurd cc
same_forest-true (first_tree l k r) no_tree e = absurd cc
same_forest-true (first_tree l k r) (first_tree m h s) e =
    let (a, b) = and_true (eqb l.0 m.0) (same_forest k h && same_forest r s) e in
    let (c, d) = and_true (same_forest k h) (same_forest r s) b in
    let p : l ≡ m = same_label l m a in
    let q : k ≡ h = same_forest-true k h c in
    let t : r ≡ s = same_forest-true r s d in
    cc

pub same_forest-refl : (f : Forest) → same_forest f f ≡ true
same_forest-refl no_tree = refl
same_forest-refl (first_tree l k r) =
    true_and (eqb l.0 l.0) (same_forest k k && same_forest r r) (eq-eqb l.0 l.0 refl) (true_and (same_forest k k) (same_forest r r) (same_forest-refl k) (same_forest-refl r))

pub same_tree-true : (t u : Tree) → same_tree t u ≡ true → t ≡ u
same_tree-true t u e =
    let (a, b) = and_true (eqb t.root.0 u.root.0) (same_forest t.subtrees u.subtrees) e in
    let p : t.root ≡ u.root = same_label t.root u.root a in
    let q : t.subtrees ≡ u.subtrees = same_forest-true t.subtrees u.subtrees b in
    λ i. record { root = p i; subtrees = q i }

pub same_tree-refl : (t : Tree) → same_tree t t ≡ true
same_tree-refl t = true_and (eqb t.root.0 t.root.0) (same_forest t.subtrees t.subtrees) (eq-eqb t.root.0 t.root.0 refl) (same_forest-refl t.subtrees)
