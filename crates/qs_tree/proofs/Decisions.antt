-- What can be decided of numbers, lists and trees.
use Rattle.std.proofs.Common.{leb, eqb, ◌≡◌, ℕ, ◌≤◌, ◌<◌, Bool, true, false, Option, Some, None, List, [], ◌∷◌, refl, sym, ap, subst, inl, inr, ⊎_elim, ◌⊎◌, arith}
use Rattle.std.proofs.lemmas.Bool.{eqb-true, eq-eqb, leb-true, leb-false}
use Rattle.qs_tree.specs.Lists.{◌∈◌}
use Rattle.qs_tree.specs.declared.cell.Label.{Label}
use Rattle.qs_tree.specs.Trees.{Forest, no_tree, first_tree, Tree}

-- What follows from equations, for the decisions below: these compute, and what they prove needn't.
pub true_false : {b : Bool} → b ≡ false → b ≡ true → ⊥
true_false e t = absurd cc

pub nothing_there : {X : Type 0} {o : Option X} {x : X} → o ≡ None → o ≡ Some x → ⊥
nothing_there e t = absurd cc

pub same_there : {X : Type 0} {o : Option X} {x y : X} → o ≡ Some x → o ≡ Some y → x ≡ y
same_there e t = cc

pub above : {m n : ℕ} → n < m → m ≤ n → ⊥
above l h = omega arith

pub nil_cons : {X : Type 0} {y : X} {ys : List X} → [] ≡ y ∷ ys → ⊥
nil_cons e = absurd cc

pub cons_parts : {X : Type 0} {x y : X} {xs ys : List X} → x ∷ xs ≡ y ∷ ys → (x ≡ y) × (xs ≡ ys)
cons_parts e = (cc, cc)

pub none_first : {l : Label} {k r : Forest} → no_tree ≡ first_tree l k r → ⊥
none_first e = absurd cc

pub first_parts : {l m : Label} {k j r s : Forest} → first_tree l k r ≡ first_tree m j s → (l ≡ m) × (k ≡ j) × (r ≡ s)
first_parts e = (cc, cc, cc)

abbrev pub decide_number : (m n : ℕ) → Dec (m ≡ n)
decide_number m n = tested (eqb m n) refl
  where
    tested : (b : Bool) → eqb m n ≡ b → Dec (m ≡ n)
    tested true e = yes (eqb-true m n e)
    tested false e = no (λ same. true_false e (eq-eqb m n same))

abbrev pub decide_at_most : (m n : ℕ) → Dec (m ≤ n)
decide_at_most m n = tested (leb m n) refl
  where
    tested : (b : Bool) → leb m n ≡ b → Dec (m ≤ n)
    tested true e = yes (leb-true m n e)
    tested false e = no (λ h. above (leb-false m n e) h)

abbrev pub decide_not : {P : Type 0} → Dec P → Dec (P → ⊥)
decide_not (yes p) = no (λ n. n p)
decide_not (no n) = yes n

abbrev pub decide_both : {P Q : Type 0} → Dec P → Dec Q → Dec (P × Q)
decide_both (yes p) (yes q) = yes (p, q)
decide_both (no n) q = no (λ h. n h.0)
decide_both p (no n) = no (λ h. n h.1)

abbrev pub decide_either : {P Q : Type 0} → Dec P → Dec Q → Dec (P ⊎ Q)
decide_either (yes p) q = yes (inl p)
decide_either p (yes q) = yes (inr q)
decide_either (no n) (no m) = no (λ h. ⊎_elim n m h)

abbrev pub decide_list : {X : Type 0} → ((x y : X) → Dec (x ≡ y)) → (xs ys : List X) → Dec (xs ≡ ys)
decide_list d [] [] = yes refl
decide_list d [] (y ∷ ys) = no (λ e. nil_cons e)
decide_list d (x ∷ xs) [] = no (λ e. nil_cons (sym e))
decide_list d (x ∷ xs) (y ∷ ys) = both (d x y) (decide_list d xs ys)
  where
    both : Dec (x ≡ y) → Dec (xs ≡ ys) → Dec ((x ∷ xs) ≡ (y ∷ ys))
    both (yes p) (yes q) = yes (λ i. p i ∷ q i)
    both (no n) q = no (λ e. n (cons_parts e).0)
    both p (no n) = no (λ e. n (cons_parts e).1)

abbrev pub decide_member : {X : Type 0} → ((x y : X) → Dec (x ≡ y)) → (x : X) (xs : List X) → Dec (x ∈ xs)
decide_member d x [] = no (λ i. i)
decide_member d x (y ∷ xs) = either (d x y) (decide_member d x xs)
  where
    either : Dec (x ≡ y) → Dec (x ∈ xs) → Dec (x ∈ (y ∷ xs))
    either (yes e) i = yes (inl e)
    either e (yes i) = yes (inr i)
    either (no n) (no m) = no (λ i. ⊎_elim n m i)

-- whether P holds of each member
abbrev pub decide_each : {X : Type 0} (P : X → Type 0) → ((x : X) → Dec (P x)) → (xs : List X) → Dec ((x : X) → x ∈ xs → P x)
decide_each P d [] = yes (λ x i. absurd i)
decide_each P d (y ∷ xs) = both (d y) (decide_each P d xs)
  where
    both : Dec (P y) → Dec ((x : _) → x ∈ xs → P x) → Dec ((x : _) → x ∈ (y ∷ xs) → P x)
    both (yes p) (yes q) = yes (λ x i. ⊎_elim (λ e. subst P (sym e) p) (q x) i)
    both (no n) q = no (λ h. n (h y (inl refl)))
    both p (no n) = no (λ h. n (λ x i. h x (inr i)))

abbrev pub decide_label : (l m : Label) → Dec (l ≡ m)
decide_label l m = by (decide_number l.0 m.0)
  where
    by : Dec (l.0 ≡ m.0) → Dec (l ≡ m)
    by (yes e) = yes (λ i. record { 0 = e i })
    by (no n) = no (λ e. n (ap (λ (x : Label). x.0) e))

abbrev pub decide_forest : (g h : Forest) → Dec (g ≡ h)
decide_forest no_tree no_tree = yes refl
decide_forest no_tree (first_tree m j s) = no (λ e. none_first e)
decide_forest (first_tree l k r) no_tree = no (λ e. none_first (sym e))
decide_forest (first_tree l k r) (first_tree m j s) = all_of (decide_label l m) (decide_forest k j) (decide_forest r s)
  where
    all_of : Dec (l ≡ m) → Dec (k ≡ j) → Dec (r ≡ s) → Dec (first_tree l k r ≡ first_tree m j s)
    all_of (yes p) (yes q) (yes d) = yes (λ i. first_tree (p i) (q i) (d i))
    all_of (no n) q d = no (λ e. n (first_parts e).0)
    all_of p (no n) d = no (λ e. n (first_parts e).1)
    all_of p q (no n) = no (λ e. n (first_parts e).2)

abbrev pub decide_tree : (t u : Tree) → Dec (t ≡ u)
decide_tree t u = both (decide_label t.root u.root) (decide_forest t.subtrees u.subtrees)
  where
    both : Dec (t.root ≡ u.root) → Dec (t.subtrees ≡ u.subtrees) → Dec (t ≡ u)
    both (yes p) (yes q) = yes (λ i. record { root = p i; subtrees = q i })
    both (no n) q = no (λ e. n (ap (λ (x : Tree). x.root) e))
    both p (no n) = no (λ e. n (ap (λ (x : Tree). x.subtrees) e))
