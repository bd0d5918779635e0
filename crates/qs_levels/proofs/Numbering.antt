-- Labels that are numbered as they are met.
use Rattle.std.proofs.Common.{◌≡◌, ◌≢◌, ◌⊎◌, ℕ, ◌+◌, ◌≤◌, Bool, true, false, cond, nat_eq, inl, inr, ⊎_elim, List, [], ◌∷◌, ◌++◌, length, Option, Some, None, slice_get, refl, sym, ap, ◌∙◌, subst, arith, eq-eqb}
use Rattle.std.proofs.lemmas.List.{length_push}
use Rattle.qs_tree.specs.Lists.{◌∈◌}
use Rattle.qs_tree.specs.declared.cell.Label.{Label}
use Rattle.qs_tree.proofs.Members.{in_at, in_append_left, in_append_right, from_append}
use Rattle.qs_graph.proofs.Paths.{slice_get-append}
use Rattle.qs_firing.proofs.Merging.{at_seam}
use Rattle.qs_firing.proofs.Placing.{in_more, by_answer}
use Rattle.qs_levels.specs.Tops.{stands_in, with_label, with_labels, each_once}
use Rattle.qs_levels.specs.working.Steps.{AreNumbered}

pub same_label : (l k : Label) → l.0 ≡ k.0 → l ≡ k
same_label l k e = λ i. record { 0 = e i }

-- the test tells members
pub stands-true : (l : Label) (ls : List Label) → stands_in l ls ≡ true → l ∈ ls
stands-true l [] e = absurd cc
stands-true l (k ∷ ls) e = by (by_answer k.0 l.0) (stands-true l ls) e
  where
    by : ((k.0 ≡ l.0) × (nat_eq k.0 l.0 ≡ true)) ⊎ ((k.0 ≢ l.0) × (nat_eq k.0 l.0 ≡ false)) → (stands_in l ls ≡ true → l ∈ ls) → stands_in l (k ∷ ls) ≡ true → l ∈ (k ∷ ls)
    by (inl p) rest e = inl (same_label l k (sym p.0))
    by (inr p) rest e = inr (rest (sym (ap (λ b. cond b true (stands_in l ls)) p.1) ∙ e))

pub true-stands : (l : Label) (ls : List Label) → l ∈ ls → stands_in l ls ≡ true
true-stands l [] i = absurd i
true-stands l (k ∷ ls) (inl e) = ap (λ b. cond b true (stands_in l ls)) (eq-eqb k.0 l.0 (sym (ap (λ (x : Label). x.0) e)))
true-stands l (k ∷ ls) (inr i) = by (nat_eq k.0 l.0) (true-stands l ls i)
  where
    by : (b : Bool) → stands_in l ls ≡ true → cond b true (stands_in l ls) ≡ true
    by true e = refl
    by false e = e

-- a label stands in the list, or is put behind it
pub with_cases : (ls : List Label) (l : Label) → ((l ∈ ls) × (with_label ls l ≡ ls)) ⊎ ((l ∈ ls → ⊥) × (with_label ls l ≡ ls ++ l ∷ []))
with_cases ls l = by (stands_in l ls) refl
  where
    by : (b : Bool) → stands_in l ls ≡ b → ((l ∈ ls) × (with_label ls l ≡ ls)) ⊎ ((l ∈ ls → ⊥) × (with_label ls l ≡ ls ++ l ∷ []))
    by true e = inl (stands-true l ls e, ap (λ b. cond b ls (ls ++ l ∷ [])) e)
    by false e = inr (λ i. let t : true ≡ false = sym (true-stands l ls i) ∙ e in absurd cc, ap (λ b. cond b ls (ls ++ l ∷ [])) e)

-- what stands at a place stays there
pub with_keeps : (ls : List Label) (l : Label) (k : ℕ) (x : Label) → slice_get ls k ≡ Some x → slice_get (with_label ls l) k ≡ Some x
with_keeps ls l k x e = ⊎_elim
    (λ (i, same). ap (λ ks. slice_get ks k) same ∙ e)
    (λ (out, more). ap (λ ks. slice_get ks k) more ∙ slice_get-append ls (l ∷ []) k x e)
    (with_cases ls l)

pub with_long : (ls : List Label) (l : Label) → length (with_label ls l) ≤ length ls + 1
with_long ls l = ⊎_elim (λ (i, same). omega (arith, ap length same)) (λ (out, more). omega (arith, ap length more, length_push ls l)) (with_cases ls l)

with_all : (ls ks : List Label) → length (with_labels ls ks) ≤ length ls + length ks
with_all ls [] = omega arith
with_all ls (k ∷ ks) = omega (arith, with_all (with_label ls k) ks, with_long ls k)

pub few_labels : (ls : List Label) → length (each_once ls) ≤ length ls
few_labels ls = omega (arith, with_all [] ls)

pub with_labels-more : (ls ks : List Label) (l : Label) → with_labels ls (ks ++ l ∷ []) ≡ with_label (with_labels ls ks) l
with_labels-more ls [] l = refl
with_labels-more ls (k ∷ ks) l = with_labels-more (with_label ls k) ks l

-- the labels of a list are those that stand in it
in_with : (ls : List Label) (l : Label) (x : Label) → x ∈ with_label ls l → (x ∈ ls) ⊎ (x ≡ l)
in_with ls l x i = ⊎_elim
    (λ (j, same). inl (subst (λ ks. x ∈ ks) same i))
    (λ (out, more). ⊎_elim inl (λ k. inr (⊎_elim (λ e. e) (λ none. absurd none) k)) (from_append ls (l ∷ []) x (subst (λ ks. x ∈ ks) more i)))
    (with_cases ls l)

old_with : (ls : List Label) (l : Label) (x : Label) → x ∈ ls → x ∈ with_label ls l
old_with ls l x i = ⊎_elim (λ (j, same). subst (λ ks. x ∈ ks) (sym same) i) (λ (out, more). subst (λ ks. x ∈ ks) (sym more) (in_append_left ls (l ∷ []) x i)) (with_cases ls l)

new_with : (ls : List Label) (l : Label) → l ∈ with_label ls l
new_with ls l = ⊎_elim (λ (j, same). subst (λ ks. l ∈ ks) (sym same) j) (λ (out, more). subst (λ ks. l ∈ ks) (sym more) (in_append_right ls (l ∷ []) l (inl refl))) (with_cases ls l)

from_withs : (ls ks : List Label) (x : Label) → x ∈ with_labels ls ks → (x ∈ ls) ⊎ (x ∈ ks)
from_withs ls [] x i = inl i
from_withs ls (k ∷ ks) x i = ⊎_elim (λ j. ⊎_elim inl (λ e. inr (inl e)) (in_with ls k x j)) (λ j. inr (inr j)) (from_withs (with_label ls k) ks x i)

pub from_once : (ls : List Label) (x : Label) → x ∈ each_once ls → x ∈ ls
from_once ls x i = ⊎_elim (λ j. absurd j) (λ j. j) (from_withs [] ls x i)

in_withs : (ls ks : List Label) (x : Label) → (x ∈ ls) ⊎ (x ∈ ks) → x ∈ with_labels ls ks
in_withs ls [] x (inl i) = i
in_withs ls [] x (inr i) = absurd i
in_withs ls (k ∷ ks) x (inl i) = in_withs (with_label ls k) ks x (inl (old_with ls k x i))
in_withs ls (k ∷ ks) x (inr (inl e)) = in_withs (with_label ls k) ks x (inl (subst (λ y. y ∈ with_label ls k) (sym e) (new_with ls k)))
in_withs ls (k ∷ ks) x (inr (inr i)) = in_withs (with_label ls k) ks x (inr i)

pub in_once : (ls : List Label) (x : Label) → x ∈ ls → x ∈ each_once ls
in_once ls x i = in_withs [] ls x (inr i)

-- and each stands at one place
abbrev pub AreApart : List Label → Type 0
AreApart ls = (i j : ℕ) (l : Label) → slice_get ls i ≡ Some l → slice_get ls j ≡ Some l → i ≡ j

with_apart : (ls : List Label) (l : Label) → AreApart ls → AreApart (with_label ls l)
with_apart ls l a = ⊎_elim (λ (j, same). subst AreApart (sym same) a) (λ (out, more). subst AreApart (sym more) (behind out)) (with_cases ls l)
  where
    behind : (l ∈ ls → ⊥) → AreApart (ls ++ l ∷ [])
    behind out i j x e f = ⊎_elim
        (λ p. ⊎_elim (λ q. a i j x p q) (λ (k, s). absurd (out (subst (λ y. y ∈ ls) s (in_at ls i x p)))) (in_more ls l j x f))
        (λ (k, s). ⊎_elim (λ q. absurd (out (subst (λ y. y ∈ ls) s (in_at ls j x q)))) (λ (m, t). k ∙ sym m) (in_more ls l j x f))
        (in_more ls l i x e)

withs_apart : (ls ks : List Label) → AreApart ls → AreApart (with_labels ls ks)
withs_apart ls [] a = a
withs_apart ls (k ∷ ks) a = withs_apart (with_label ls k) ks (with_apart ls k a)

pub once_apart : (ls : List Label) → AreApart (each_once ls)
once_apart ls = withs_apart [] ls (λ i j l e f. absurd cc)

-- a known label
module _ (ls : List Label) (number_of : ℕ → Option ℕ) (a : AreNumbered ls number_of) (l : Label) where
  pub known_stays : (k : ℕ) → number_of l.0 ≡ Some k → (with_label ls l ≡ ls) × (slice_get ls k ≡ Some l)
  known_stays k e =
      let at = a.sound l k e in
      (⊎_elim (λ (i, same). same) (λ (out, more). absurd (out (in_at ls k l at))) (with_cases ls l), at)

  -- a new one takes the next number
  module _ (none : number_of l.0 ≡ None) (after : ℕ → Option ℕ) (new : (n : ℕ) → after n ≡ cond (nat_eq l.0 n) (Some (length ls)) (number_of n)) where
    pub is_behind : with_label ls l ≡ ls ++ l ∷ []
    is_behind = ⊎_elim (λ (i, same). absurd (a.all l i none)) (λ (out, more). more) (with_cases ls l)

    pub is_numbered : AreNumbered (ls ++ l ∷ []) after
    is_numbered = record { sound = sound; all = all }
      where
        sound : (x : Label) (k : ℕ) → after x.0 ≡ Some k → slice_get (ls ++ l ∷ []) k ≡ Some x
        sound x k e = ⊎_elim
            (λ (s, t).
            let at : length ls ≡ k = (let p = sym (new x.0 ∙ ap (λ b. cond b (Some (length ls)) (number_of x.0)) t) ∙ e in cc) in
            let same : l ≡ x = same_label l x s in
            subst (λ j. slice_get (ls ++ l ∷ []) j ≡ Some x) at (at_seam ls l [] ∙ ap Some same))
            (λ (d, f). slice_get-append ls (l ∷ []) k x (a.sound x k (sym (new x.0 ∙ ap (λ b. cond b (Some (length ls)) (number_of x.0)) f) ∙ e)))
            (by_answer l.0 x.0)

        all : (x : Label) → x ∈ (ls ++ l ∷ []) → after x.0 ≡ None → ⊥
        all x i e = ⊎_elim
            (λ (s, t). let p = sym (new x.0 ∙ ap (λ b. cond b (Some (length ls)) (number_of x.0)) t) ∙ e in cc)
            (λ (d, f). ⊎_elim
            (λ j. a.all x j (sym (new x.0 ∙ ap (λ b. cond b (Some (length ls)) (number_of x.0)) f) ∙ e))
            (λ j. ⊎_elim (λ s. d (sym (ap (λ (y : Label). y.0) s))) (λ n. n) j)
            (from_append ls (l ∷ []) x i))
            (by_answer l.0 x.0)

pub none_numbered : (number_of : ℕ → Option ℕ) → ((n : ℕ) → number_of n ≡ None) → AreNumbered [] number_of
none_numbered number_of none = record { sound = λ l k e. (let p = sym (none l.0) ∙ e in absurd cc); all = λ l i. absurd i }
