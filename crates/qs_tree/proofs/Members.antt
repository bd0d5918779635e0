-- Members of lists that are made from other lists.
use Rattle.std.proofs.Common.{◌≡◌, ℕ, zero, suc, ◌+◌, ◌<◌, ◌≤◌, Bool, true, false, List, [], ◌∷◌, ◌++◌, length, map, get_or, refl, sym, ◌∙◌, ap, subst, inl, inr, ⊎_elim, ◌⊎◌, arith, Some, slice_get}
use Rattle.std.specs.Prelude.{if◌then◌else◌}
use Rattle.std.specs.List.{filter, flat_map}
use Rattle.std.proofs.lemmas.Bool.{cases_lt}
use Rattle.std.proofs.lemmas.Option.{slice_get_read}
use Rattle.qs_tree.specs.Lists.{◌∈◌}

pub in_append_left : {X : Type 0} (xs ys : List X) (x : X) → x ∈ xs → x ∈ (xs ++ ys)
in_append_left [] ys x i = absurd i
in_append_left (y ∷ xs) ys x (inl e) = inl e
in_append_left (y ∷ xs) ys x (inr i) = inr (in_append_left xs ys x i)

pub in_append_right : {X : Type 0} (xs ys : List X) (x : X) → x ∈ ys → x ∈ (xs ++ ys)
in_append_right [] ys x i = i
in_append_right (y ∷ xs) ys x i = inr (in_append_right xs ys x i)

pub from_append : {X : Type 0} (xs ys : List X) (x : X) → x ∈ (xs ++ ys) → (x ∈ xs) ⊎ (x ∈ ys)
from_append [] ys x i = inr i
from_append (y ∷ xs) ys x (inl e) = inl (inl e)
from_append (y ∷ xs) ys x (inr i) = ⊎_elim (λ j. inl (inr j)) inr (from_append xs ys x i)

pub in_map : {X Y : Type 0} (f : X → Y) (xs : List X) (x : X) → x ∈ xs → f x ∈ map f xs
in_map f [] x i = absurd i
in_map f (y ∷ xs) x (inl e) = inl (ap f e)
in_map f (y ∷ xs) x (inr i) = inr (in_map f xs x i)

-- a member of map f xs is f of a member of xs
pub mapped : {X Y : Type 0} (f : X → Y) (xs : List X) (y : Y) → y ∈ map f xs → (x : X) × (x ∈ xs) × (y ≡ f x)
mapped f [] y i = absurd i
mapped f (x ∷ xs) y (inl e) = (x, inl refl, e)
mapped f (x ∷ xs) y (inr i) = let (z, j, e) = mapped f xs y i in (z, inr j, e)

-- what holds of each f x holds of the members of map f xs
pub from_map : {X Y : Type 0} (f : X → Y) (xs : List X) (P : Y → Type 0) → ((x : X) → x ∈ xs → P (f x)) → (y : Y) → y ∈ map f xs → P y
from_map f [] P h y i = absurd i
from_map f (x ∷ xs) P h y (inl e) = subst P (sym e) (h x (inl refl))
from_map f (x ∷ xs) P h y (inr i) = from_map f xs P (λ z j. h z (inr j)) y i

-- functions that give the same for each member give the same list
pub map-same : {X Y : Type 0} (f g : X → Y) (xs : List X) → ((x : X) → x ∈ xs → f x ≡ g x) → map f xs ≡ map g xs
map-same f g [] same = refl
map-same f g (x ∷ xs) same = let e : f x ≡ g x = same x (inl refl) in let d : map f xs ≡ map g xs = map-same f g xs (λ y i. same y (inr i)) in cc

pub in_flat_map : {X Y : Type 0} (f : X → List Y) (xs : List X) (x : X) (y : Y) → x ∈ xs → y ∈ f x → y ∈ flat_map f xs
in_flat_map f [] x y i j = absurd i
in_flat_map f (z ∷ xs) x y (inl e) j = in_append_left (f z) (flat_map f xs) y (subst (λ w. y ∈ f w) e j)
in_flat_map f (z ∷ xs) x y (inr i) j = in_append_right (f z) (flat_map f xs) y (in_flat_map f xs x y i j)

pub from_filter : {X : Type 0} (p : X → Bool) (xs : List X) (x : X) → x ∈ filter p xs → (p x ≡ true) × (x ∈ xs)
from_filter p [] x i = absurd i
from_filter {X} p (y ∷ xs) x i = tested (p y) refl i (from_filter p xs x)
  where
    tested : (b : Bool) → p y ≡ b → x ∈ (if b then y ∷ filter p xs else filter p xs) → (x ∈ filter p xs → (p x ≡ true) × (x ∈ xs)) → (p x ≡ true) × (x ∈ (y ∷ xs))
    tested true e (inl d) behind = (ap p d ∙ e, inl d)
    tested true e (inr j) behind = let (a, b) = behind j in (a, inr b)
    tested false e j behind = let (a, b) = behind j in (a, inr b)

pub in_filter : {X : Type 0} (p : X → Bool) (xs : List X) (x : X) → p x ≡ true → x ∈ xs → x ∈ filter p xs
in_filter p [] x t i = absurd i
in_filter {X} p (y ∷ xs) x t i = tested (p y) refl i (in_filter p xs x t)
  where
    tested : (b : Bool) → p y ≡ b → x ∈ (y ∷ xs) → (x ∈ xs → x ∈ filter p xs) → x ∈ (if b then y ∷ filter p xs else filter p xs)
    tested true e (inl d) behind = inl d
    tested true e (inr j) behind = inr (behind j)
    tested false e (inl d) behind = absurd (let other : true ≡ false = sym t ∙ ap p d ∙ e in cc)
    tested false e (inr j) behind = behind j

-- what is at a place of a list is in it
pub in_at : {X : Type 0} (xs : List X) (k : ℕ) (x : X) → slice_get xs k ≡ Some x → x ∈ xs
in_at [] k x e = absurd cc
in_at (y ∷ xs) zero x e = let same : y ≡ x = cc in inl (sym same)
in_at (y ∷ xs) (suc k) x e = inr (in_at xs k x e)

pub in_get_or : {X : Type 0} (xs : List X) (k : ℕ) (d : X) → k < length xs → get_or xs k d ∈ xs
in_get_or [] k d l = absurd (omega arith)
in_get_or (x ∷ xs) zero d l = inl refl
in_get_or (x ∷ xs) (suc k) d l = inr (in_get_or xs k d (omega arith))

-- and so is what was read there
pub in_read : {X : Type 0} (xs : List X) (k : ℕ) (x : X) → k < length xs → x ≡ get_or xs k x → x ∈ xs
in_read xs k x l e = subst (λ y. y ∈ xs) (sym e) (in_get_or xs k x l)

-- what was read at a place stands there
pub at_place : {X : Type 0} (xs : List X) (k : ℕ) (x : X) → k < length xs → x ≡ get_or xs k x → slice_get xs k ≡ Some x
at_place xs k x l e = slice_get_read xs (length xs) k x refl l e

-- the numbers of a list's members, from n on
abbrev pub numbers_from : {X : Type 0} → ℕ → List X → List ℕ
numbers_from n [] = []
numbers_from n (x ∷ xs) = n ∷ numbers_from (suc n) xs

pub in_numbers : {X : Type 0} (n : ℕ) (xs : List X) (k : ℕ) → n ≤ k → k < n + length xs → k ∈ numbers_from n xs
in_numbers n [] k a b = absurd (omega arith)
in_numbers n (x ∷ xs) k a b = ⊎_elim (λ l. inr (in_numbers (suc n) xs k (omega arith) (omega arith))) (λ l. inl (omega arith)) (cases_lt n k)

-- the numbers up to m
abbrev pub up_to : ℕ → List ℕ
up_to zero = 0 ∷ []
up_to (suc m) = suc m ∷ up_to m

pub in_up_to : (m k : ℕ) → k ≤ m → k ∈ up_to m
in_up_to zero k h = inl (omega arith)
in_up_to (suc m) k h = ⊎_elim (λ l. inr (in_up_to m k (omega arith))) (λ l. inl (omega arith)) (cases_lt k (suc m))

-- all lists of so many of these numbers
abbrev pub sequences : ℕ → List ℕ → List (List ℕ)
sequences zero ns = [] ∷ []
sequences (suc k) ns = flat_map (λ n. map (λ ks. n ∷ ks) (sequences k ns)) ns

pub in_sequences : (ns ks : List ℕ) (n : ℕ) → length ks ≡ n → ((k : ℕ) → k ∈ ks → k ∈ ns) → ks ∈ sequences n ns
in_sequences ns [] zero e all = inl refl
in_sequences ns [] (suc n) e all = absurd (omega arith)
in_sequences ns (k ∷ ks) zero e all = absurd (omega arith)
in_sequences ns (k ∷ ks) (suc n) e all =
    in_flat_map (λ m. map (λ w. m ∷ w) (sequences n ns)) ns k (k ∷ ks) (all k (inl refl))
    (in_map (λ w. k ∷ w) (sequences n ns) ks (in_sequences ns ks n (omega arith) (λ j i. all j (inr i))))
