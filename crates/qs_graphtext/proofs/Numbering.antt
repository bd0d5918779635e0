-- New numbers of nodes, from the ascending list of the written ones.
use Rattle.std.proofs.Common.{◌≡◌, ◌≢◌, ◌↔◌, ℕ, zero, suc, ◌<◌, ◌≤◌, Bool, true, false, ◌&&◌, cond, List, [], ◌∷◌, length, get_or, refl, sym, ◌∙◌, ap, subst, arith}
use Rattle.std.specs.Prelude.{nat_le, nat_eq, Contains}
use Rattle.std.specs.List.{filter, AllWithin, IsDistinct}
use Rattle.std.specs.List.Sorted.{IsStrictlyIncreasing, IsNonDecreasing, IsPartitionPoint}
use Rattle.std.specs.Set.{is_member, unique_keys}
use Rattle.std.specs.Cmp.{unsigned_Decides}
use Rattle.std.proofs.lemmas.Cmp.{nat_eq_equiv}
use Rattle.std.proofs.lemmas.Bool.Decides.{nat_tests, same_from_decides}
use Rattle.std.proofs.lemmas.List.Kept.{AllPairs-from_increasing, IsStrictlyIncreasing-filter}
use Rattle.std.proofs.lemmas.Map.Made.{IsDistinct-from_AllPairs, is_member-filter, is_member-Decides, length-from_keys}
use Rattle.std.proofs.Math.Bool.{and-true}
use Rattle.qs_graphtext.specs.GraphOfChains.{different, dense}

distinct : (nodes : List ℕ) → IsStrictlyIncreasing nodes → IsDistinct nat_eq nodes
distinct nodes rises = IsDistinct-from_AllPairs unsigned_Decides nodes (λ i j d l h e. (let r = AllPairs-from_increasing nodes rises i j d l h in omega arith))

pub non_decreasing : (nodes : List ℕ) → IsStrictlyIncreasing nodes → IsNonDecreasing nodes
non_decreasing nodes rises i j d l h = by (nat_eq i j) refl
  where
    by : (b : Bool) → nat_eq i j ≡ b → get_or nodes i d ≤ get_or nodes j d
    by true e = let s : i ≡ j = (unsigned_Decides i j).0 e in omega (arith, ap (λ k. get_or nodes k d) s)
    by false e = let s : i ≢ j = (λ f. (let g : true ≡ false = sym ((unsigned_Decides i j).1 f) ∙ e in cc)) in omega (arith, AllPairs-from_increasing nodes rises i j d (omega (arith, s)) h)

same_members : (written nodes : List ℕ) → ((n : ℕ) → Contains nodes n ↔ Contains written n) → (q : ℕ) → is_member nat_eq nodes q ≡ is_member nat_eq written q
same_members written nodes same q =
    let d = is_member-Decides unsigned_Decides nodes q in
    let e = is_member-Decides unsigned_Decides written q in
    same_from_decides (is_member nat_eq nodes q) (is_member nat_eq written q) ((λ t. (same q).0 (d.0 t)), (λ c. d.1 ((same q).1 c))) e

-- all written numbers
pub all_different : (written nodes : List ℕ) → IsStrictlyIncreasing nodes → ((n : ℕ) → Contains nodes n ↔ Contains written n) → length nodes ≡ different written
all_different written nodes rises same = length-from_keys nat_eq_equiv nodes written (distinct nodes rises) (same_members written nodes same)

-- those that are at most n
pub dense_is : (written nodes : List ℕ) → IsStrictlyIncreasing nodes → ((n : ℕ) → Contains nodes n ↔ Contains written n) → (n : ℕ) → length (filter (λ m. nat_le m n) nodes) ≡ dense written n
dense_is written nodes rises same n =
    length-from_keys nat_eq_equiv (filter (λ m. nat_le m n) nodes) (filter (λ m. nat_le m n) written)
    (distinct (filter (λ m. nat_le m n) nodes) (IsStrictlyIncreasing-filter (λ m. nat_le m n) nodes rises))
    (λ q. is_member-filter nat_eq_equiv (λ m. nat_le m n) q (λ x e. ap (λ m. nat_le m n) ((unsigned_Decides q x).0 e)) nodes
    ∙ ap (λ b. b && nat_le q n) (same_members written nodes same q)
    ∙ sym (is_member-filter nat_eq_equiv (λ m. nat_le m n) q (λ x e. ap (λ m. nat_le m n) ((unsigned_Decides q x).0 e)) written))

none_passes : (p : ℕ → Bool) (xs : List ℕ) → AllWithin (λ y. p y ≡ false) xs 0 (length xs) → length (filter p xs) ≡ 0
none_passes p [] h = refl
none_passes p (x ∷ xs) h =
    let first : p x ≡ false = h 0 x (omega arith) (omega arith) in
    ap (λ b. length (cond b (x ∷ filter p xs) (filter p xs))) first ∙ none_passes p xs (λ k d l m. h (suc k) d (omega arith) (omega arith))

-- as many pass a test as stand before the point from which on none passes it
pub count_from_point : (p : ℕ → Bool) (xs : List ℕ) (i : ℕ) → i ≤ length xs → IsPartitionPoint (λ y. p y ≡ true) (λ y. p y ≡ false) xs i → i ≡ length (filter p xs)
count_from_point p xs zero l h = sym (none_passes p xs h.1)
count_from_point p [] (suc i) l h = absurd (omega arith)
count_from_point p (x ∷ xs) (suc i) l h =
    let first : p x ≡ true = h.0 0 x (omega arith) (omega arith) in
    let rest : i ≡ length (filter p xs) = count_from_point p xs i (omega arith) (
      λ k d m n. h.0 (suc k) d (omega arith) (omega arith),
      λ k d m n. h.1 (suc k) d (omega arith) (omega arith),
    ) in
    ap suc rest ∙ sym (ap (λ b. length (cond b (x ∷ filter p xs) (filter p xs))) first)

at_most : (m n : ℕ) → m ≡ n → nat_le m n ≡ true
at_most m n e = grind (arith, nat_tests)

filter-le : (p : ℕ → Bool) (xs : List ℕ) → length (filter p xs) ≤ length xs
filter-le p [] = omega arith
filter-le p (x ∷ xs) = by (p x) (filter-le p xs)
  where
    by : (b : Bool) → length (filter p xs) ≤ length xs → length (cond b (x ∷ filter p xs) (filter p xs)) ≤ suc (length xs)
    by true h = omega (arith, h)
    by false h = omega (arith, h)

some_passes : (p : ℕ → Bool) (xs : List ℕ) (n k : ℕ) → p n ≡ true → k < length xs → get_or xs k n ≡ n → 1 ≤ length (filter p xs)
some_passes p [] n k t l e = absurd (omega arith)
some_passes p (x ∷ xs) n zero t l e =
    let first : p x ≡ true = ap p e ∙ t in
    let is : length (cond (p x) (x ∷ filter p xs) (filter p xs)) ≡ suc (length (filter p xs)) = ap (λ b. length (cond b (x ∷ filter p xs) (filter p xs))) first in
    omega (arith, is)
some_passes p (x ∷ xs) n (suc k) t l e = by (p x) (some_passes p xs n k t (omega arith) e)
  where
    by : (b : Bool) → 1 ≤ length (filter p xs) → 1 ≤ length (cond b (x ∷ filter p xs) (filter p xs))
    by true h = omega arith
    by false h = h

-- a number that is written has a new one
pub dense_within : (nodes : List ℕ) (n : ℕ) → Contains nodes n → (1 ≤ length (filter (λ m. nat_le m n) nodes)) × (length (filter (λ m. nat_le m n) nodes) ≤ length nodes)
dense_within nodes n c =
    (some_passes (λ m. nat_le m n) nodes n c.0 (at_most n n refl) c.1 c.2, filter-le (λ m. nat_le m n) nodes)

-- of the written numbers, those that pass a test have no more that differ
fewer_different : (p : ℕ → Bool) (xs : List ℕ) → different (filter p xs) ≤ different xs
fewer_different p [] = omega arith
fewer_different p (x ∷ xs) = by (p x) refl (fewer_different p xs)
  where
    same : (q y : ℕ) → nat_eq q y ≡ true → p q ≡ p y
    same q y e = ap p ((unsigned_Decides q y).0 e)

    -- how many differ, by whether x is among the others
    many : Bool → List ℕ → ℕ
    many b us = length (cond b (unique_keys nat_eq us) (x ∷ unique_keys nat_eq us))

    one_more : (b : Bool) (us vs : List ℕ) → different us ≤ different vs → many b us ≤ many b vs
    one_more true us vs h = h
    one_more false us vs h = omega (arith, h)

    others : (b : Bool) (us vs : List ℕ) → different us ≤ different vs → different us ≤ many b vs
    others true us vs h = h
    others false us vs h = omega (arith, h)

    by : (b : Bool) → p x ≡ b → different (filter p xs) ≤ different xs → different (cond b (x ∷ filter p xs) (filter p xs)) ≤ different (x ∷ xs)
    by false e h = others (is_member nat_eq xs x) (filter p xs) xs h
    by true e h =
        let known : is_member nat_eq (filter p xs) x ≡ is_member nat_eq xs x =
        is_member-filter nat_eq_equiv p x (λ y d. same x y d) xs ∙ ap (λ b. is_member nat_eq xs x && b) e ∙ and-true (is_member nat_eq xs x)
        in
        subst (λ b. many b (filter p xs) ≤ different (x ∷ xs)) (sym known) (one_more (is_member nat_eq xs x) (filter p xs) xs h)

some_different : (xs : List ℕ) → 1 ≤ length xs → 1 ≤ different xs
some_different [] l = absurd (omega arith)
some_different (x ∷ []) l = omega arith
some_different (x ∷ y ∷ xs) l = by (is_member nat_eq (y ∷ xs) x) refl (some_different (y ∷ xs) (omega arith))
  where
    by : (b : Bool) → is_member nat_eq (y ∷ xs) x ≡ b → 1 ≤ different (y ∷ xs) → 1 ≤ different (x ∷ y ∷ xs)
    by true e h = rw e h
    by false e h = rw e (omega arith)

pub dense_in : (written : List ℕ) (n : ℕ) → Contains written n → (1 ≤ dense written n) × (dense written n ≤ different written)
dense_in written n c = (
  some_different (filter (λ m. nat_le m n) written) (some_passes (λ m. nat_le m n) written n c.0 (at_most n n refl) c.1 c.2),
  fewer_different (λ m. nat_le m n) written,
)
