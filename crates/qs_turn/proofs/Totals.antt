-- Totals over all views, and how often a number stands among the passes of a seat.
use Rattle.std.proofs.Common.{◌≡◌, ◌≢◌, ℕ, Bool, cond, zero, suc, ◌+◌, ◌<◌, ◌≤◌, List, [], ◌∷◌, ◌++◌, length, set, sym, refl, ap, subst, eq-eqb, ne_eqb, arith}
use mathlib.Core.Option.{some, some-injective, some-ne-none}
use mathlib.Core.Logic.{dite}
use native.Mathlib.Decide.{ℕ_discrete}
use lib.ListN.{get_elem?}
use Rattle.qs_turn.specs.declared.protocol.PassView.{PassView}
use Rattle.qs_turn.specs.working.Protocol.{total, count_number, one_if_same, new_views, without_first, only_first}

module _ {V : Type 0} (f : V → ℕ) where
  pub total_set : (l : List V) (i : ℕ) (v w : V) → get_elem? l i ≡ some v → total f (set l i w) + f v ≡ total f l + f w
  total_set [] i v w e = absurd (some-ne-none v (sym e))
  total_set (x ∷ xs) zero v w e = let same : f x ≡ f v = ap f (some-injective x v e) in omega arith
  total_set (x ∷ xs) (suc i) v w e = let more = total_set xs i v w e in omega arith

  pub total_snoc : (l : List V) (w : V) → total f (l ++ w ∷ []) ≡ total f l + f w
  total_snoc [] w = omega arith
  total_snoc (x ∷ xs) w = let more = total_snoc xs w in omega arith

  pub total_at : (l : List V) (i : ℕ) (v : V) → get_elem? l i ≡ some v → f v ≤ total f l
  total_at [] i v e = absurd (some-ne-none v (sym e))
  total_at (x ∷ xs) zero v e = let same : f x ≡ f v = ap f (some-injective x v e) in omega arith
  total_at (x ∷ xs) (suc i) v e = let more = total_at xs i v e in omega arith

  pub total_two : (l : List V) (i j : ℕ) (v w : V) → i ≢ j → get_elem? l i ≡ some v → get_elem? l j ≡ some w → f v + f w ≤ total f l
  total_two [] i j v w apart e d = absurd (some-ne-none v (sym e))
  total_two (x ∷ xs) zero zero v w apart e d = absurd (apart refl)
  total_two (x ∷ xs) zero (suc j) v w apart e d = let same : f x ≡ f v = ap f (some-injective x v e) in let more = total_at xs j w d in omega arith
  total_two (x ∷ xs) (suc i) zero v w apart e d = let same : f x ≡ f w = ap f (some-injective x w d) in let more = total_at xs i v e in omega arith
  total_two (x ∷ xs) (suc i) (suc j) v w apart e d = let more = total_two xs i j v w (λ q. apart (ap suc q)) e d in omega arith

pub total_le : {V : Type 0} (f g : V → ℕ) (l : List V) → ((i : ℕ) (v : V) → get_elem? l i ≡ some v → f v ≤ g v) → total f l ≤ total g l
total_le f g [] each = omega arith
total_le f g (x ∷ xs) each = let here = each 0 x refl in let more = total_le f g xs (λ i v e. each (suc i) v e) in omega arith

abbrev if_true : Bool → ℕ
if_true b = cond b 1 0

pub here_not : (n a : ℕ) → a ≢ n → one_if_same a n ≡ 0
here_not n a ne = ap if_true (ne_eqb a n ne)

pub here_is : (n a : ℕ) → a ≡ n → one_if_same a n ≡ 1
here_is n a e = ap if_true (eq-eqb a n e)

module _ {S E : Type 0} where
  pub counted_append : (n : ℕ) (xs ys : List (PassView S E)) → count_number n (xs ++ ys) ≡ count_number n xs + count_number n ys
  counted_append n [] ys = omega arith
  counted_append n (x ∷ xs) ys = let more = counted_append n xs ys in omega arith

  pub counted_parts : (n : ℕ) (ks : List (PassView S E)) → count_number n (without_first ks) + count_number n (only_first ks) ≡ count_number n ks
  counted_parts n [] = refl
  counted_parts n (k ∷ ks) = omega arith

  pub length_parts : (ks : List (PassView S E)) → length (without_first ks) + length (only_first ks) ≡ length ks
  length_parts [] = refl
  length_parts (k ∷ ks) = omega arith

  counted_later : (n m a c : ℕ) (o : S) (h : List E) → n < a → count_number n (new_views m o h a c) ≡ 0
  counted_later n m a zero o h l = refl
  counted_later n m a (suc c) o h l = λ i. here_not n a (λ e. omega arith) i + counted_later n m (suc a) c o h (omega arith) i

  pub counted_new : (n m a c : ℕ) (o : S) (h : List E) → count_number n (new_views m o h a c) ≤ 1
  counted_new n m a zero o h = omega arith
  counted_new n m a (suc c) o h = dite (ℕ_discrete a n)
      (λ e. let one : one_if_same a n + count_number n (new_views m o h (suc a) c) ≡ 1 = λ i. here_is n a e i + counted_later n m (suc a) c o h (omega arith) i in subst (λ (z : ℕ). z ≤ 1) (sym one) (omega arith))
      (λ ne. let more = counted_new n m (suc a) c o h in let same : one_if_same a n + count_number n (new_views m o h (suc a) c) ≡ 0 + count_number n (new_views m o h (suc a) c) = λ i. here_not n a ne i + count_number n (new_views m o h (suc a) c) in
      subst (λ (z : ℕ). z ≤ 1) (sym same) (omega arith))

  pub length_new : (m a c : ℕ) (o : S) (h : List E) → length (new_views m o h a c) ≡ c
  length_new m a zero o h = refl
  length_new m a (suc c) o h = let more = length_new m (suc a) c o h in omega arith

  -- a pass whose number stands nowhere among these
  pub not_among : (n : ℕ) (k : PassView S E) (ks : List (PassView S E)) → count_number n (k ∷ ks) ≡ 0 → (k.number ≢ n) × (count_number n ks ≡ 0)
  not_among n k ks none = dite (ℕ_discrete k.number n)
      (λ e. let one : one_if_same k.number n ≡ 1 = here_is n k.number e in absurd (omega arith))
      (λ ne. let zero_here : one_if_same k.number n ≡ 0 = here_not n k.number ne in (ne, omega arith))

  pub counted_itself : (k : PassView S E) → count_number k.number (k ∷ []) ≡ 1
  counted_itself k = λ i. here_is k.number k.number refl i + 0
