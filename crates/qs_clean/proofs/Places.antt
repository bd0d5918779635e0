-- The places that are marked, and their numbers.
use Rattle.std.proofs.Common.{◌≡◌, ◌≢◌, ◌⊎◌, ◌↔◌, ℕ, zero, suc, ◌+◌, ◌<◌, ◌≤◌, ◌==◌, Bool, false, true, List, [], ◌∷◌, length, get_or, refl, sym, ◌∙◌, ap, subst, inl, inr, ⊎_elim, arith}
use Rattle.std.specs.Prelude.{if◌then◌else◌}
use Rattle.std.specs.Cmp.Derive.{both_true}
use Rattle.std.proofs.lemmas.Bool.{eqb-true, eq-eqb, ne_eqb, and_parts}
use Rattle.qs_tree.specs.Lists.{◌∈◌, Ascends}
use Rattle.qs_clean.specs.Marks.{IsMarked}
use Rattle.qs_clean.specs.working.Steps.{each_pair, both, marked, numbering}
use Rattle.qs_clean.specs.Cleaning.{number_in}

-- the marked places of a list, counted from i
abbrev pub places : ℕ → List Bool → List ℕ
places i [] = []
places i (true ∷ marks) = i ∷ places (i + 1) marks
places i (false ∷ marks) = places (i + 1) marks

places_above : (i : ℕ) (marks : List Bool) (n : ℕ) → n ∈ places i marks → i ≤ n
places_above i [] n j = absurd j
places_above i (true ∷ marks) n (inl e) = omega arith
places_above i (true ∷ marks) n (inr j) = omega (arith, places_above (i + 1) marks n j)
places_above i (false ∷ marks) n j = omega (arith, places_above (i + 1) marks n j)

pub places_ascend : (i : ℕ) (marks : List Bool) → Ascends ◌<◌ (places i marks)
places_ascend i [] = tt
places_ascend i (true ∷ marks) = ((λ n j. omega (arith, places_above (i + 1) marks n j)), places_ascend (i + 1) marks)
places_ascend i (false ∷ marks) = places_ascend (i + 1) marks

place_marked : (i : ℕ) (marks : List Bool) (n : ℕ) → n ∈ places i marks → (k : ℕ) × (n ≡ i + k) × IsMarked marks k
place_marked i [] n j = absurd j
place_marked i (true ∷ marks) n (inl e) = (0, omega arith, refl)
place_marked i (true ∷ marks) n (inr j) = let (k, e, m) = place_marked (i + 1) marks n j in (suc k, omega arith, m)
place_marked i (false ∷ marks) n j = let (k, e, m) = place_marked (i + 1) marks n j in (suc k, omega arith, m)

marked_place : (i : ℕ) (marks : List Bool) (k : ℕ) → IsMarked marks k → (i + k) ∈ places i marks
marked_place i [] k m = absurd cc
marked_place i (true ∷ marks) zero m = inl (omega arith)
marked_place i (true ∷ marks) (suc k) m = let e : (i + 1) + k ≡ i + suc k = omega arith in inr (subst (λ n. n ∈ places (i + 1) marks) e (marked_place (i + 1) marks k m))
marked_place i (false ∷ marks) zero m = absurd cc
marked_place i (false ∷ marks) (suc k) m = let e : (i + 1) + k ≡ i + suc k = omega arith in subst (λ n. n ∈ places (i + 1) marks) e (marked_place (i + 1) marks k m)

pub in_places : (marks : List Bool) (n : ℕ) → n ∈ places 0 marks ↔ IsMarked marks n
in_places marks n = (there, back)
  where
    there : n ∈ places 0 marks → IsMarked marks n
    there j = let (k, e, m) = place_marked 0 marks n j in let same : k ≡ n = omega arith in subst (IsMarked marks) same m

    back : IsMarked marks n → n ∈ places 0 marks
    back m = let e : 0 + n ≡ n = omega arith in subst (λ k. k ∈ places 0 marks) e (marked_place 0 marks n m)

pub length-places : (i : ℕ) (marks : List Bool) → length (places i marks) ≡ marked marks
length-places i [] = refl
length-places i (true ∷ marks) = omega (arith, length-places (i + 1) marks)
length-places i (false ∷ marks) = length-places (i + 1) marks

pub marked_le : (marks : List Bool) → marked marks ≤ length marks
marked_le [] = omega arith
marked_le (true ∷ marks) = omega (arith, marked_le marks)
marked_le (false ∷ marks) = omega (arith, marked_le marks)

pub marked_lt : (marks : List Bool) (k : ℕ) → k < length marks → get_or marks k false ≡ false → marked marks < length marks
marked_lt [] k l e = absurd (omega arith)
marked_lt (true ∷ marks) zero l e = absurd cc
marked_lt (false ∷ marks) zero l e = omega (arith, marked_le marks)
marked_lt (true ∷ marks) (suc k) l e = omega (arith, marked_lt marks k (omega arith) e)
marked_lt (false ∷ marks) (suc k) l e = omega (arith, marked_le marks)

pub length-numbering : (c : ℕ) (marks : List Bool) → length (numbering c marks) ≡ length marks
length-numbering c [] = refl
length-numbering c (true ∷ marks) = ap suc (length-numbering (c + 1) marks)
length-numbering c (false ∷ marks) = ap suc (length-numbering c marks)

number_here : (i n m : ℕ) (ms : List ℕ) → m ≡ n → number_in i (m ∷ ms) n ≡ i
number_here i n m ms e = ap (λ b. if b then i else number_in (i + 1) ms n) (eq-eqb m n e)

number_behind : (i n m : ℕ) (ms : List ℕ) → m ≢ n → number_in i (m ∷ ms) n ≡ number_in (i + 1) ms n
number_behind i n m ms ne = ap (λ b. if b then i else number_in (i + 1) ms n) (ne_eqb m n ne)

-- the number of a marked place is its place among the marked ones
numbering_from : (i c : ℕ) (marks : List Bool) (k : ℕ) → IsMarked marks k → get_or (numbering c marks) k 0 ≡ number_in (c + 1) (places i marks) (i + k)
numbering_from i c [] k m = absurd cc
numbering_from i c (true ∷ marks) zero m = sym (number_here (c + 1) (i + 0) i (places (i + 1) marks) (omega arith))
numbering_from i c (true ∷ marks) (suc k) m =
    let e : (i + 1) + k ≡ i + suc k = omega arith in
    numbering_from (i + 1) (c + 1) marks k m ∙ ap (number_in (c + 1 + 1) (places (i + 1) marks)) e ∙ sym (number_behind (c + 1) (i + suc k) i (places (i + 1) marks) (λ f. omega arith))
numbering_from i c (false ∷ marks) zero m = absurd cc
numbering_from i c (false ∷ marks) (suc k) m =
    let e : (i + 1) + k ≡ i + suc k = omega arith in
    numbering_from (i + 1) c marks k m ∙ ap (number_in (c + 1) (places (i + 1) marks)) e

pub numbering-number_in : (marks : List Bool) (n : ℕ) → IsMarked marks n → get_or (numbering 0 marks) n 0 ≡ number_in 1 (places 0 marks) n
numbering-number_in marks n m =
    let e : 0 + n ≡ n = omega arith in
    numbering_from 0 0 marks n m ∙ ap (number_in 1 (places 0 marks)) e

-- whether the first member is the one that is looked for
module _ (m : ℕ) (ms : List ℕ) where
  first_cases : (n : ℕ) → n ∈ (m ∷ ms) → (m ≡ n) ⊎ ((m ≢ n) × (n ∈ ms))
  first_cases n j = tested (m == n) refl j
    where
      tested : (b : Bool) → (m == n) ≡ b → n ∈ (m ∷ ms) → (m ≡ n) ⊎ ((m ≢ n) × (n ∈ ms))
      tested true e _ = inl (eqb-true m n e)
      tested false e (inl s) = inl (sym s)
      tested false e (inr k) = inr ((λ s. let f : true ≡ false = sym (eq-eqb m n s) ∙ e in cc), k)

-- numbers are in range, of one place each, and all of them are taken
pub number_range : (i : ℕ) (ms : List ℕ) (n : ℕ) → n ∈ ms → (i ≤ number_in i ms n) × (number_in i ms n < i + length ms)
number_range i [] n j = absurd j
number_range i (m ∷ ms) n j = ⊎_elim
    (λ e. let h = number_here i n m ms e in (omega arith, omega arith))
    (λ p. let h = number_behind i n m ms p.0 in let r = number_range (i + 1) ms n p.1 in (omega arith, omega arith))
    (first_cases m ms n j)

pub number_one : (i : ℕ) (ms : List ℕ) (n k : ℕ) → n ∈ ms → k ∈ ms → number_in i ms n ≡ number_in i ms k → n ≡ k
number_one i [] n k jn jk e = absurd jn
number_one i (m ∷ ms) n k jn jk e = ⊎_elim
    (λ sn. ⊎_elim
    (λ sk. sym sn ∙ sk)
    (λ pk. let hn = number_here i n m ms sn in let hk = number_behind i k m ms pk.0 in let r = number_range (i + 1) ms k pk.1 in absurd (omega arith))
    (first_cases m ms k jk))
    (λ pn. ⊎_elim
    (λ sk. let hn = number_behind i n m ms pn.0 in let hk = number_here i k m ms sk in let r = number_range (i + 1) ms n pn.1 in absurd (omega arith))
    (λ pk. number_one (i + 1) ms n k pn.1 pk.1 (sym (number_behind i n m ms pn.0) ∙ e ∙ number_behind i k m ms pk.0))
    (first_cases m ms k jk))
    (first_cases m ms n jn)

pub number_all : (i : ℕ) (ms : List ℕ) → Ascends ◌<◌ ms → (j : ℕ) → i ≤ j → j < i + length ms → (n : ℕ) × (n ∈ ms) × (number_in i ms n ≡ j)
number_all i [] a j low high = absurd (omega arith)
number_all i (m ∷ ms) a j low high = tested (i == j) refl (λ l. number_all (i + 1) ms a.1 j l (omega arith))
  where
    tested : (b : Bool) → (i == j) ≡ b → (i + 1 ≤ j → (n : ℕ) × (n ∈ ms) × (number_in (i + 1) ms n ≡ j)) → (n : ℕ) × (n ∈ (m ∷ ms)) × (number_in i (m ∷ ms) n ≡ j)
    tested true e rest = (m, inl refl, number_here i m m ms refl ∙ eqb-true i j e)
    tested false e rest =
        let ne : i ≢ j = λ s. (let f : true ≡ false = sym (eq-eqb i j s) ∙ e in cc) in
        let (n, k, f) = rest (omega arith) in
        let above : m < n = a.0 n k in
        (n, inr k, number_behind i n m ms (λ s. omega arith) ∙ f)

-- marks that stand in both lists
pub in_both_from : (first second : List Bool) (n : ℕ) → IsMarked (each_pair both first second) n → IsMarked first n × IsMarked second n
in_both_from [] second n m = absurd cc
in_both_from (a ∷ first) [] n m = absurd cc
in_both_from (a ∷ first) (b ∷ second) zero m = and_parts a b m
in_both_from (a ∷ first) (b ∷ second) (suc n) m = in_both_from first second n m

pub in_both_to : (first second : List Bool) (n : ℕ) → IsMarked first n → IsMarked second n → IsMarked (each_pair both first second) n
in_both_to [] second n p q = absurd cc
in_both_to (a ∷ first) [] n p q = absurd cc
in_both_to (a ∷ first) (b ∷ second) zero p q = both_true p q
in_both_to (a ∷ first) (b ∷ second) (suc n) p q = in_both_to first second n p q

pub length-both : (first second : List Bool) → length second ≡ length first → length (each_pair both first second) ≡ length first
length-both [] second e = refl
length-both (a ∷ first) [] e = absurd (omega arith)
length-both (a ∷ first) (b ∷ second) e = ap suc (length-both first second (omega arith))
