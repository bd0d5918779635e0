-- Numbers with a comma between two, one more at a time.
use Rattle.std.proofs.Common.{◌≡◌, ℕ, suc, ◌+◌, ◌-◌, ◌<◌, ◌≤◌, Bool, true, List, [], ◌∷◌, ◌++◌, length, map, take, get_or, sym, ◌∙◌, ap, append_assoc, append-nil, arith}
use Rattle.std.specs.Prelude.{flat_map, codes, decimal, nat_lt}
use Rattle.std.proofs.lemmas.Bool.Decides.{nat_tests}
use Rattle.std.proofs.lemmas.List.{take_more, length-take}
use Rattle.qs_firing.specs.Adding.{from_on}
use Rattle.qs_explain.specs.Texts.{numbers_text}
use Rattle.qs_explain.specs.working.Numbers.{next_number}
use Rattle.qs_explain.proofs.Ranges.{between-more}
use Rattle.qs_canon.proofs.Counting.{from_long}

rest-more : (ns : List ℕ) (n : ℕ) → flat_map (λ t. codes "," ++ t) (map decimal (ns ++ n ∷ [])) ≡ flat_map (λ t. codes "," ++ t) (map decimal ns) ++ (codes "," ++ decimal n)
rest-more [] n = append-nil (codes "," ++ decimal n)
rest-more (m ∷ ns) n =
    ap (λ xs. (codes "," ++ decimal m) ++ xs) (rest-more ns n)
    ∙ sym (append_assoc (codes "," ++ decimal m) (flat_map (λ t. codes "," ++ t) (map decimal ns)) (codes "," ++ decimal n))

pub some_before : (k : ℕ) → nat_lt 0 (suc k) ≡ true
some_before k = grind (arith, nat_tests)

pub numbers-more : (ns : List ℕ) (n : ℕ) (b : Bool) → b ≡ nat_lt 0 (length ns) → numbers_text (ns ++ n ∷ []) ≡ numbers_text ns ++ next_number b n
numbers-more [] n b e = append-nil (decimal n) ∙ ap (λ c. next_number c n) (sym e)
numbers-more (m ∷ ns) n b e =
    let same : next_number true n ≡ next_number b n = ap (λ c. next_number c n) (sym (e ∙ some_before (length ns))) in
    ap (λ xs. decimal m ++ xs) (rest-more ns n)
    ∙ (sym (append_assoc (decimal m) (flat_map (λ t. codes "," ++ t) (map decimal ns)) (codes "," ++ decimal n))
    ∙ ap (λ xs. (decimal m ++ flat_map (λ t. codes "," ++ t) (map decimal ns)) ++ xs) same)

-- the next number of a list, and of a range
pub numbers_on : (ns : List ℕ) (i n : ℕ) (b : Bool) (start before after : List ℕ) → i < length ns → n ≡ get_or ns i 0 → b ≡ nat_lt 0 i → before ≡ start ++ numbers_text (take i ns) → after ≡ before ++ next_number b n
    → after ≡ start ++ numbers_text (take (i + 1) ns)
numbers_on ns i n b start before after l is e old new =
    let all : take (i + 1) ns ≡ take i ns ++ n ∷ [] = take_more ns i 0 l ∙ ap (λ x. take i ns ++ x ∷ []) (sym is) in
    let many : length (take i ns) ≡ i = omega (arith, length-take i ns) in
    let f : b ≡ nat_lt 0 (length (take i ns)) = e ∙ ap (nat_lt 0) (sym many) in
    new ∙ ap (λ xs. xs ++ next_number b n) old ∙ append_assoc start (numbers_text (take i ns)) (next_number b n)
    ∙ ap (λ xs. start ++ xs) (sym (ap numbers_text all ∙ numbers-more (take i ns) n b f))

pub range_on : (a n : ℕ) (b : Bool) (start before after : List ℕ) → a ≤ n → b ≡ nat_lt a n → before ≡ start ++ numbers_text (from_on a (n - a)) → after ≡ before ++ next_number b n
    → after ≡ start ++ numbers_text (from_on a (n + 1 - a))
range_on a n b start before after l e old new =
    let f : b ≡ nat_lt 0 (length (from_on a (n - a))) = e ∙ above a n ∙ ap (nat_lt 0) (sym (from_long a (n - a))) in
    new ∙ ap (λ xs. xs ++ next_number b n) old ∙ append_assoc start (numbers_text (from_on a (n - a))) (next_number b n)
    ∙ ap (λ xs. start ++ xs) (sym (ap numbers_text (between-more a n l) ∙ numbers-more (from_on a (n - a)) n b f))
  where
    above : (c m : ℕ) → nat_lt c m ≡ nat_lt 0 (m - c)
    above c m = grind (arith, nat_tests)

-- what is made of the next number
flat-more : (f : ℕ → List ℕ) (ks : List ℕ) (k : ℕ) → flat_map f (ks ++ k ∷ []) ≡ flat_map f ks ++ f k
flat-more f [] k = append-nil (f k)
flat-more f (j ∷ ks) k = ap (λ xs. f j ++ xs) (flat-more f ks k) ∙ sym (append_assoc (f j) (flat_map f ks) (f k))

pub flat_on : (f : ℕ → List ℕ) (ks : List ℕ) (i : ℕ) (start before after text : List ℕ) → i < length ks → text ≡ f (get_or ks i 0) → before ≡ start ++ flat_map f (take i ks) → after ≡ before ++ text
    → after ≡ start ++ flat_map f (take (i + 1) ks)
flat_on f ks i start before after text l is old new =
    new ∙ ap (λ xs. xs ++ text) old ∙ append_assoc start (flat_map f (take i ks)) text
    ∙ ap (λ xs. start ++ xs) (ap (λ t. flat_map f (take i ks) ++ t) is ∙ sym (ap (flat_map f) (take_more ks i 0 l) ∙ flat-more f (take i ks) (get_or ks i 0)))
