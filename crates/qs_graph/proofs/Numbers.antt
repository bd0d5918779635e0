-- Lists of numbers: whether and how often a number is in one, and how many different numbers fit below a bound.
use Rattle.std.proofs.Common.{◌≡◌, ◌≢◌, ◌⊎◌, ◌↔◌, ℕ, zero, suc, ◌+◌, ◌<◌, ◌≤◌, ◌==◌, Bool, true, false, cond, Option, Some, None, List, [], ◌∷◌, ◌++◌, length, take, get_or, set, replicate, refl, sym, ◌∙◌, ap, subst, inl, inr, ⊎_elim, arith, eqb-true, eq-eqb}
use Rattle.std.specs.Option.{IfSome, IfNone}
use Rattle.std.proofs.lemmas.Bool.{ne_eqb, false_from_ne_true}
use Rattle.std.proofs.lemmas.List.{take_more, get_or-set_same, get_or-set_other}
use Rattle.qs_tree.specs.Lists.{◌∈◌}
use Rattle.qs_tree.proofs.Decisions.{true_false, decide_number, decide_member}
use Rattle.qs_graph.specs.working.Orders.{one_if, times, has, AreApart, IsOutside, IsOnly}
use Rattle.qs_tree.proofs.Members.{from_append, in_append_left, in_append_right, in_get_or}

pub decide_in : (n : ℕ) (ns : List ℕ) → Dec (n ∈ ns)
decide_in n ns = decide_member decide_number n ns

-- the test of being in a list
pub has_in : (ns : List ℕ) (n : ℕ) → has ns n ≡ true → n ∈ ns
has_in [] n e = absurd cc
has_in (m ∷ ms) n e = by (m == n) refl e (has_in ms n)
  where
    by : (b : Bool) → (m == n) ≡ b → cond b true (has ms n) ≡ true → (has ms n ≡ true → n ∈ ms) → n ∈ (m ∷ ms)
    by true same _ _ = inl (sym (eqb-true m n same))
    by false _ h rest = inr (rest h)

pub in_has : (ns : List ℕ) (n : ℕ) → n ∈ ns → has ns n ≡ true
in_has [] n i = absurd i
in_has (m ∷ ms) n (inl e) = ap (λ b. cond b true (has ms n)) (eq-eqb m n (sym e))
in_has (m ∷ ms) n (inr i) = by (m == n) (in_has ms n i)
  where
    by : (b : Bool) → has ms n ≡ true → cond b true (has ms n) ≡ true
    by true h = refl
    by false h = h

pub not_in_has : (ns : List ℕ) (n : ℕ) → (n ∈ ns → ⊥) → has ns n ≡ false
not_in_has ns n h = false_from_ne_true (has ns n) (λ e. h (has_in ns n e))

pub has_not_in : (ns : List ℕ) (n : ℕ) → has ns n ≡ false → n ∈ ns → ⊥
has_not_in ns n e i = true_false e (in_has ns n i)

pub has-more : (ns : List ℕ) (x n : ℕ) → x ≢ n → has (ns ++ x ∷ []) n ≡ has ns n
has-more [] x n h = ap (λ b. cond b true false) (ne_eqb x n h)
has-more (m ∷ ms) x n h = ap (λ b. cond (m == n) true b) (has-more ms x n h)

-- how often a number is in a list
pub times-more : (n : ℕ) (ms : List ℕ) (m : ℕ) → times n (ms ++ m ∷ []) ≡ times n ms + one_if (m == n)
times-more n [] m = omega arith
times-more n (k ∷ ms) m = omega (arith, times-more n ms m)

pub times-append : (n : ℕ) (ms ks : List ℕ) → times n (ms ++ ks) ≡ times n ms + times n ks
times-append n [] ks = omega arith
times-append n (m ∷ ms) ks = omega (arith, times-append n ms ks)

pub one-same : (n m : ℕ) → n ≡ m → one_if (n == m) ≡ 1
one-same n m e = ap one_if (eq-eqb n m e)

pub one-other : (n m : ℕ) → n ≢ m → one_if (n == m) ≡ 0
one-other n m h = ap one_if (ne_eqb n m h)

one-le : (b : Bool) → one_if b ≤ 1
one-le true = omega arith
one-le false = omega arith

pub times-le : (n : ℕ) (ms : List ℕ) → times n ms ≤ length ms
times-le n [] = omega arith
times-le n (m ∷ ms) = omega (arith, times-le n ms, one-le (m == n))

pub times_in : (n : ℕ) (ms : List ℕ) → n ∈ ms → 1 ≤ times n ms
times_in n [] i = absurd i
times_in n (m ∷ ms) (inl e) = omega (arith, one-same m n (sym e))
times_in n (m ∷ ms) (inr i) = omega (arith, times_in n ms i)

pub times_not_in : (n : ℕ) (ms : List ℕ) → (n ∈ ms → ⊥) → times n ms ≡ 0
times_not_in n [] h = refl
times_not_in n (m ∷ ms) h = omega (arith, one-other m n (λ e. h (inl (sym e))), times_not_in n ms (λ i. h (inr i)))

pub in_times : (n : ℕ) (ms : List ℕ) → 1 ≤ times n ms → n ∈ ms
in_times n ms h = by (decide_in n ms)
  where
    by : Dec (n ∈ ms) → n ∈ ms
    by (yes i) = i
    by (no f) = absurd (omega (arith, times_not_in n ms f))

pub times-take : (n : ℕ) (ms : List ℕ) (i : ℕ) → i < length ms → times n (take i ms) + one_if (get_or ms i 0 == n) ≤ times n ms
times-take n [] i l = absurd (omega arith)
times-take n (m ∷ ms) zero l = omega arith
times-take n (m ∷ ms) (suc i) l = omega (arith, times-take n ms i (omega arith))

-- a list from which one place of a number is taken out
abbrev without : ℕ → List ℕ → List ℕ
without n [] = []
without n (m ∷ ms) = cond (m == n) ms (m ∷ without n ms)

length-without : (n : ℕ) (ms : List ℕ) → n ∈ ms → length ms ≡ suc (length (without n ms))
length-without n [] i = absurd i
length-without n (m ∷ ms) i = by (m == n) refl i (length-without n ms)
  where
    by : (b : Bool) → (m == n) ≡ b → n ∈ (m ∷ ms) → (n ∈ ms → length ms ≡ suc (length (without n ms))) → suc (length ms) ≡ suc (length (cond b ms (m ∷ without n ms)))
    by true e _ _ = refl
    by false e (inl s) _ = absurd (true_false e (eq-eqb m n (sym s)))
    by false e (inr j) rest = ap suc (rest j)

still_without : (n k : ℕ) (ms : List ℕ) → k ∈ ms → k ≢ n → k ∈ without n ms
still_without n k [] i h = i
still_without n k (m ∷ ms) i h = by (m == n) refl i (λ j. still_without n k ms j h)
  where
    by : (b : Bool) → (m == n) ≡ b → k ∈ (m ∷ ms) → (k ∈ ms → k ∈ without n ms) → k ∈ cond b ms (m ∷ without n ms)
    by true e (inl s) _ = absurd (h (s ∙ eqb-true m n e))
    by true e (inr j) _ = j
    by false e (inl s) _ = inl s
    by false e (inr j) rest = inr (rest j)

-- different members of a list are at most as many as the list is long
apart_length : (ns ms : List ℕ) → AreApart ns → ((n : ℕ) → n ∈ ns → n ∈ ms) → length ns ≤ length ms
apart_length [] ms a h = omega arith
apart_length (n ∷ ns) ms a h =
    omega (arith, length-without n ms (h n (inl refl)), apart_length ns (without n ms) a.1 (λ k i. still_without n k ms (h k (inr i)) (λ e. a.0 (subst (λ j. j ∈ ns) e i))))

-- the numbers from 1 to N
abbrev up_to : ℕ → List ℕ
up_to zero = []
up_to (suc N) = suc N ∷ up_to N

length-up_to : (N : ℕ) → length (up_to N) ≡ N
length-up_to zero = refl
length-up_to (suc N) = ap suc (length-up_to N)

in_up_to : (N n : ℕ) → 1 ≤ n → n ≤ N → n ∈ up_to N
in_up_to zero n l h = absurd (omega arith)
in_up_to (suc N) n l h = by (decide_number n (suc N)) (in_up_to N n l)
  where
    by : Dec (n ≡ suc N) → (n ≤ N → n ∈ up_to N) → n ∈ up_to (suc N)
    by (yes e) _ = inl e
    by (no f) rest = inr (rest (omega (arith, f)))

pub apart_fit : (N : ℕ) (ns : List ℕ) → AreApart ns → ((n : ℕ) → n ∈ ns → (1 ≤ n) × (n ≤ N)) → length ns ≤ N
apart_fit N ns a h = omega (arith, length-up_to N, apart_length ns (up_to N) a (λ n i. let r = h n i in in_up_to N n r.0 r.1))

-- N different numbers up to N are all of them
pub apart_full : (N : ℕ) (ns : List ℕ) → AreApart ns → ((n : ℕ) → n ∈ ns → (1 ≤ n) × (n ≤ N)) → length ns ≡ N → (n : ℕ) → 1 ≤ n → n ≤ N → n ∈ ns
apart_full N ns a h e n low high = by (decide_in n ns)
  where
    within : (m : ℕ) → m ∈ (n ∷ ns) → (1 ≤ m) × (m ≤ N)
    within m (inl s) = (omega arith, omega arith)
    within m (inr i) = h m i

    by : Dec (n ∈ ns) → n ∈ ns
    by (yes i) = i
    by (no f) = absurd (omega (arith, apart_fit N (n ∷ ns) (f, a) within))

-- fewer than N numbers miss one of those up to N
pub missing : (N : ℕ) (ns : List ℕ) → length ns < N → (n : ℕ) × (1 ≤ n) × (n ≤ N) × (n ∈ ns → ⊥)
missing zero ns l = absurd (omega arith)
missing (suc N) ns l = by (decide_in (suc N) ns) (missing N (without (suc N) ns))
  where
    by : Dec (suc N ∈ ns) → (length (without (suc N) ns) < N → (n : ℕ) × (1 ≤ n) × (n ≤ N) × (n ∈ without (suc N) ns → ⊥)) → (n : ℕ) × (1 ≤ n) × (n ≤ suc N) × (n ∈ ns → ⊥)
    by (no f) _ = (suc N, omega arith, omega arith, f)
    by (yes i) rest =
        let (n, low, high, out) = rest (omega (arith, length-without (suc N) ns i)) in
        (n, low, omega arith, λ j. out (still_without (suc N) n ns j (λ e. omega arith)))

pub apart_append : (ns ms : List ℕ) → AreApart ns → AreApart ms → ((n : ℕ) → n ∈ ns → n ∈ ms → ⊥) → AreApart (ns ++ ms)
apart_append [] ms a b h = b
apart_append (n ∷ ns) ms a b h = (
  λ i. ⊎_elim a.0 (h n (inl refl)) (from_append ns ms n i),
  apart_append ns ms a.1 b (λ m i. h m (inr i)),
)

pub in_take : (ms : List ℕ) (k m : ℕ) → m ∈ take k ms → m ∈ ms
in_take [] zero m j = j
in_take [] (suc k) m j = j
in_take (x ∷ ms) zero m j = absurd j
in_take (x ∷ ms) (suc k) m (inl e) = inl e
in_take (x ∷ ms) (suc k) m (inr j) = inr (in_take ms k m j)

pub apart_take : (ns : List ℕ) (i : ℕ) → AreApart ns → AreApart (take i ns)
apart_take [] zero a = tt
apart_take [] (suc i) a = tt
apart_take (n ∷ ns) zero a = tt
apart_take (n ∷ ns) (suc i) a = (λ j. a.0 (in_take ns i n j), apart_take ns i a.1)

-- what stands at a place doesn't stand before it
pub apart_at : (ns : List ℕ) (i : ℕ) → AreApart ns → i < length ns → get_or ns i 0 ∈ take i ns → ⊥
apart_at [] i a l j = absurd (omega arith)
apart_at (n ∷ ns) zero a l j = absurd j
apart_at (n ∷ ns) (suc i) a l (inl e) = a.0 (subst (λ m. m ∈ ns) e (in_get_or ns i 0 (omega arith)))
apart_at (n ∷ ns) (suc i) a l (inr j) = apart_at ns i a.1 (omega arith) j

-- how many members stand before the first n
abbrev pub before : ℕ → List ℕ → ℕ
before n [] = 0
before n (m ∷ ms) = cond (m == n) 0 (1 + before n ms)

pub before_in : (n : ℕ) (ms ks : List ℕ) → n ∈ ms → (before n (ms ++ ks) ≡ before n ms) × (before n ms < length ms)
before_in n [] ks i = absurd i
before_in n (m ∷ ms) ks i = by (m == n) refl i (before_in n ms ks)
  where
    by : (b : Bool) → (m == n) ≡ b → n ∈ (m ∷ ms) → (n ∈ ms → (before n (ms ++ ks) ≡ before n ms) × (before n ms < length ms))
        → (cond b 0 (1 + before n (ms ++ ks)) ≡ cond b 0 (1 + before n ms)) × (cond b 0 (1 + before n ms) < suc (length ms))
    by true e _ _ = (refl, omega arith)
    by false e (inl s) _ = absurd (true_false e (eq-eqb m n (sym s)))
    by false e (inr j) rest = let r = rest j in (omega (arith, r.0), omega (arith, r.1))

pub before_last : (n : ℕ) (ms : List ℕ) → (n ∈ ms → ⊥) → before n (ms ++ n ∷ []) ≡ length ms
before_last n [] h = ap (λ b. cond b 0 1) (eq-eqb n n refl)
before_last n (m ∷ ms) h =
    ap (λ b. cond b 0 (1 + before n (ms ++ n ∷ []))) (ne_eqb m n (λ e. h (inl (sym e)))) ∙ (let r = before_last n ms (λ i. h (inr i)) in omega (arith, r))

-- a count that is set
pub get_or-set : (ns : List ℕ) (i v n : ℕ) → i < length ns → ((n ≡ i) × (get_or (set ns i v) n 0 ≡ v)) ⊎ ((n ≢ i) × (get_or (set ns i v) n 0 ≡ get_or ns n 0))
get_or-set ns i v n l = by (decide_number n i)
  where
    by : Dec (n ≡ i) → ((n ≡ i) × (get_or (set ns i v) n 0 ≡ v)) ⊎ ((n ≢ i) × (get_or (set ns i v) n 0 ≡ get_or ns n 0))
    by (yes e) = inl (e, ap (λ k. get_or (set ns i v) k 0) e ∙ get_or-set_same ns i v 0 l)
    by (no f) = inr (f, get_or-set_other ns i n v 0 f)

pub within_count : (ns : List ℕ) (n : ℕ) → 1 ≤ get_or ns n 0 → n < length ns
within_count [] n h = absurd (omega arith)
within_count (m ∷ ns) zero h = omega arith
within_count (m ∷ ns) (suc n) h = omega (arith, within_count ns n h)

pub get_or-replicate : (k n : ℕ) → ◌≡◌ {A = ℕ} (get_or (replicate k 0) n 0) 0
get_or-replicate zero n = refl
get_or-replicate (suc k) zero = refl
get_or-replicate (suc k) (suc n) = get_or-replicate k n

-- counting one number more
pub count_one : (ms counts : List ℕ) (i v : ℕ) → i < length ms → get_or ms i 0 < length counts → v ≡ get_or counts (get_or ms i 0) 0 + 1
    → ((n : ℕ) → get_or counts n 0 ≡ times n (take i ms)) → (n : ℕ) → get_or (set counts (get_or ms i 0) v) n 0 ≡ times n (take (i + 1) ms)
count_one ms counts i v l w e h n =
    let more : times n (take (i + 1) ms) ≡ times n (take i ms) + one_if (get_or ms i 0 == n) = ap (times n) (take_more ms i 0 l) ∙ times-more n (take i ms) (get_or ms i 0) in
    ⊎_elim
    (λ p. omega (arith, more, one-same (get_or ms i 0) n (sym p.0), h (get_or ms i 0), ap (λ k. times k (take i ms)) p.0, p.1))
    (λ p. omega (arith, more, one-other (get_or ms i 0) n (λ s. p.0 (sym s)), h n, p.1))
    (get_or-set counts (get_or ms i 0) v n w)

-- the numbers from 1 up to i whose count is 0
abbrev pub AreZeros : List ℕ → List ℕ → ℕ → Type 0
AreZeros counts ns i = AreApart ns × ((n : ℕ) → n ∈ ns ↔ ((1 ≤ n) × (n < i) × (get_or counts n 0 ≡ 0)))

pub zeros_more : (counts ns new : List ℕ) (i : ℕ) → 1 ≤ i → get_or counts i 0 ≡ 0 → new ≡ ns ++ i ∷ [] → AreZeros counts ns i → AreZeros counts new (i + 1)
zeros_more counts ns new i l z e h = subst (λ ms. AreZeros counts ms (i + 1)) (sym e) (
  apart_append ns (i ∷ []) h.0 ((λ j. j), tt) (λ n j k. ⊎_elim (λ s. omega (arith, (h.1 n).0 j)) (λ none. none) k),
  λ n. (
    λ j. ⊎_elim (λ k. let r = (h.1 n).0 k in (r.0, omega (arith, r.1), r.2)) (λ k. ⊎_elim (λ s. (omega arith, omega arith, ap (λ m. get_or counts m 0) s ∙ z)) (λ none. absurd none) k) (from_append ns (i ∷ []) n j),
    λ r. by n r (decide_number n i),
  ),
)
  where
    by : (n : ℕ) → (1 ≤ n) × (n < i + 1) × (get_or counts n 0 ≡ 0) → Dec (n ≡ i) → n ∈ (ns ++ i ∷ [])
    by n r (yes s) = in_append_right ns (i ∷ []) n (inl s)
    by n r (no f) = in_append_left ns (i ∷ []) n ((h.1 n).1 (r.0, omega (arith, r.1), r.2))

pub zeros_same : (counts ns new : List ℕ) (i : ℕ) → get_or counts i 0 ≢ 0 → new ≡ ns → AreZeros counts ns i → AreZeros counts new (i + 1)
zeros_same counts ns new i z e h = subst (λ ms. AreZeros counts ms (i + 1)) (sym e) (
  h.0,
  λ n. (λ j. let r = (h.1 n).0 j in (r.0, omega (arith, r.1), r.2), λ r. by n r (decide_number n i)),
)
  where
    by : (n : ℕ) → (1 ≤ n) × (n < i + 1) × (get_or counts n 0 ≡ 0) → Dec (n ≡ i) → n ∈ ns
    by n r (yes s) = absurd (z (ap (λ m. get_or counts m 0) (sym s) ∙ r.2))
    by n r (no f) = (h.1 n).1 (r.0, omega (arith, r.1), r.2)

-- the zeros among the counts of a list are the numbers outside it
pub zeros_outside : (last : ℕ) (ends counts ns : List ℕ) → length counts ≡ last + 1 → ((n : ℕ) → get_or counts n 0 ≡ times n ends)
    → ((n : ℕ) → n ∈ ns ↔ ((1 ≤ n) × (n < length counts) × (get_or counts n 0 ≡ 0))) → (n : ℕ) → n ∈ ns ↔ IsOutside last ends n
zeros_outside last ends counts ns long c h n = (
  λ i. let r = (h n).0 i in record { low = r.0; high = omega (arith, r.1); out = λ j. omega (arith, c n, r.2, times_in n ends j) },
  λ o. (h n).1 (o.low, omega (arith, o.high), c n ∙ times_not_in n ends o.out),
)

-- a list of one number holds the only one, and another doesn't
pub only_some : (P : ℕ → Type 0) (ns : List ℕ) → ((n : ℕ) → n ∈ ns ↔ P n) → (n : ℕ) → ns ≡ n ∷ [] → IsOnly P (Some n)
only_some P ns h n e =
    ((h n).0 (subst (λ ms. n ∈ ms) (sym e) (inl refl)), λ m p. ⊎_elim (λ s. s) (λ none. absurd none) (subst (λ ms. m ∈ ms) e ((h m).1 p)))

pub only_none : (P : ℕ → Type 0) (ns : List ℕ) → AreApart ns → ((n : ℕ) → n ∈ ns ↔ P n) → length ns ≢ 1 → IsOnly P None
only_none P [] a h l one = (h one.one).1 one.holds
only_none P (n ∷ []) a h l one = l refl
only_none P (n ∷ m ∷ ns) a h l one =
    a.0 (inl (one.only n ((h n).0 (inl refl)) ∙ sym (one.only m ((h m).0 (inr (inl refl))))))

pub only_is : (P : ℕ → Type 0) (ns list : List ℕ) → list ≡ ns → AreApart ns → ((n : ℕ) → n ∈ ns ↔ P n) → (r : Option ℕ) → IfSome r (λ n. list ≡ n ∷ []) → IfNone r (length list ≢ 1) → IsOnly P r
only_is P ns list e a h (Some n) some none = only_some P ns h n (sym e ∙ some)
only_is P ns list e a h None some none = only_none P ns a h (λ l. none (ap length e ∙ l))
