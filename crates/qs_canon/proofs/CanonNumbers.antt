-- Tables of numbers as lists, and lists of the firings that use an arc.
use Rattle.std.proofs.Common.{◌≡◌, ℕ, zero, suc, ◌+◌, ◌<◌, ◌≤◌, ◌⊎◌, inl, inr, Bool, true, false, List, [], ◌∷◌, ◌++◌, length, get_or, set, take, drop, map, replicate, refl, sym, ap, ◌∙◌, subst, arith, eq-eqb, get_or-set_same, get_or-set_other, Global, Option, Some, None}
use Rattle.std.specs.Prelude.{if◌then◌else◌, ltb, ◌==◌, IsSome}
use Rattle.std.proofs.lemmas.Bool.{cases_eq, cases_lt, ne_eqb, lt-ltb, le-ltb}
use Rattle.std.proofs.lemmas.List.{take_more}
use Rattle.std.specs.declared.vec.Vec.{Vec}
use Rattle.qs_core.specs.Core.{Fired}
use Rattle.qs_graph.specs.working.Orders.{times}
use Rattle.qs_canon.specs.working.CanonCounts.{paths_of, path_at, users_at, AreUsers}
use Rattle.qs_canon.specs.working.CanonTables.{Table, AreNumbered}
use Rattle.std.specs.Ordering.{is_lt}
use Rattle.std.specs.List.Sorted.{IsSortedBy}
use Rattle.std.proofs.lemmas.List.MinMax.{ranks_by}
use Rattle.std.proofs.lemmas.List.Sorted.{sorted_far}
use Rattle.std.proofs.lemmas.Option.{slice_get_within, get_or_from_slice_get}
use Rattle.qs_graph.proofs.Paths.{place_of}
use Rattle.qs_firing.specs.Firings.{order}
use Rattle.qs_firing.proofs.Orders.{order_total}
use Rattle.qs_canon.specs.declared.numbers.Next.{Next}
use Rattle.qs_canon.specs.working.CanonNumbers.{table_of, AllAre, IsEntered, IsInNumbers, AreInNumbers, NeverFalls}
use Rattle.qs_graph.proofs.Numbers.{times-append}
use Rattle.qs_canon.proofs.CanonCounts.{hit, miss}

-- ---- paths of firings

paths-push : (ds : List Fired) (d : Fired) → paths_of (ds ++ d ∷ []) ≡ paths_of ds ++ d.firing.path ∷ []
paths-push [] d = refl
paths-push (x ∷ ds) d = ap (λ ps. x.firing.path ∷ ps) (paths-push ds d)

lengths-push : (ps : List (List ℕ)) (p : List ℕ) → map (λ (path : List ℕ). length path) (ps ++ p ∷ []) ≡ map (λ (path : List ℕ). length path) ps ++ length p ∷ []
lengths-push [] p = refl
lengths-push (x ∷ ps) p = ap (λ ns. length x ∷ ns) (lengths-push ps p)

-- one firing more
module _ (fired : List Fired) (i : ℕ) (d : Fired) (h : i < length fired) (at : d ≡ get_or fired i d) where
  one_more : paths_of (take (i + 1) fired) ≡ paths_of (take i fired) ++ d.firing.path ∷ []
  one_more =
      ap paths_of (take_more fired i d h) ∙ paths-push (take i fired) (get_or fired i d)
      ∙ ap (λ (x : Fired). paths_of (take i fired) ++ x.firing.path ∷ []) (sym at)

  pub lengths_more : map (λ (path : List ℕ). length path) (paths_of (take i fired)) ++ length d.firing.path ∷ [] ≡ map (λ (path : List ℕ). length path) (paths_of (take (i + 1) fired))
  lengths_more = sym (ap (map (λ (path : List ℕ). length path)) one_more ∙ lengths-push (paths_of (take i fired)) d.firing.path)

-- ---- lists of the firings that use an arc

pub if_eq : (a b n : ℕ) → a ≡ b → (if a == b then n else 0) ≡ n
if_eq a b n e = ap (λ t. if t then n else 0) (eq-eqb a b e)

pub if_ne : (a b n : ℕ) → (a ≡ b → ⊥) → (if a == b then n else 0) ≡ 0
if_ne a b n e = ap (λ t. if t then n else 0) (ne_eqb a b e)

users_set_same : (xs : List (Vec ℕ Global)) (k : ℕ) (w : Vec ℕ Global) → k < length xs → users_at (set xs k w) k ≡ w.items
users_set_same [] k w h = absurd (omega arith)
users_set_same (x ∷ xs) zero w h = refl
users_set_same (x ∷ xs) (suc k) w h = users_set_same xs k w (omega arith)

users_set_other : (xs : List (Vec ℕ Global)) (j k : ℕ) (w : Vec ℕ Global) → (j ≡ k → ⊥) → users_at (set xs j w) k ≡ users_at xs k
users_set_other [] j k w n = refl
users_set_other (x ∷ xs) zero zero w n = absurd (n refl)
users_set_other (x ∷ xs) zero (suc k) w n = refl
users_set_other (x ∷ xs) (suc j) zero w n = refl
users_set_other (x ∷ xs) (suc j) (suc k) w n = users_set_other xs j k w (λ e. n (ap suc e))

users_read : (xs : List (Vec ℕ Global)) (k : ℕ) (v : Vec ℕ Global) → k < length xs → v ≡ get_or xs k v → users_at xs k ≡ v.items
users_read [] k v h e = absurd (omega arith)
users_read (x ∷ xs) zero v h e = ap (λ (u : Vec ℕ Global). u.items) (sym e)
users_read (x ∷ xs) (suc k) v h e = users_read xs k v (omega arith) e

-- the number is entered at one more place
pub entered_more : (n : ℕ) (places : List ℕ) (i : ℕ) (old new : List (Vec ℕ Global)) (v w : Vec ℕ Global) → i < length places → get_or places i 0 < length new → v ≡ get_or new (get_or places i 0) v → w.items ≡ v.items ++ n ∷ []
    → IsEntered n (take i places) old new → IsEntered n (take (i + 1) places) old (set new (get_or places i 0) w)
entered_more n places i old new v w h within at is e = λ k j. there k j (cases_eq (get_or places i 0) k) (cases_eq n j)
  where
    more : (k : ℕ) → times k (take (i + 1) places) ≡ times k (take i places) + times k (get_or places i 0 ∷ [])
    more k = ap (λ xs. times k xs) (take_more places i 0 h) ∙ times-append k (take i places) (get_or places i 0 ∷ [])

    there : (k j : ℕ) → (get_or places i 0 ≡ k) ⊎ (get_or places i 0 ≡ k → ⊥) → (n ≡ j) ⊎ (n ≡ j → ⊥)
        → times j (users_at (set new (get_or places i 0) w) k) ≡ times j (users_at old k) + (if n == j then times k (take (i + 1) places) else 0)
    there k j (inl p) (inl q) =
        let now = ap (λ xs. times j xs) (subst (λ x. users_at (set new (get_or places i 0) w) x ≡ w.items) p (users_set_same new (get_or places i 0) w within) ∙ is) ∙ times-append j v.items (n ∷ []) in
        let was = ap (λ xs. times j xs) (subst (λ x. users_at new x ≡ v.items) p (users_read new (get_or places i 0) v within at)) in
        let before = e k j in
        let a = if_eq n j (times k (take i places)) q in
        let b = if_eq n j (times k (take (i + 1) places)) q in
        let one = hit n j q in
        let m = more k in
        let hits = hit (get_or places i 0) k p in
        omega (arith, now, was, before, a, b, one, m, hits)
    there k j (inl p) (inr q) =
        let now = ap (λ xs. times j xs) (subst (λ x. users_at (set new (get_or places i 0) w) x ≡ w.items) p (users_set_same new (get_or places i 0) w within) ∙ is) ∙ times-append j v.items (n ∷ []) in
        let was = ap (λ xs. times j xs) (subst (λ x. users_at new x ≡ v.items) p (users_read new (get_or places i 0) v within at)) in
        let before = e k j in
        let a = if_ne n j (times k (take i places)) q in
        let b = if_ne n j (times k (take (i + 1) places)) q in
        let none = miss n j q in
        omega (arith, now, was, before, a, b, none)
    there k j (inr p) (inl q) =
        let now = ap (λ xs. times j xs) (users_set_other new (get_or places i 0) k w p) in
        let before = e k j in
        let a = if_eq n j (times k (take i places)) q in
        let b = if_eq n j (times k (take (i + 1) places)) q in
        let m = more k in
        let none = miss (get_or places i 0) k p in
        omega (arith, now, before, a, b, m, none)
    there k j (inr p) (inr q) =
        let now = ap (λ xs. times j xs) (users_set_other new (get_or places i 0) k w p) in
        let before = e k j in
        let a = if_ne n j (times k (take i places)) q in
        let b = if_ne n j (times k (take (i + 1) places)) q in
        omega (arith, now, before, a, b)

pub empty_more : (lists : List (Vec ℕ Global)) (v : Vec ℕ Global) → v.items ≡ [] → ((k : ℕ) → users_at lists k ≡ []) → (k : ℕ) → users_at (lists ++ v ∷ []) k ≡ []
empty_more [] v e a zero = e
empty_more [] v e a (suc k) = refl
empty_more (x ∷ lists) v e a zero = a zero
empty_more (x ∷ lists) v e a (suc k) = empty_more lists v e (λ j. a (suc j)) k

pub no_users : (lists : List (Vec ℕ Global)) → ((k : ℕ) → users_at lists k ≡ []) → AreUsers [] lists
no_users lists a = λ k i. ap (λ xs. times i xs) (a k)

length-paths : (ds : List Fired) (n : ℕ) → n ≤ length ds → length (paths_of (take n ds)) ≡ n
length-paths ds zero h = refl
length-paths [] (suc n) h = absurd (omega arith)
length-paths (d ∷ ds) (suc n) h = let e = length-paths ds n (omega arith) in omega (arith, e)

path-push : (ps : List (List ℕ)) (p : List ℕ) (i k : ℕ) → times k (path_at (ps ++ p ∷ []) i) ≡ times k (path_at ps i) + (if length ps == i then times k p else 0)
path-push [] p zero k = let a = if_eq 0 0 (times k p) refl in omega (arith, a)
path-push [] p (suc i) k = let a = if_ne 0 (suc i) (times k p) (λ e. omega (arith, e)) in omega (arith, a)
path-push (x ∷ ps) p zero k = let a = if_ne (suc (length ps)) 0 (times k p) (λ e. omega (arith, e)) in omega (arith, a)
path-push (x ∷ ps) p (suc i) k = cases (path-push ps p i k) (cases_eq (length ps) i)
  where
    cases : times k (path_at (ps ++ p ∷ []) i) ≡ times k (path_at ps i) + (if length ps == i then times k p else 0) → (length ps ≡ i) ⊎ (length ps ≡ i → ⊥) → times k (path_at (ps ++ p ∷ []) i) ≡ times k (path_at ps i) + (if suc (length ps) == suc i then times k p else 0)
    cases r (inl e) =
        let a = if_eq (length ps) i (times k p) e in
        let b = if_eq (suc (length ps)) (suc i) (times k p) (ap suc e) in
        omega (arith, a, b, r)
    cases r (inr n) =
        let a = if_ne (length ps) i (times k p) n in
        let b = if_ne (suc (length ps)) (suc i) (times k p) (λ e. n (omega (arith, e))) in
        omega (arith, a, b, r)

-- one more firing is entered at the arcs of its path
pub users_more : (fired : List Fired) (n : ℕ) (d : Fired) (users new : List (Vec ℕ Global)) → n < length fired → d ≡ get_or fired n d → AreUsers (paths_of (take n fired)) users → IsEntered n d.firing.path users new
    → AreUsers (paths_of (take (n + 1) fired)) new
users_more fired n d users new h at a e = λ k i.
    let p = e k i in
    let q = a k i in
    let m = ap (λ ps. times k (path_at ps i)) (one_more fired n d h at) ∙ path-push (paths_of (take n fired)) d.firing.path i k in
    let l = length-paths fired n (omega arith) in
    let s : (if length (paths_of (take n fired)) == i then times k d.firing.path else 0) ≡ (if n == i then times k d.firing.path else 0) = ap (λ x. if x == i then times k d.firing.path else 0) l in
    omega (arith, p, q, m, s)

pub written_back : (new old : List (Vec ℕ Global)) (n : ℕ) → length new ≡ n → take n (new ++ drop (length new) old) ≡ new
written_back new old n e = taken new (drop (length new) old) n e
  where
    taken : (xs ys : List (Vec ℕ Global)) (n : ℕ) → length xs ≡ n → take n (xs ++ ys) ≡ xs
    taken [] ys zero e = refl
    taken [] ys (suc n) e = absurd (omega (arith, e))
    taken (x ∷ xs) ys zero e = absurd (omega (arith, e))
    taken (x ∷ xs) ys (suc n) e = ap (λ zs. x ∷ zs) (taken xs ys n (omega (arith, e)))

-- ---- tables

pub table_within : (xs : List (Option ℕ)) (k l : ℕ) → table_of xs k ≡ Some l → k < length xs
table_within [] k l e = absurd cc
table_within (x ∷ xs) zero l e = omega arith
table_within (x ∷ xs) (suc k) l e = let h = table_within xs k l e in omega (arith, h)

pub is_there : (o : Option ℕ) (l : ℕ) → o ≡ Some l → IsSome o
is_there o l e = subst (λ (x : Option ℕ). IsSome x) (sym e) refl

pub some_within : (xs : List (Option ℕ)) (k : ℕ) → IsSome (table_of xs k) → k < length xs
some_within [] k s = absurd cc
some_within (x ∷ xs) zero s = omega arith
some_within (x ∷ xs) (suc k) s = let h = some_within xs k s in omega (arith, h)

pub some_read : (xs : List (Option ℕ)) (k : ℕ) (o : Option ℕ) → k < length xs → o ≡ get_or xs k o → table_of xs k ≡ o
some_read [] k o h e = absurd (omega arith)
some_read (x ∷ xs) zero o h e = sym e
some_read (x ∷ xs) (suc k) o h e = some_read xs k o (omega arith) e

pub numbered_at : (T : Table) (ks ls : List ℕ) (i : ℕ) → AreNumbered T ks ls → i < length ks → T (get_or ks i 0) ≡ Some (get_or ls i 0)
numbered_at T [] ls i a h = absurd (omega arith)
numbered_at T (k ∷ ks) [] i a h = absurd a
numbered_at T (k ∷ ks) (l ∷ ls) zero a h = a.0
numbered_at T (k ∷ ks) (l ∷ ls) (suc i) a h = numbered_at T ks ls i a.1 (omega arith)

numbered-push : (T : Table) (ks ls : List ℕ) (k l : ℕ) → AreNumbered T ks ls → T k ≡ Some l → AreNumbered T (ks ++ k ∷ []) (ls ++ l ∷ [])
numbered-push T [] [] k l a e = (e, tt)
numbered-push T [] (y ∷ ls) k l a e = absurd a
numbered-push T (x ∷ ks) [] k l a e = absurd a
numbered-push T (x ∷ ks) (y ∷ ls) k l a e = (a.0, numbered-push T ks ls k l a.1 e)

pub numbered_more : (T : Table) (ks ls ls' : List ℕ) (i l : ℕ) → i < length ks → AreNumbered T (take i ks) ls → T (get_or ks i 0) ≡ Some l → ls' ≡ ls ++ l ∷ [] → AreNumbered T (take (i + 1) ks) ls'
numbered_more T ks ls ls' i l h a e is =
    subst (λ ms. AreNumbered T (take (i + 1) ks) ms) (sym is)
    (subst (λ js. AreNumbered T js (ls ++ l ∷ [])) (sym (take_more ks i 0 h)) (numbered-push T (take i ks) ls (get_or ks i 0) l a e))

pub all_at : (xs : List (Option ℕ)) (ns : List ℕ) (i : ℕ) → AllAre xs ns → i < length xs → get_or xs i None ≡ Some (get_or ns i 0)
all_at xs ns i a h = subst (λ (ys : List (Option ℕ)). get_or ys i None ≡ Some (get_or ns i 0)) a (there ns i (subst (λ (ys : List (Option ℕ)). i < length ys) (sym a) h))
  where
    there : (ns : List ℕ) (i : ℕ) → i < length (map (λ n. Some n) ns) → get_or (map (λ n. Some n) ns) i None ≡ Some (get_or ns i 0)
    there [] i h = absurd (omega arith)
    there (n ∷ ns) zero h = refl
    there (n ∷ ns) (suc i) h = there ns i (omega arith)

all-push : (ns : List ℕ) (n : ℕ) → map (λ x. Some x) (ns ++ n ∷ []) ≡ map (λ x. Some x) ns ++ Some n ∷ []
all-push [] n = refl
all-push (x ∷ ns) n = ap (λ ys. Some x ∷ ys) (all-push ns n)

pub all_more : (xs : List (Option ℕ)) (ns ns' : List ℕ) (i n : ℕ) → i < length xs → AllAre (take i xs) ns → get_or xs i None ≡ Some n → ns' ≡ ns ++ n ∷ [] → AllAre (take (i + 1) xs) ns'
all_more xs ns ns' i n h a e is =
    ap (map (λ x. Some x)) is ∙ all-push ns n ∙ ap (λ ys. ys ++ Some n ∷ []) a ∙ ap (λ o. take i xs ++ o ∷ []) (sym e) ∙ sym (take_more xs i None h)

table_none : (n k : ℕ) → table_of (replicate n None) k ≡ None
table_none zero k = refl
table_none (suc n) zero = refl
table_none (suc n) (suc k) = table_none n k

pub long_first : (xs : List (Option ℕ)) (n : ℕ) → xs ≡ replicate n None → length xs ≡ n
long_first xs n e = ap (λ (ys : List (Option ℕ)). length ys) e ∙ long n
  where
    long : (n : ℕ) → length (replicate {A = Option ℕ} n None) ≡ n
    long zero = refl
    long (suc n) = ap suc (long n)

pub none_first : (xs : List (Option ℕ)) (n k : ℕ) → xs ≡ replicate n None → table_of xs k ≡ (if ltb k 0 then Some k else None)
none_first xs n k e =
    ap (λ ys. table_of ys k) e ∙ table_none n k ∙ sym (ap (λ b. if b then Some k else None) (le-ltb k 0 (omega arith)))

pub own_more : (xs : List (Option ℕ)) (n k : ℕ) → n < length xs → ((j : ℕ) → table_of xs j ≡ (if ltb j n then Some j else None)) → table_of (set xs n (Some n)) k ≡ (if ltb k (n + 1) then Some k else None)
own_more xs n k h own = cases (cases_eq k n) (cases_lt k n)
  where
    cases : (k ≡ n) ⊎ (k ≡ n → ⊥) → (k < n) ⊎ (n ≤ k) → table_of (set xs n (Some n)) k ≡ (if ltb k (n + 1) then Some k else None)
    cases (inl e) c =
        subst (λ j. table_of (set xs n (Some n)) j ≡ Some j) (sym e) (get_or-set_same xs n (Some n) None h)
        ∙ sym (ap (λ b. if b then Some k else None) (lt-ltb k (n + 1) (omega (arith, e))))
    cases (inr ne) (inl l) =
        get_or-set_other xs n k (Some n) None ne ∙ own k ∙ ap (λ b. if b then Some k else None) (lt-ltb k n l ∙ sym (lt-ltb k (n + 1) (omega (arith, l))))
    cases (inr ne) (inr g) =
        get_or-set_other xs n k (Some n) None ne ∙ own k ∙ ap (λ b. if b then Some k else None) (le-ltb k n g ∙ sym (le-ltb k (n + 1) (omega (arith, g, ne))))

-- ---- firings in numbers

in_numbers-push : (T : Table) (done : List Fired) (is : List ℕ) (ns : List Next) (i : ℕ) (n : Next) → AreInNumbers T done is ns → IsInNumbers T done i n → AreInNumbers T done (is ++ i ∷ []) (ns ++ n ∷ [])
in_numbers-push T done [] [] i n a e = (e, tt)
in_numbers-push T done [] (y ∷ ns) i n a e = absurd a
in_numbers-push T done (x ∷ is) [] i n a e = absurd a
in_numbers-push T done (x ∷ is) (y ∷ ns) i n a e = (a.0, in_numbers-push T done is ns i n a.1 e)

pub in_numbers_more : (T : Table) (done : List Fired) (places : List ℕ) (i : ℕ) (ns ns' : List Next) (n : Next) → i < length places → AreInNumbers T done (take i places) ns → IsInNumbers T done (get_or places i 0) n → ns' ≡ ns ++ n ∷ []
    → AreInNumbers T done (take (i + 1) places) ns'
in_numbers_more T done places i ns ns' n h a e is =
    subst (λ ms. AreInNumbers T done (take (i + 1) places) ms) (sym is)
    (subst (λ js. AreInNumbers T done js (ns ++ n ∷ [])) (sym (take_more places i 0 h)) (in_numbers-push T done (take i places) ns (get_or places i 0) n a e))

-- ---- sorted firings

abbrev pub is_before : Next → Next → Bool
is_before m n = is_lt (order m.firing n.firing)

never_falls : (xs : List Next) → ((i j : ℕ) (d : Next) → i ≤ j → j < length xs → is_before (get_or xs j d) (get_or xs i d) ≡ false) → NeverFalls xs
never_falls [] far = tt
never_falls (x ∷ xs) far = (
  λ g i b. let (k, at) = place_of xs g i in
      let h = slice_get_within xs k g at in
      let here : get_or xs k g ≡ g = get_or_from_slice_get xs k g g at in
      let no : is_before (get_or xs k g) x ≡ false = far 0 (suc k) g (omega arith) (omega arith) in
      let yes : is_before (get_or xs k g) x ≡ true = ap (λ y. is_before y x) here ∙ ap is_lt b in
      let clash : true ≡ false = sym yes ∙ no in
      absurd cc,
  never_falls xs (λ i j d l h. far (suc i) (suc j) d (omega arith) (omega arith)),
)

pub from_sorted : (xs : List Next) → IsSortedBy is_before xs → NeverFalls xs
from_sorted xs up = never_falls xs (sorted_far is_before (ranks_by order_total (λ (n : Next). n.firing)) xs up)
