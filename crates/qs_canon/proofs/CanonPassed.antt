-- How many of the arcs in a path have passed.
use Rattle.std.proofs.Common.{◌≡◌, ℕ, zero, suc, ◌+◌, ◌<◌, ◌≤◌, ◌⊎◌, inl, inr, List, [], ◌∷◌, ◌++◌, length, take, drop, refl, sym, ap, ◌∙◌, subst, arith, Global, Some, slice_get}
use Rattle.std.proofs.lemmas.Bool.{cases_eq, cases_lt}
use Rattle.std.proofs.lemmas.List.{take-append-drop}
use Rattle.std.specs.declared.vec.Vec.{Vec}
use Rattle.qs_tree.specs.Lists.{◌∈◌}
use Rattle.qs_graph.proofs.Paths.{place_of}
use Rattle.qs_core.specs.Core.{Fired}
use Rattle.qs_graph.specs.working.Orders.{times}
use Rattle.qs_canon.specs.working.CanonCounts.{paths_of, path_at, AreUsers, users_at, uses}
use Rattle.qs_graph.proofs.Numbers.{one-same, one-other, times-append, times_in, in_times}
use Rattle.qs_canon.proofs.CanonCounts.{uses-append}

-- how many places of the path are at arcs of the list
abbrev pub held : List ℕ → List ℕ → ℕ
held [] ks = 0
held (x ∷ path) ks = times x ks + held path ks

pub held_none : (path : List ℕ) → held path [] ≡ 0
held_none [] = refl
held_none (x ∷ path) = let e = held_none path in omega (arith, e)

held_more : (path : List ℕ) (k : ℕ) (ks : List ℕ) → held path (k ∷ ks) ≡ times k path + held path ks
held_more [] k ks = omega arith
held_more (x ∷ path) k ks = cases (held_more path k ks) (cases_eq k x)
  where
    cases : held path (k ∷ ks) ≡ times k path + held path ks → (k ≡ x) ⊎ (k ≡ x → ⊥) → held (x ∷ path) (k ∷ ks) ≡ times k (x ∷ path) + held (x ∷ path) ks
    cases e (inl p) = omega (arith, e, one-same k x p, one-same x k (sym p))
    cases e (inr n) = omega (arith, e, one-other k x n, one-other x k (λ q. n (sym q)))

-- of each firing so many uses have passed
pub uses_held : (paths : List (List ℕ)) (users : List (Vec ℕ Global)) → AreUsers paths users → (i : ℕ) (ks : List ℕ) → times i (uses users ks) ≡ held (path_at paths i) ks
uses_held paths users a i [] = sym (held_none (path_at paths i))
uses_held paths users a i (k ∷ ks) =
    let e = times-append i (users_at users k) (uses users ks) in
    let m = held_more (path_at paths i) k ks in
    let h = uses_held paths users a i ks in
    let u = a k i in
    omega (arith, e, m, h, u)

-- where no arc stands twice in the list
module _ (ks : List ℕ) (once : (x : ℕ) → times x ks ≤ 1) where
  pub held_low : (path : List ℕ) → held path ks ≤ length path
  held_low [] = omega arith
  held_low (x ∷ path) = let h = held_low path in let o = once x in omega (arith, h, o)

  pub held_all : (path : List ℕ) → length path ≤ held path ks → (x : ℕ) → x ∈ path → x ∈ ks
  held_all [] h x i = absurd i
  held_all (y ∷ path) h x (inl e) = let l = held_low path in let j : y ∈ ks = in_times y ks (omega (arith, h, l)) in subst (λ z. z ∈ ks) (sym e) j
  held_all (y ∷ path) h x (inr i) = let o = once y in held_all path (omega (arith, h, o)) x i

pub all_held : (ks path : List ℕ) → ((x : ℕ) → x ∈ path → x ∈ ks) → length path ≤ held path ks
all_held ks [] all = omega arith
all_held ks (x ∷ path) all =
    let h = all_held ks path (λ y i. all y (inr i)) in
    let o = times_in x ks (all x (inl refl)) in
    omega (arith, h, o)

-- a list in which no place has what another one has
pub each_once : (ks : List ℕ) → ((l m k : ℕ) → slice_get ks l ≡ Some k → slice_get ks m ≡ Some k → l ≡ m) → (x : ℕ) → times x ks ≤ 1
each_once [] one x = omega arith
each_once (k ∷ ks) one x = cases (each_once ks (λ l m y a b. let e = one (suc l) (suc m) y a b in omega (arith, e)) x) (cases_eq k x) (cases_lt 0 (times x ks))
  where
    cases : times x ks ≤ 1 → (k ≡ x) ⊎ (k ≡ x → ⊥) → (0 < times x ks) ⊎ (times x ks ≤ 0) → times x (k ∷ ks) ≤ 1
    cases r (inl e) (inl h) =
        let (j, at) = place_of ks x (in_times x ks (omega (arith, h))) in
        absurd (omega (arith, one 0 (suc j) x (ap (λ (y : ℕ). Some y) e) at))
    cases r (inl e) (inr h) = omega (arith, one-same k x e, h)
    cases r (inr n) c = omega (arith, one-other k x n, r)

-- the first of a list
pub in_take : (n : ℕ) (ks : List ℕ) (x : ℕ) → x ∈ take n ks → (l : ℕ) × (l < n) × (slice_get ks l ≡ Some x)
in_take zero ks x i = absurd i
in_take (suc n) [] x i = absurd i
in_take (suc n) (k ∷ ks) x (inl e) = (0, omega arith, ap (λ (y : ℕ). Some y) (sym e))
in_take (suc n) (k ∷ ks) x (inr i) = let (l, h, at) = in_take n ks x i in (suc l, omega (arith, h), at)

pub take_in : (n : ℕ) (ks : List ℕ) (l x : ℕ) → l < n → slice_get ks l ≡ Some x → x ∈ take n ks
take_in zero ks l x h at = absurd (omega arith)
take_in (suc n) [] l x h at = absurd cc
take_in (suc n) (k ∷ ks) zero x h at = inl (let e : k ≡ x = cc in sym e)
take_in (suc n) (k ∷ ks) (suc l) x h at = inr (take_in n ks l x (omega (arith, h)) at)

pub in_drop : (n : ℕ) (ks : List ℕ) (x : ℕ) → x ∈ drop n ks → x ∈ ks
in_drop zero ks x i = i
in_drop (suc n) [] x i = absurd i
in_drop (suc n) (k ∷ ks) x i = inr (in_drop n ks x i)

-- the first ones of two lists, where each of the one is at its place in the other
pub same_first : (xs ys : List ℕ) → ((l k : ℕ) → slice_get xs l ≡ Some k → slice_get ys l ≡ Some k) → take (length xs) ys ≡ xs
same_first [] ys all = refl
same_first (x ∷ xs) [] all = absurd (let e = all 0 x refl in cc)
same_first (x ∷ xs) (y ∷ ys) all =
    let h = same_first xs ys (λ l k at. all (suc l) k at) in
    let e : y ≡ x = (let d = all 0 x refl in cc) in
    λ i. e i ∷ h i

-- the path at a place
pub path_there : (ds : List Fired) (i : ℕ) (d : Fired) → slice_get ds i ≡ Some d → path_at (paths_of ds) i ≡ d.firing.path
path_there [] i d at = absurd cc
path_there (x ∷ ds) zero d at = let e : x ≡ d = cc in ap (λ (y : Fired). y.firing.path) e
path_there (x ∷ ds) (suc i) d at = path_there ds i d at

pub uses_all : (users : List (Vec ℕ Global)) (n i : ℕ) (ks : List ℕ) → times i (uses users ks) ≡ times i (uses users (take n ks)) + times i (uses users (drop n ks))
uses_all users n i ks =
    ap (λ xs. times i (uses users xs)) (sym (take-append-drop n ks)) ∙ ap (λ xs. times i xs) (uses-append users (take n ks) (drop n ks))
    ∙ times-append i (uses users (take n ks)) (uses users (drop n ks))

-- a slice that was written
pub written_over : (new old : List ℕ) (n : ℕ) → length new ≡ n → take n (new ++ drop (length new) old) ≡ new
written_over new old n e = taken new (drop (length new) old) n e
  where
    taken : (xs ys : List ℕ) (n : ℕ) → length xs ≡ n → take n (xs ++ ys) ≡ xs
    taken [] ys zero e = refl
    taken [] ys (suc n) e = absurd (omega (arith, e))
    taken (x ∷ xs) ys zero e = absurd (omega (arith, e))
    taken (x ∷ xs) ys (suc n) e = ap (λ zs. x ∷ zs) (taken xs ys n (omega (arith, e)))

pub first_few : (n : ℕ) (xs : List ℕ) → length (take n xs) ≤ length xs
first_few zero xs = omega arith
first_few (suc n) [] = omega arith
first_few (suc n) (x ∷ xs) = let h = first_few n xs in omega (arith, h)
