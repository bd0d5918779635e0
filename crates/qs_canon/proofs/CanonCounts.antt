-- Counts that are counted down.
use Rattle.std.proofs.Common.{◌≡◌, append_assoc, inl, inr, ℕ, zero, suc, ◌+◌, ◌<◌, ◌≤◌, ◌⊎◌, List, [], ◌∷◌, ◌++◌, length, get_or, set, take, refl, sym, ap, ◌∙◌, subst, arith, append-nil, get_or-set_same, get_or-set_other, Global}
use Rattle.std.specs.Prelude.{slice_get, Option, Some, unwrap_or}
use Rattle.std.specs.Option.{option_map}
use Rattle.std.proofs.lemmas.Bool.{cases_eq}
use Rattle.std.proofs.lemmas.List.{take_more}
use Rattle.std.specs.declared.vec.Vec.{Vec}
use Rattle.qs_graph.specs.working.Orders.{times}
use Rattle.qs_graph.proofs.Numbers.{one-same, one-other, times-append}
use Rattle.qs_canon.specs.working.CanonCounts.{users_at, uses, reaches, AreCountedDown}

-- ---- how often a number stands in a list

pub times-take : (n : ℕ) (xs : List ℕ) (i : ℕ) → times n (take i xs) ≤ times n xs
times-take n [] zero = omega arith
times-take n [] (suc i) = omega arith
times-take n (x ∷ xs) zero = omega arith
times-take n (x ∷ xs) (suc i) = let h = times-take n xs i in omega (arith, h)

pub hit : (x i : ℕ) → x ≡ i → times i (x ∷ []) ≡ 1
hit x i e = omega (arith, one-same x i e)

pub miss : (x i : ℕ) → (x ≡ i → ⊥) → times i (x ∷ []) ≡ 0
miss x i n = omega (arith, one-other x i n)

-- of a list that has been gone through up to a place, the number there is still to come
pub still_to_come : (xs : List ℕ) (i : ℕ) → i < length xs → times (get_or xs i 0) (take i xs) + 1 ≤ times (get_or xs i 0) xs
still_to_come xs i h =
    let x = get_or xs i 0 in
    let more = ap (λ ys. times x ys) (take_more xs i 0 h) ∙ times-append x (take i xs) (x ∷ []) in
    let one = hit x x refl in
    let low = times-take x xs (i + 1) in
    omega (arith, more, one, low)

pub count_within : (xs : List ℕ) (i : ℕ) → 0 < get_or xs i 0 → i < length xs
count_within [] i h = absurd (omega arith)
count_within (x ∷ xs) zero h = omega arith
count_within (x ∷ xs) (suc i) h = let l = count_within xs i h in omega (arith, l)

-- ---- counting down

reaches_same : (a : ℕ) → reaches a a ≡ 0
reaches_same zero = refl
reaches_same (suc a) = refl

reaches_more : (a b c : ℕ) → b ≤ a → c ≤ b → reaches a b + reaches b c ≡ reaches a c
reaches_more zero zero c h l = refl
reaches_more zero (suc b) c h l = absurd (omega arith)
reaches_more (suc a) zero zero h l = refl
reaches_more (suc a) zero (suc c) h l = absurd (omega arith)
reaches_more (suc a) (suc b) zero h l = refl
reaches_more (suc a) (suc b) (suc c) h l = refl

pub counted_none : (old before : List ℕ) → AreCountedDown old [] old before before
counted_none old before = record {
  counts = λ i. omega arith;
  ready_are = λ i. let e = reaches_same (get_or old i 0) in omega (arith, e);
}

pub counted_more : (old xs middle ys new before between ready : List ℕ) → AreCountedDown old xs middle before between → AreCountedDown middle ys new between ready → AreCountedDown old (xs ++ ys) new before ready
counted_more old xs middle ys new before between ready a b = record {
  counts = λ i. let p = a.counts i in let q = b.counts i in let e = times-append i xs ys in omega (arith, p, q, e);
  ready_are = λ i.
      let p = a.counts i in
      let q = b.counts i in
      let r = a.ready_are i in
      let s = b.ready_are i in
      let e = reaches_more (get_or old i 0) (get_or middle i 0) (get_or new i 0) (omega (arith, p)) (omega (arith, q)) in
      omega (arith, r, s, e);
}

-- one count comes down
module _ (old : List ℕ) (x left : ℕ) (within : x < length old) (is : get_or old x 0 ≡ left + 1) where
  now_at : (i : ℕ) → ((x ≡ i) × (get_or (set old x left) i 0 ≡ left) × (get_or old i 0 ≡ left + 1) × (times i (x ∷ []) ≡ 1))
      ⊎ ((get_or (set old x left) i 0 ≡ get_or old i 0) × (times i (x ∷ []) ≡ 0))
  now_at i = cases (cases_eq x i)
    where
      cases : (x ≡ i) ⊎ (x ≡ i → ⊥) → ((x ≡ i) × (get_or (set old x left) i 0 ≡ left) × (get_or old i 0 ≡ left + 1) × (times i (x ∷ []) ≡ 1))
          ⊎ ((get_or (set old x left) i 0 ≡ get_or old i 0) × (times i (x ∷ []) ≡ 0))
      cases (inl e) = inl (e, subst (λ j. get_or (set old x left) j 0 ≡ left) e (get_or-set_same old x left 0 within), subst (λ j. get_or old j 0 ≡ left + 1) e is, hit x i e)
      cases (inr n) = inr (get_or-set_other old x i left 0 (λ e. n (sym e)), miss x i n)

  reaches_zero : (a b : ℕ) → a ≡ 1 → b ≡ 0 → reaches a b ≡ 1
  reaches_zero a b p q = λ i. reaches (p i) (q i)

  reaches_left : (a b : ℕ) → a ≡ left + 1 → b ≡ left → 0 < left → reaches a b ≡ 0
  reaches_left zero b p q h = refl
  reaches_left (suc a) zero p q h = absurd (omega arith)
  reaches_left (suc a) (suc b) p q h = refl

  pub counted_one : (before ready : List ℕ) → ((left ≡ 0) × (ready ≡ before ++ x ∷ [])) ⊎ ((0 < left) × (ready ≡ before)) → AreCountedDown old (x ∷ []) (set old x left) before ready
  counted_one before ready r = record { counts = λ i. counts i (now_at i); ready_are = λ i. ready_are i (now_at i) r }
    where
      counts : (i : ℕ) → ((x ≡ i) × (get_or (set old x left) i 0 ≡ left) × (get_or old i 0 ≡ left + 1) × (times i (x ∷ []) ≡ 1))
          ⊎ ((get_or (set old x left) i 0 ≡ get_or old i 0) × (times i (x ∷ []) ≡ 0)) → get_or (set old x left) i 0 + times i (x ∷ []) ≡ get_or old i 0
      counts i (inl (e, p, q, t)) = omega (arith, p, q, t)
      counts i (inr (p, t)) = omega (arith, p, t)

      ready_are : (i : ℕ) → ((x ≡ i) × (get_or (set old x left) i 0 ≡ left) × (get_or old i 0 ≡ left + 1) × (times i (x ∷ []) ≡ 1))
          ⊎ ((get_or (set old x left) i 0 ≡ get_or old i 0) × (times i (x ∷ []) ≡ 0)) → ((left ≡ 0) × (ready ≡ before ++ x ∷ [])) ⊎ ((0 < left) × (ready ≡ before))
          → times i ready ≡ times i before + reaches (get_or old i 0) (get_or (set old x left) i 0)
      ready_are i (inl (e, p, q, t)) (inl (z, r)) =
          let more = ap (λ xs. times i xs) r ∙ times-append i before (x ∷ []) in
          let one = reaches_zero (get_or old i 0) (get_or (set old x left) i 0) (omega (arith, q, z)) (omega (arith, p, z)) in
          omega (arith, more, one, t)
      ready_are i (inl (e, p, q, t)) (inr (h, r)) =
          let none = reaches_left (get_or old i 0) (get_or (set old x left) i 0) q p h in
          let same = ap (λ xs. times i xs) r in
          omega (arith, same, none)
      ready_are i (inr (p, t)) (inl (z, r)) =
          let more = ap (λ xs. times i xs) r ∙ times-append i before (x ∷ []) in
          let none = ap (reaches (get_or old i 0)) p ∙ reaches_same (get_or old i 0) in
          omega (arith, more, none, t)
      ready_are i (inr (p, t)) (inr (h, r)) =
          let none = ap (reaches (get_or old i 0)) p ∙ reaches_same (get_or old i 0) in
          let same = ap (λ xs. times i xs) r in
          omega (arith, same, none)

-- ---- one list of places after another

module _ (old users new before ready : List ℕ) (i : ℕ) (h : i < length users) (enough : (x : ℕ) → times x users ≤ get_or old x 0) (a : AreCountedDown old (take i users) new before ready) where
  -- a count that is to come down isn't 0
  pub left_to_count : 0 < get_or new (get_or users i 0) 0
  left_to_count =
      let x = get_or users i 0 in
      let e = enough x in
      let p = a.counts x in
      let s = still_to_come users i h in
      omega (arith, e, p, s)

  pub counted_next : (left : ℕ) (ready' : List ℕ) → get_or new (get_or users i 0) 0 ≡ left + 1 → ((left ≡ 0) × (ready' ≡ ready ++ get_or users i 0 ∷ [])) ⊎ ((0 < left) × (ready' ≡ ready))
      → AreCountedDown old (take (i + 1) users) (set new (get_or users i 0) left) before ready'
  counted_next left ready' is r =
      let x = get_or users i 0 in
      let within = count_within new x left_to_count in
      subst (λ xs. AreCountedDown old xs (set new x left) before ready') (sym (take_more users i 0 h))
      (counted_more old (take i users) new (x ∷ []) (set new x left) before ready ready' a (counted_one new x left within is ready ready' r))

pub uses-append : (users : List (Vec ℕ Global)) (xs ys : List ℕ) → uses users (xs ++ ys) ≡ uses users xs ++ uses users ys
uses-append users [] ys = refl
uses-append users (x ∷ xs) ys = ap (λ zs. users_at users x ++ zs) (uses-append users xs ys) ∙ sym (append_assoc (users_at users x) (uses users xs) (uses users ys))

uses-take : (users : List (Vec ℕ Global)) (n : ℕ) (arcs : List ℕ) (i : ℕ) → times n (uses users (take i arcs)) ≤ times n (uses users arcs)
uses-take users n [] zero = omega arith
uses-take users n [] (suc i) = omega arith
uses-take users n (x ∷ xs) zero = omega arith
uses-take users n (x ∷ xs) (suc i) =
    let h = uses-take users n xs i in
    let p = times-append n (users_at users x) (uses users (take i xs)) in
    let q = times-append n (users_at users x) (uses users xs) in
    omega (arith, h, p, q)

module _ (users : List (Vec ℕ Global)) (arcs : List ℕ) (i : ℕ) (h : i < length arcs) (list : List ℕ) (is : users_at users (get_or arcs i 0) ≡ list) where
  more_uses : uses users (take (i + 1) arcs) ≡ uses users (take i arcs) ++ list
  more_uses =
      ap (λ xs. uses users xs) (take_more arcs i 0 h) ∙ uses-append users (take i arcs) (get_or arcs i 0 ∷ [])
      ∙ ap (λ xs. uses users (take i arcs) ++ xs) (append-nil (users_at users (get_or arcs i 0)) ∙ is)

  pub enough_left : (old new before ready : List ℕ) → ((x : ℕ) → times x (uses users arcs) ≤ get_or old x 0) → AreCountedDown old (uses users (take i arcs)) new before ready → (x : ℕ) → times x list ≤ get_or new x 0
  enough_left old new before ready enough a x =
      let e = enough x in
      let p = a.counts x in
      let q = ap (λ xs. times x xs) more_uses ∙ times-append x (uses users (take i arcs)) list in
      let l = uses-take users x arcs (i + 1) in
      omega (arith, e, p, q, l)

  pub counted_arc : (old middle new before between ready : List ℕ) → AreCountedDown old (uses users (take i arcs)) middle before between → AreCountedDown middle list new between ready
      → AreCountedDown old (uses users (take (i + 1) arcs)) new before ready
  counted_arc old middle new before between ready a b =
      subst (λ xs. AreCountedDown old xs new before ready) (sym more_uses) (counted_more old (uses users (take i arcs)) middle list new before between ready a b)

-- the list at a place
pub users_there : (users : List (Vec ℕ Global)) (k : ℕ) (v : Vec ℕ Global) → slice_get users k ≡ Some v → users_at users k ≡ v.items
users_there users k v e = ap (λ (o : Option (Vec ℕ Global)). unwrap_or (option_map (λ (w : Vec ℕ Global). w.items) o) []) e
