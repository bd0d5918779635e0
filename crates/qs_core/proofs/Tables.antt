-- Statuses with what is looked up among them stay so, whatever is claimed, published and done.
use Rattle.std.proofs.Common.{◌≡◌, ℕ, zero, suc, ◌+◌, ◌-◌, ◌^◌, ◌<◌, ◌≤◌, Bool, true, false, List, [], ◌∷◌, ◌++◌, length, map, set, replicate, refl, sym, ◌∙◌, ap, subst, inl, inr, ⊎_elim, ◌⊎◌, arith, Option, Some, None, slice_get, get_or, eqb, eqb-true, eq-eqb, length-append, length-set, take}
use Rattle.std.specs.Prelude.{if◌then◌else◌}
use Rattle.std.proofs.lemmas.Option.{slice_get_within}
use Rattle.std.proofs.lemmas.List.{length-replicate, take-append-le}
use Rattle.qs_tree.proofs.Decisions.{same_there}
use Rattle.qs_tree.proofs.Elements.{set_here, set_other, set_cases, of_replicate}
use Rattle.qs_tree.proofs.Members.{at_place}
use Rattle.qs_graph.proofs.Paths.{slice_get-append}
use Rattle.qs_core.specs.declared.step.Status.{Status}
use Rattle.qs_core.specs.declared.step.Status.TheVariants as status
use Rattle.qs_core.specs.Core.{rest_one}
use Rattle.qs_core.specs.Machines.{StatusTable}
use Rattle.qs_core.specs.working.Tables.{IsTable, undone_one, undone, IsClaimOf}
use Rattle.qs_core.proofs.Places.{more_cases}

-- how many aren't done
undone_set : (xs : List Status) (m : ℕ) (x y : Status) → slice_get xs m ≡ Some x → undone (set xs m y) + undone_one x ≡ undone xs + undone_one y
undone_set [] m x y e = absurd cc
undone_set (z ∷ xs) zero x y e = let same : z ≡ x = cc in omega (arith, ap undone_one same)
undone_set (z ∷ xs) (suc m) x y e = omega (arith, undone_set xs m x y e)

undone_more : (xs ys : List Status) → undone (xs ++ ys) ≡ undone xs + undone ys
undone_more [] ys = omega arith
undone_more (x ∷ xs) ys = omega (arith, undone_more xs ys)

undone_waiting : (n : ℕ) → undone (replicate n status.Waiting) ≡ n
undone_waiting zero = refl
undone_waiting (suc n) = omega (arith, undone_waiting n)

pub undone_few : (xs : List Status) → undone xs ≤ length xs
undone_few [] = omega arith
undone_few (status.Waiting ∷ xs) = omega (arith, undone_few xs)
undone_few (status.Claimed i k ∷ xs) = omega (arith, undone_few xs)
undone_few (status.Done ∷ xs) = omega (arith, undone_few xs)

pub none_undone : (xs : List Status) → undone xs ≡ 0 → (m : ℕ) (s : Status) → slice_get xs m ≡ Some s → s ≡ status.Done
none_undone [] z m s e = absurd cc
none_undone (x ∷ xs) z (suc m) s e = none_undone xs (omega arith) m s e
none_undone (status.Done ∷ xs) z zero s e = cc
none_undone (status.Waiting ∷ xs) z zero s e = absurd (omega arith)
none_undone (status.Claimed i k ∷ xs) z zero s e = absurd (omega arith)

pub all_are_done : (xs : List Status) → ((m : ℕ) (s : Status) → slice_get xs m ≡ Some s → s ≡ status.Done) → undone xs ≡ 0
all_are_done [] all = refl
all_are_done (x ∷ xs) all = omega (arith, ap undone_one (all 0 x refl), all_are_done xs (λ m s e. all (suc m) s e))

-- what a seat has claimed, where it has a claim at one place at most
rest_same : (i : ℕ) (x : Status) → ((k : ℕ) → x ≡ status.Claimed i k → ⊥) → rest_one i x ≡ x
rest_same i status.Waiting n = refl
rest_same i status.Done n = refl
rest_same i (status.Claimed j k) n = tested (eqb j i) refl
  where
    tested : (b : Bool) → eqb j i ≡ b → (if b then status.Done else status.Claimed j k) ≡ status.Claimed j k
    tested true t = absurd (n k (ap (λ m. status.Claimed m k) (eqb-true j i t)))
    tested false t = refl

rest_done : (i k : ℕ) → rest_one i (status.Claimed i k) ≡ status.Done
rest_done i k = ap (λ b. if b then status.Done else status.Claimed i k) (eq-eqb i i refl)

pub none_rests : (i : ℕ) (xs : List Status) → IsClaimOf xs i None → map (rest_one i) xs ≡ xs
none_rests i [] none = refl
none_rests i (x ∷ xs) none =
    let e : rest_one i x ≡ x = rest_same i x (λ k d. none 0 k (ap Some d)) in
    let r : map (rest_one i) xs ≡ xs = none_rests i xs (λ m k d. none (suc m) k d) in
    λ j. e j ∷ r j

one_rests : (i : ℕ) (xs : List Status) (m k : ℕ) → slice_get xs m ≡ Some (status.Claimed i k) → ((n l : ℕ) → slice_get xs n ≡ Some (status.Claimed i l) → n ≡ m)
    → map (rest_one i) xs ≡ set xs m status.Done
one_rests i [] m k at one = absurd cc
one_rests i (x ∷ xs) zero k at one =
    let same : x ≡ status.Claimed i k = cc in
    let e : rest_one i x ≡ status.Done = ap (rest_one i) same ∙ rest_done i k in
    let r : map (rest_one i) xs ≡ xs = none_rests i xs (λ n l d. let w = one (suc n) l d in omega arith) in
    λ j. e j ∷ r j
one_rests i (x ∷ xs) (suc m) k at one =
    let e : rest_one i x ≡ x = rest_same i x (λ l d. let w = one 0 l (ap Some d) in omega arith) in
    let r : map (rest_one i) xs ≡ set xs m status.Done = one_rests i xs m k at (λ n l d. let w = one (suc n) l d in omega arith) in
    λ j. e j ∷ r j

-- what is added and taken away again leaves what was there
pub taken_away : {X : Type 0} (xs ys : List X) (n : ℕ) → n ≡ length ys → take (length (xs ++ ys) - n) (xs ++ ys) ≡ xs
taken_away xs ys n e =
    let m : length (xs ++ ys) - n ≡ length xs = omega (arith, e, length-append xs ys) in
    ap (λ k. take k (xs ++ ys)) m ∙ take-append-le (length xs) xs ys (omega arith) ∙ all xs
  where
    all : {Y : Type 0} (zs : List Y) → take (length zs) zs ≡ zs
    all [] = refl
    all (z ∷ zs) = ap (λ ws. z ∷ ws) (all zs)

abbrev no_claim : Option ℕ
no_claim = None

pub opens : (list : List Status) (claims : List (Option ℕ)) (arcs seats : ℕ) → list ≡ replicate arcs status.Waiting → claims ≡ replicate seats None → arcs < 2 ^ 32 → seats < 2 ^ 32
    → IsTable list claims 0 arcs
opens list claims arcs seats e d few seats_few = record {
  few = omega (arith, ap length e, length-replicate arcs status.Waiting);
  seats_few = omega (arith, ap length d, length-replicate seats no_claim);
  claims_are = λ i m. (
    (λ at. let w : Some m ≡ None = of_replicate seats None i (Some m) (ap (λ xs. slice_get xs i) (sym d) ∙ at) in absurd cc),
    λ (k, at). let w : status.Claimed i k ≡ status.Waiting = of_replicate arcs status.Waiting m (status.Claimed i k) (ap (λ xs. slice_get xs m) (sym e) ∙ at) in absurd cc,
  );
  passed = λ m at. omega arith;
  next_few = omega arith;
  left_is = sym (ap undone e ∙ undone_waiting arcs);
}

module _ {list : List Status} {claims : List (Option ℕ)} {next left : ℕ} (t : IsTable list claims next left) where
  pub claim_read : (i : ℕ) (o : Option ℕ) → slice_get claims i ≡ Some o → IsClaimOf list i o
  claim_read i (Some m) at = (t.claims_are i m).0 at
  claim_read i None at = λ m k e. let x : Some None ≡ Some (Some m) = sym at ∙ (t.claims_are i m).1 (k, e) in cc

  -- what was read at a seat
  pub read_at : (now : StatusTable) → record { list = list; seats = length claims } ≡ now → (i : ℕ) (o : Option ℕ) → i < now.seats → o ≡ get_or claims i o → slice_get claims i ≡ Some o
  read_at now e i o seat at = at_place claims i o (omega (arith, seat, ap (λ (x : StatusTable). x.seats) e)) at

  pub one_claim : (i m n k l : ℕ) → slice_get list m ≡ Some (status.Claimed i k) → slice_get list n ≡ Some (status.Claimed i l) → m ≡ n
  one_claim i m n k l e d = let x : Some m ≡ Some n = same_there ((t.claims_are i m).1 (k, e)) ((t.claims_are i n).1 (l, d)) in cc

  pub claimed_low : (i m : ℕ) → slice_get claims i ≡ Some (Some m) → m < length list
  claimed_low i m at = let (k, e) = (t.claims_are i m).0 at in slice_get_within list m (status.Claimed i k) e

  pub claimed_left : (i m : ℕ) → slice_get claims i ≡ Some (Some m) → 1 ≤ left
  claimed_left i m at =
      let (k, e) = (t.claims_are i m).0 at in
      omega (arith, t.left_is, undone_set list m (status.Claimed i k) status.Done e)

  pub rested : (now : StatusTable) → record { list = list; seats = length claims } ≡ now → (i arc : ℕ) → slice_get claims i ≡ Some (Some arc)
      → ◌≡◌ {A = StatusTable} (record { list = set list arc status.Done; seats = length (set claims i None) }) (record { list = map (rest_one i) now.list; seats = now.seats })
  rested now e i arc at =
      let (k, c) = (t.claims_are i arc).0 at in
      let r : map (rest_one i) list ≡ set list arc status.Done = one_rests i list arc k c (λ n l d. one_claim i n arc l k d c) in
      (λ j. record { list = sym r j; seats = length-set claims i None j })
      ∙ ap (λ (s : StatusTable). record { list = map (rest_one i) s.list; seats = s.seats }) e

  pub with_done : (i arc : ℕ) → slice_get claims i ≡ Some (Some arc) → IsTable (set list arc status.Done) (set claims i None) next (left - 1)
  with_done i arc at =
      let (k, c) = (t.claims_are i arc).0 at in record {
        few = omega (arith, t.few, length-set list arc status.Done);
        seats_few = omega (arith, t.seats_few, length-set claims i None);
        claims_are = λ j m. (there k c j m, back k c j m);
        passed = λ m e. ⊎_elim (λ (d, x). absurd cc) (λ (ne, d). t.passed m d) (set_cases list arc status.Done m status.Waiting e);
        next_few = omega (arith, t.next_few, length-set list arc status.Done);
        left_is = omega (arith, t.left_is, undone_set list arc (status.Claimed i k) status.Done c);
      }
    where
      there : (k : ℕ) → slice_get list arc ≡ Some (status.Claimed i k) → (j m : ℕ) → slice_get (set claims i None) j ≡ Some (Some m) → (l : ℕ) × (slice_get (set list arc status.Done) m ≡ Some (status.Claimed j l))
      there k c j m e = ⊎_elim
          (λ (d, x). absurd cc)
          (λ (ne, d). let (l, f) = (t.claims_are j m).0 d in
          (l, set_other list arc status.Done m (status.Claimed j l) (λ s. let x : status.Claimed j l ≡ status.Claimed i k = same_there f (ap (slice_get list) s ∙ c) in ne cc) f))
          (set_cases claims i None j (Some m) e)

      back : (k : ℕ) → slice_get list arc ≡ Some (status.Claimed i k) → (j m : ℕ) → ((l : ℕ) × (slice_get (set list arc status.Done) m ≡ Some (status.Claimed j l))) → slice_get (set claims i None) j ≡ Some (Some m)
      back k c j m (l, e) = ⊎_elim
          (λ (d, x). absurd cc)
          (λ (ne, d). set_other claims i None j (Some m) (λ s. ne (one_claim i m arc l k (d ∙ ap (λ x. Some (status.Claimed x l)) s) c)) ((t.claims_are j m).1 (l, d)))
          (set_cases list arc status.Done m (status.Claimed j l) e)

  pub with_claim : (i arc : ℕ) → i < length claims → slice_get list arc ≡ Some status.Waiting → IsClaimOf list i None
      → IsTable (set list arc (status.Claimed i 0)) (set claims i (Some arc)) next left
  with_claim i arc seat waits none = record {
    few = omega (arith, t.few, length-set list arc (status.Claimed i 0));
    seats_few = omega (arith, t.seats_few, length-set claims i (Some arc));
    claims_are = λ j m. (there j m, back j m);
    passed = λ m e. ⊎_elim (λ (d, x). absurd cc) (λ (ne, d). t.passed m d) (set_cases list arc (status.Claimed i 0) m status.Waiting e);
    next_few = omega (arith, t.next_few, length-set list arc (status.Claimed i 0));
    left_is = omega (arith, t.left_is, undone_set list arc status.Waiting (status.Claimed i 0) waits);
  }
    where
      low : arc < length list
      low = slice_get_within list arc status.Waiting waits

      there : (j m : ℕ) → slice_get (set claims i (Some arc)) j ≡ Some (Some m) → (l : ℕ) × (slice_get (set list arc (status.Claimed i 0)) m ≡ Some (status.Claimed j l))
      there j m e = ⊎_elim
          (λ (d, x). let same : m ≡ arc = cc in
          (0, ap (slice_get (set list arc (status.Claimed i 0))) same ∙ set_here list arc (status.Claimed i 0) low ∙ ap (λ n. Some (status.Claimed n 0)) (sym d)))
          (λ (ne, d). let (l, f) = (t.claims_are j m).0 d in
          (l, set_other list arc (status.Claimed i 0) m (status.Claimed j l) (λ s. let x : status.Claimed j l ≡ status.Waiting = same_there f (ap (slice_get list) s ∙ waits) in cc) f))
          (set_cases claims i (Some arc) j (Some m) e)

      back : (j m : ℕ) → ((l : ℕ) × (slice_get (set list arc (status.Claimed i 0)) m ≡ Some (status.Claimed j l))) → slice_get (set claims i (Some arc)) j ≡ Some (Some m)
      back j m (l, e) = ⊎_elim
          (λ (d, x). let same : j ≡ i = cc in ap (slice_get (set claims i (Some arc))) same ∙ set_here claims i (Some arc) seat ∙ ap (λ n. Some (Some n)) (sym d))
          (λ (ne, d). set_other claims i (Some arc) j (Some m) (λ s. none m l (d ∙ ap (λ x. Some (status.Claimed x l)) s)) ((t.claims_are j m).1 (l, d)))
          (set_cases list arc (status.Claimed i 0) m (status.Claimed j l) e)

  pub with_published : (i arc n : ℕ) → IsClaimOf list i (Some arc) → IsTable (set list arc (status.Claimed i n)) claims next left
  with_published i arc n (k, c) = record {
    few = omega (arith, t.few, length-set list arc (status.Claimed i n));
    seats_few = t.seats_few;
    claims_are = λ j m. (there j m, back j m);
    passed = λ m e. ⊎_elim (λ (d, x). absurd cc) (λ (ne, d). t.passed m d) (set_cases list arc (status.Claimed i n) m status.Waiting e);
    next_few = omega (arith, t.next_few, length-set list arc (status.Claimed i n));
    left_is = omega (arith, t.left_is, undone_set list arc (status.Claimed i k) (status.Claimed i n) c);
  }
    where
      low : arc < length list
      low = slice_get_within list arc (status.Claimed i k) c

      there : (j m : ℕ) → slice_get claims j ≡ Some (Some m) → (l : ℕ) × (slice_get (set list arc (status.Claimed i n)) m ≡ Some (status.Claimed j l))
      there j m e =
          let (l, f) = (t.claims_are j m).0 e in
          by l f (set_other_or list arc m)
        where
          set_other_or : (xs : List Status) (p q : ℕ) → (q ≡ p) ⊎ (q ≡ p → ⊥)
          set_other_or xs p q = tested (eqb q p) refl
            where
              tested : (b : Bool) → eqb q p ≡ b → (q ≡ p) ⊎ (q ≡ p → ⊥)
              tested true e = inl (eqb-true q p e)
              tested false e = inr (λ d. let u = eq-eqb q p d in cc)

          by : (l : ℕ) → slice_get list m ≡ Some (status.Claimed j l) → (m ≡ arc) ⊎ (m ≡ arc → ⊥) → (l : ℕ) × (slice_get (set list arc (status.Claimed i n)) m ≡ Some (status.Claimed j l))
          by l f (inl s) =
              let x : status.Claimed j l ≡ status.Claimed i k = same_there f (ap (slice_get list) s ∙ c) in
              let same : i ≡ j = cc in
              (n, ap (slice_get (set list arc (status.Claimed i n))) s ∙ set_here list arc (status.Claimed i n) low ∙ ap (λ x. Some (status.Claimed x n)) same)
          by l f (inr ne) = (l, set_other list arc (status.Claimed i n) m (status.Claimed j l) ne f)

      back : (j m : ℕ) → ((l : ℕ) × (slice_get (set list arc (status.Claimed i n)) m ≡ Some (status.Claimed j l))) → slice_get claims j ≡ Some (Some m)
      back j m (l, e) = ⊎_elim
          (λ (d, x). let same : j ≡ i = cc in (t.claims_are j m).1 (k, ap (slice_get list) d ∙ c ∙ ap (λ x. Some (status.Claimed x k)) (sym same)))
          (λ (ne, d). (t.claims_are j m).1 (l, d))
          (set_cases list arc (status.Claimed i n) m (status.Claimed j l) e)

  pub with_more : (n : ℕ) (all : List Status) → all ≡ list ++ replicate n status.Waiting → length list + n < 2 ^ 32 → IsTable all claims next (left + n)
  with_more n all is few = subst (λ xs. IsTable xs claims next (left + n)) (sym is) (record {
    few = omega (arith, few, long);
    seats_few = t.seats_few;
    claims_are = λ j m. (there j m, back j m);
    passed = λ m e. ⊎_elim (λ d. t.passed m d) (λ (h, x). omega (arith, t.next_few, h)) (more_cases list (replicate n status.Waiting) m status.Waiting e);
    next_few = omega (arith, t.next_few, long);
    left_is = omega (arith, t.left_is, undone_more list (replicate n status.Waiting), undone_waiting n);
  })
    where
      long : length (list ++ replicate n status.Waiting) ≡ length list + n
      long = omega (arith, length-append list (replicate n status.Waiting), length-replicate n status.Waiting)

      there : (j m : ℕ) → slice_get claims j ≡ Some (Some m) → (l : ℕ) × (slice_get (list ++ replicate n status.Waiting) m ≡ Some (status.Claimed j l))
      there j m e = let (l, f) = (t.claims_are j m).0 e in (l, slice_get-append list (replicate n status.Waiting) m (status.Claimed j l) f)

      back : (j m : ℕ) → ((l : ℕ) × (slice_get (list ++ replicate n status.Waiting) m ≡ Some (status.Claimed j l))) → slice_get claims j ≡ Some (Some m)
      back j m (l, e) = ⊎_elim
          (λ d. (t.claims_are j m).1 (l, d))
          (λ (h, (p, d)). let x : status.Claimed j l ≡ status.Waiting = of_replicate n status.Waiting p (status.Claimed j l) d in absurd cc)
          (more_cases list (replicate n status.Waiting) m (status.Claimed j l) e)

  pub passed_to : (n : ℕ) → n ≤ length list → ((m : ℕ) → slice_get list m ≡ Some status.Waiting → next ≤ m → n ≤ m) → IsTable list claims n left
  passed_to n low pass = record {
    few = t.few;
    seats_few = t.seats_few;
    claims_are = t.claims_are;
    passed = λ m e. pass m e (t.passed m e);
    next_few = low;
    left_is = t.left_is;
  }

  pub with_less : (n next' : ℕ) (kept : List Status) → list ≡ kept ++ replicate n status.Waiting → next' ≤ next → next' ≤ length list - n → IsTable (take (length list - n) list) claims next' (left - n)
  with_less n next' kept is low inside = subst (λ xs. IsTable xs claims next' (left - n)) (sym short) (record {
    few = omega (arith, t.few, long);
    seats_few = t.seats_few;
    claims_are = λ j m. (there j m, back j m);
    passed = λ m e. omega (arith, low, t.passed m (ap (λ xs. slice_get xs m) is ∙ slice_get-append kept (replicate n status.Waiting) m status.Waiting e));
    next_few = omega (arith, inside, long);
    left_is = omega (arith, t.left_is, ap undone is, undone_more kept (replicate n status.Waiting), undone_waiting n);
  })
    where
      long : length list ≡ length kept + n
      long = omega (arith, ap length is, length-append kept (replicate n status.Waiting), length-replicate n status.Waiting)

      short : take (length list - n) list ≡ kept
      short = (λ i. take (length (is i) - n) (is i)) ∙ taken_away kept (replicate n status.Waiting) n (sym (length-replicate n status.Waiting))

      there : (j m : ℕ) → slice_get claims j ≡ Some (Some m) → (l : ℕ) × (slice_get kept m ≡ Some (status.Claimed j l))
      there j m e =
          let (l, f) = (t.claims_are j m).0 e in
          ⊎_elim
          (λ d. (l, d))
          (λ (h, (p, d)). let x : status.Claimed j l ≡ status.Waiting = of_replicate n status.Waiting p (status.Claimed j l) d in absurd cc)
          (more_cases kept (replicate n status.Waiting) m (status.Claimed j l) (ap (λ xs. slice_get xs m) (sym is) ∙ f))

      back : (j m : ℕ) → ((l : ℕ) × (slice_get kept m ≡ Some (status.Claimed j l))) → slice_get claims j ≡ Some (Some m)
      back j m (l, e) = (t.claims_are j m).1 (l, ap (λ xs. slice_get xs m) is ∙ slice_get-append kept (replicate n status.Waiting) m (status.Claimed j l) e)

  pub waiting_left : (n : ℕ) (kept : List Status) → list ≡ kept ++ replicate n status.Waiting → n ≤ left
  waiting_left n kept is = omega (arith, t.left_is, ap undone is, undone_more kept (replicate n status.Waiting), undone_waiting n)
