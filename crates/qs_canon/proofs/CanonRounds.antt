-- Rounds, one after another.
use Rattle.std.proofs.Common.{◌≡◌, ℕ, Bool, true, false, zero, suc, ◌+◌, ◌^◌, ◌<◌, ◌≤◌, ◌⊎◌, inl, inr, ⊎_elim, List, [], ◌∷◌, length, map, take, drop, get_or, refl, sym, ap, ◌∙◌, subst, arith, Global, Some, None, slice_get}
use Rattle.std.specs.Prelude.{◌↔◌, if◌then◌else◌, ◌==◌, ltb, sum_by}
use Rattle.std.specs.declared.vec.Vec.{Vec}
use Rattle.std.specs.List.{Contains}
use Rattle.std.specs.List.Sorted.{IsPermutation}
use Rattle.std.proofs.lemmas.Bool.{cases_lt, ltb-true, lt-ltb}
use Rattle.std.proofs.lemmas.List.{length-map}
use Rattle.std.proofs.lemmas.List.Sorted.{Contains-permutation, IsPermutation-refl, IsPermutation-sym, IsPermutation-map, sum_by-IsPermutation}
use Rattle.std.proofs.lemmas.List.Sums.{sum_by-cons}
use Rattle.std.proofs.lemmas.Option.{slice_get_within, slice_get-get_or, get_or_from_slice_get}
use Rattle.qs_tree.specs.Lists.{◌∈◌, Ascends}
use Rattle.qs_tree.proofs.Members.{in_at, in_map, mapped}
use Rattle.qs_pattern.specs.Rules.{Rule, AreLeftSidesInClass}
use Rattle.qs_graph.specs.Graphs.{Arc, QGraph}
use Rattle.qs_graph.proofs.Paths.{place_of}
use Rattle.qs_firing.specs.Firings.{Firing, Before, key}
use Rattle.qs_firing.specs.Adding.{from_on}
use Rattle.qs_firing.proofs.Keys.{one_firing}
use Rattle.qs_firing.proofs.Orders.{total}
use Rattle.qs_firing.proofs.Within.{within_trans, within_adds, fires_stays}
use Rattle.qs_core.specs.Growth.{Grown, AllApart}
use Rattle.qs_core.specs.Core.{Fired, fired}
use Rattle.qs_core.specs.Runs.{Machine}
use Rattle.qs_canon.specs.declared.numbers.Next.{Next}
use Rattle.qs_canon.specs.declared.numbers.Numbers.{Numbers}
use Rattle.qs_canon.specs.Rounds.{Stage, firings, after, Round, Rounds}
use Rattle.qs_canon.specs.working.CanonTables.{Table, IsTable, IsNodeTable, AreNumbered, in_numbers, IsNextBy, opening_table}
use Rattle.qs_graph.specs.working.Orders.{one_if, times}
use Rattle.qs_graph.proofs.Numbers.{one-same, times_in, in_times}
use Rattle.qs_canon.specs.working.CanonCounts.{paths_of, path_at, AreUsers, uses, reaches, AreCountedDown}
use Rattle.qs_canon.specs.working.CanonNumbers.{table_of, IsReadyAt, IsInNumbers, AreInNumbers, NeverFalls}
use Rattle.qs_canon.specs.working.CanonSteps.{stage_now, firings_in, IsBetween, IsFinal, IsAtWork, IsFinished, IsRounding}
use Rattle.qs_canon.proofs.Histories.{stands, at_of, fires_low}
use Rattle.qs_canon.proofs.Stages.{rounds_grown, rounds_apart, length-firings}
use Rattle.qs_canon.proofs.Same.{turned_arc}
use Rattle.qs_canon.proofs.Rounds.{length-after}
use Rattle.qs_canon.proofs.Law.{arc_low}
use Rattle.qs_canon.proofs.CanonNumbers.{table_within}
use Rattle.qs_canon.proofs.CanonPassed.{held, uses_held, held_low, held_all, all_held, each_once, in_take, take_in, in_drop, same_first, first_few, path_there, uses_all, held_none}
use Rattle.qs_canon.proofs.CanonCounts.{times-take}
use Rattle.qs_canon.proofs.Canonical as canonical
use Rattle.qs_canon.proofs.Counting.{from_long}

-- ---- members of a list in another order

to_contains : {X : Type 0} (xs : List X) (x : X) → x ∈ xs → Contains xs x
to_contains xs x i = let (k, at) = place_of xs x i in (k, slice_get_within xs k x at, get_or_from_slice_get xs k x x at)

from_contains : {X : Type 0} (xs : List X) (x : X) → Contains xs x → x ∈ xs
from_contains xs x (k, h, e) = in_at xs k x (slice_get-get_or xs k x h ∙ ap (λ y. Some y) e)

in_order : {X : Type 0} (xs ys : List X) → IsPermutation xs ys → (x : X) → x ∈ ys → x ∈ xs
in_order xs ys p x i = from_contains xs x (Contains-permutation ys xs x (IsPermutation-sym xs ys p) (to_contains ys x i))

in_other : {X : Type 0} (xs ys : List X) → IsPermutation xs ys → (x : X) → x ∈ xs → x ∈ ys
in_other xs ys p x i = from_contains ys x (Contains-permutation xs ys x p (to_contains xs x i))

-- ---- firings in numbers

abbrev places_in : List Next → List ℕ
places_in nexts = map (λ (next : Next). next.place) nexts

from_numbers : (T : Table) (done : List Fired) (places : List ℕ) (nexts : List Next) → AreInNumbers T done places nexts → (next : Next) → next ∈ nexts → (next.place ∈ places) × IsInNumbers T done next.place next
from_numbers T done [] [] a next i = absurd i
from_numbers T done [] (m ∷ nexts) a next i = absurd a
from_numbers T done (p ∷ places) [] a next i = absurd i
from_numbers T done (p ∷ places) (m ∷ nexts) (x, a) next (inl e) =
    subst (λ (y : Next). (y.place ∈ (p ∷ places)) × IsInNumbers T done y.place y) (sym e) (inl x.0, subst (λ k. IsInNumbers T done k m) (sym x.0) x)
from_numbers T done (p ∷ places) (m ∷ nexts) (x, a) next (inr i) = let (j, y) = from_numbers T done places nexts a next i in (inr j, y)

to_numbers : (T : Table) (done : List Fired) (places : List ℕ) (nexts : List Next) → AreInNumbers T done places nexts → (i : ℕ) → i ∈ places → (next : Next) × (next ∈ nexts) × IsInNumbers T done i next
to_numbers T done [] nexts a i j = absurd j
to_numbers T done (p ∷ places) [] a i j = absurd a
to_numbers T done (p ∷ places) (m ∷ nexts) (x, a) i (inl e) = (m, inl refl, subst (λ k. IsInNumbers T done k m) (sym e) x)
to_numbers T done (p ∷ places) (m ∷ nexts) (x, a) i (inr j) = let (next, k, y) = to_numbers T done places nexts a i j in (next, inr k, y)

places_are : (T : Table) (done : List Fired) (places : List ℕ) (nexts : List Next) → AreInNumbers T done places nexts → places_in nexts ≡ places
places_are T done [] [] a = refl
places_are T done [] (m ∷ nexts) a = absurd a
places_are T done (p ∷ places) [] a = absurd a
places_are T done (p ∷ places) (m ∷ nexts) (x, a) = let e = x.0 in let r = places_are T done places nexts a in (λ i. e i ∷ r i)

pub ready_long : (T : Table) (done : List Fired) (places : List ℕ) (nexts : List Next) → AreInNumbers T done places nexts → length nexts ≡ length places
ready_long T done [] [] a = refl
ready_long T done [] (m ∷ nexts) a = absurd a
ready_long T done (p ∷ places) [] a = absurd a
ready_long T done (p ∷ places) (m ∷ nexts) (x, a) = ap suc (ready_long T done places nexts a)

times_sum : (p : ℕ) (xs : List ℕ) → times p xs ≡ sum_by (λ x. one_if (x == p)) xs
times_sum p [] = refl
times_sum p (x ∷ xs) = let e = times_sum p xs in let s = sum_by-cons (λ y. one_if (y == p)) x xs in omega (arith, e, s)

times_moved : (p : ℕ) (xs ys : List ℕ) → IsPermutation xs ys → times p ys ≡ times p xs
times_moved p xs ys m = times_sum p ys ∙ sum_by-IsPermutation (λ x. one_if (x == p)) xs ys m ∙ sym (times_sum p xs)

number_in : (T : Table) (ks ls : List ℕ) → AreNumbered T ks ls → (k : ℕ) → k ∈ ks → (l : ℕ) × (T k ≡ Some l)
number_in T [] ls a k i = absurd i
number_in T (j ∷ ks) [] a k i = absurd a
number_in T (j ∷ ks) (l ∷ ls) (e, a) k (inl d) = (l, ap T d ∙ e)
number_in T (j ∷ ks) (l ∷ ls) (e, a) k (inr i) = number_in T ks ls a k i

number_of : (T : Table) (ks ls : List ℕ) → AreNumbered T ks ls → (l : ℕ) → l ∈ ls → (k : ℕ) × (k ∈ ks) × (T k ≡ Some l)
number_of T [] [] a l i = absurd i
number_of T [] (m ∷ ls) a l i = absurd a
number_of T (k ∷ ks) [] a l i = absurd i
number_of T (k ∷ ks) (m ∷ ls) (e, a) l (inl d) = (k, inl refl, e ∙ ap (λ (j : ℕ). Some j) (sym d))
number_of T (k ∷ ks) (m ∷ ls) (e, a) l (inr i) = let (j, h, t) = number_of T ks ls a l i in (j, inr h, t)

numbers_for : (T : Table) (ks : List ℕ) → ((k : ℕ) → k ∈ ks → (l : ℕ) × (T k ≡ Some l)) → (ls : List ℕ) × AreNumbered T ks ls
numbers_for T [] all = ([], tt)
numbers_for T (k ∷ ks) all =
    let (l, e) = all k (inl refl) in
    let (ls, a) = numbers_for T ks (λ j i. all j (inr i)) in
    (l ∷ ls, (e, a))

one_path_back : (T : Table) → ((k j l : ℕ) → T k ≡ Some l → T j ≡ Some l → k ≡ j) → (ks js ls : List ℕ) → AreNumbered T ks ls → AreNumbered T js ls → ks ≡ js
one_path_back T one [] [] [] a b = refl
one_path_back T one [] [] (l ∷ ls) a b = absurd a
one_path_back T one [] (j ∷ js) [] a b = absurd b
one_path_back T one [] (j ∷ js) (l ∷ ls) a b = absurd a
one_path_back T one (k ∷ ks) js [] a b = absurd a
one_path_back T one (k ∷ ks) [] (l ∷ ls) a b = absurd b
one_path_back T one (k ∷ ks) (j ∷ js) (l ∷ ls) (e, a) (d, b) = let p = one k j l e d in let q = one_path_back T one ks js ls a b in (λ i. p i ∷ q i)

get_map : (done : List Fired) (i : ℕ) (d : Fired) → slice_get done i ≡ Some d → slice_get (map (λ (x : Fired). x.firing) done) i ≡ Some d.firing
get_map [] i d at = absurd cc
get_map (x ∷ done) zero d at = let e : x ≡ d = cc in ap (λ (y : Fired). Some y.firing) e
get_map (x ∷ done) (suc i) d at = get_map done i d at

one_at : (xs : List Firing) → AllApart xs → (i j : ℕ) (x : Firing) → slice_get xs i ≡ Some x → slice_get xs j ≡ Some x → i ≡ j
one_at [] a i j x p q = absurd cc
one_at (y ∷ xs) a zero zero x p q = refl
one_at (y ∷ xs) a zero (suc j) x p q = let e : y ≡ x = cc in absurd (a.0 (subst (λ z. z ∈ xs) (sym e) (in_at xs j x q)))
one_at (y ∷ xs) a (suc i) zero x p q = let e : y ≡ x = cc in absurd (a.0 (subst (λ z. z ∈ xs) (sym e) (in_at xs i x p)))
one_at (y ∷ xs) a (suc i) (suc j) x p q = ap suc (one_at xs a.1 i j x p q)

path_some : (done : List Fired) (i : ℕ) → 0 < length (path_at (paths_of done) i) → (d : Fired) × (slice_get done i ≡ Some d)
path_some [] i h = absurd (omega arith)
path_some (x ∷ done) zero h = (x, refl)
path_some (x ∷ done) (suc i) h = path_some done i h

lengths_at : (ps : List (List ℕ)) (i : ℕ) → get_or (map (λ (path : List ℕ). length path) ps) i 0 ≡ length (path_at ps i)
lengths_at [] i = refl
lengths_at (p ∷ ps) zero = refl
lengths_at (p ∷ ps) (suc i) = lengths_at ps i

reaches_one : (b c : ℕ) → 1 ≤ reaches b c → (0 < b) × (c ≡ 0)
reaches_one zero c h = absurd (omega arith)
reaches_one (suc b) zero h = (omega arith, refl)
reaches_one (suc b) (suc c) h = absurd (omega arith)

reaches_low : (b c : ℕ) → reaches b c ≤ 1
reaches_low zero c = omega arith
reaches_low (suc b) zero = omega arith
reaches_low (suc b) (suc c) = omega arith

reaches_at : (b c : ℕ) → 0 < b → c ≡ 0 → 1 ≤ reaches b c
reaches_at zero c h e = absurd (omega arith)
reaches_at (suc b) zero h e = omega arith
reaches_at (suc b) (suc c) h e = absurd (omega (arith, e))

-- ---- between the rounds

module _ (M : Machine) (users : List (Vec ℕ Global)) (now : Numbers) (missing : List ℕ) (passed n : ℕ) (x : IsRounding M users now missing passed n) where
  abbrev R : List Rule
  R = M.base.rules

  abbrev G : QGraph
  G = M.base.start

  abbrev fs : List Firing
  fs = fired M.state

  abbrev H : QGraph
  H = M.state.graph

  abbrev S : Stage
  S = stage_now now

  abbrev T : Table
  T = table_of now.arcs.items

  abbrev done : List Fired
  done = M.state.done

  abbrev origins : List ℕ
  origins = now.origins.items

  grown : Grown R G (firings S) S.graph
  grown = rounds_grown R G n S x.between.reached

  once : AllApart (firings S)
  once = rounds_apart R G n S x.between.reached

  one_back : (k j l : ℕ) → T k ≡ Some l → T j ≡ Some l → k ≡ j
  one_back k j l p q = let d : Some k ≡ Some j = sym ((x.traced.origin k l).0 p) ∙ (x.traced.origin j l).0 q in cc

  each_origin : (k : ℕ) → times k origins ≤ 1
  each_origin = each_once origins (λ l m k p q. let d : Some l ≡ Some m = sym ((x.traced.origin k l).1 p) ∙ (x.traced.origin k m).1 q in cc)

  each_passed : (k : ℕ) → times k (take passed origins) ≤ 1
  each_passed k = let a = each_origin k in let b = times-take k origins passed in omega (arith, a, b)

  all_uses : (i : ℕ) → times i (uses users origins) ≡ held (path_at (paths_of done) i) origins
  all_uses i = uses_held (paths_of done) users x.users_are i origins

  pub enough : (i : ℕ) → times i (uses users (drop passed origins)) ≤ get_or missing i 0
  enough i =
      let c = x.counts i in
      let h = uses_all users passed i origins in
      let e = all_uses i in
      let l = held_low origins each_origin (path_at (paths_of done) i) in
      omega (arith, c, h, e, l)

  pub within : (k : ℕ) → k ∈ drop passed origins → k < length H.arcs
  within k i =
      let (l, at) = place_of origins k (in_drop passed origins k i) in
      let h = table_within now.arcs.items k l ((x.traced.origin k l).1 at) in
      omega (arith, h, x.between.arcs_each)

  in_fired : (i : ℕ) (d : Fired) → slice_get done i ≡ Some d → d.firing ∈ fs
  in_fired i d at = in_map (λ (y : Fired). y.firing) done d (in_at done i d at)

  -- there is room for one round more
  pub rounds_fit : n + 1 < 2 ^ 32
  rounds_fit =
      let f = canonical.few R G fs H x.finished.recorded (firings S) S.graph grown once in
      let l = length-firings S in
      let m = length-map done (λ (y : Fired). y.firing) in
      let r = x.rounds in
      let g = x.finished.few in
      omega (arith, f, l, m, r, g)

  path_long : (i : ℕ) (d : Fired) → slice_get done i ≡ Some d → 0 < length d.firing.path
  path_long i d at =
      let (P, p) = at_of R G fs d.firing (in_fired i d at) in
      (stands R G fs H d.firing P x.finished.recorded.grown p).fires.path.some

  passed_uses : (i : ℕ) (d : Fired) → slice_get done i ≡ Some d → get_or missing i 0 + held d.firing.path (take passed origins) ≡ length d.firing.path
  passed_uses i d at =
      let c = x.counts i in
      let u = uses_held (paths_of done) users x.users_are i (take passed origins) in
      let p = path_there done i d at in
      let l = ap (λ (ks : List ℕ). length ks) p in
      let h = ap (λ (ks : List ℕ). held ks (take passed origins)) p in
      omega (arith, c, u, l, h)

  -- the firings of whose paths no arc was missing are those that are done
  done_before : (i : ℕ) (d : Fired) (ls : List ℕ) → slice_get done i ≡ Some d → AreNumbered T d.firing.path ls → (get_or missing i 0 ≡ 0) ↔ (in_numbers d.firing ls ∈ firings S)
  done_before i d ls at a = cases x.before
    where
      counted : get_or missing i 0 + held d.firing.path (take passed origins) ≡ length d.firing.path
      counted = passed_uses i d at

      cases : ((n ≡ 0) × (passed ≡ 0))
          ⊎ ((m : ℕ) × (B : Stage) × (F : List Firing) × (n ≡ suc m) × Rounds R G m B × Round R B.graph (firings B) F × (S ≡ after R (suc m) B F) × (passed ≡ length B.graph.arcs))
          → (get_or missing i 0 ≡ 0) ↔ (in_numbers d.firing ls ∈ firings S)
      cases (inl (z, p)) = (
        λ e. let h : held d.firing.path (take passed origins) ≡ 0 = ap (λ m. held d.firing.path (take m origins)) p ∙ held_none d.firing.path in
            absurd (omega (arith, counted, h, e, path_long i d at)),
        λ j. let s : S ≡ record { graph = G; done = [] } = subst (λ m. Rounds R G m S) z x.between.reached in
            absurd (subst (λ (X : Stage). in_numbers d.firing ls ∈ firings X) s j),
      )
      cases (inr (m, B, F, z, b, r, e, p)) =
          let (TB, NB, tb, nb) = canonical.tables R G fs H x.finished.recorded m B b in
          let t = subst (λ (X : Stage). IsTable R G fs H (firings X) X.graph T) e x.between.table in
          let first = canonical.first_round R G fs H x.finished.recorded m B b F r TB tb T t d.firing ls (in_fired i d at) a in (
            λ q. let all : (k : ℕ) → k ∈ d.firing.path → k ∈ take passed origins = held_all (take passed origins) each_passed d.firing.path (omega (arith, counted, q)) in
                let low : (l : ℕ) → l ∈ ls → l < length B.graph.arcs = (λ l j.
                let (k, h, s) = number_of T d.firing.path ls a l j in
                let (l', g, o) = in_take passed origins k (all k h) in
                let same : Some l ≡ Some l' = sym s ∙ (x.traced.origin k l').1 o in
                let is : l ≡ l' = cc in
                omega (arith, g, is, p)) in
                subst (λ (X : Stage). in_numbers d.firing ls ∈ firings X) (sym e) (first.1 (canonical.earlier R G fs H x.finished.recorded m B b F r TB tb T t d.firing.path ls a low)),
            λ j. let was = first.0 (subst (λ (X : Stage). in_numbers d.firing ls ∈ firings X) e j) in
                let h = all_held (take passed origins) d.firing.path (λ k q.
                let (l, s) = number_in TB d.firing.path ls was k q in
                let low : l < length B.graph.arcs = arc_low R G (firings B) fs B.graph H (rounds_grown R G m B b) (turned_arc ((tb k l).0 s)) in
                let later = canonical.later_numbers R G fs H x.finished.recorded m B b F r TB tb T t (k ∷ []) (l ∷ []) (s, tt) in
                take_in passed origins l k (omega (arith, low, p)) ((x.traced.origin k l).0 later.0)) in
                omega (arith, counted, h),
          )

  -- the arcs that hadn't passed pass
  module _ (left ready : List ℕ) (a : AreCountedDown missing (uses users (drop passed origins)) left [] ready) where
    counts_left : (i : ℕ) → get_or left i 0 + times i (uses users origins) ≡ length (path_at (paths_of done) i)
    counts_left i =
        let c = x.counts i in
        let h = uses_all users passed i origins in
        let d = a.counts i in
        omega (arith, c, h, d)

    ready_is : (i : ℕ) → i ∈ ready → (0 < get_or missing i 0) × (get_or left i 0 ≡ 0)
    ready_is i j = let t = times_in i ready j in let r = a.ready_are i in reaches_one (get_or missing i 0) (get_or left i 0) (omega (arith, t, r))

    ready_at : (i : ℕ) → 0 < get_or missing i 0 → get_or left i 0 ≡ 0 → i ∈ ready
    ready_at i h e = let r = a.ready_are i in let t = reaches_at (get_or missing i 0) (get_or left i 0) h e in in_times i ready (omega (arith, r, t))

    ready_once : (i : ℕ) → times i ready ≤ 1
    ready_once i = let r = a.ready_are i in let l = reaches_low (get_or missing i 0) (get_or left i 0) in omega (arith, r, l)

    -- none of the arcs of a path is missing exactly where all of them have numbers
    numbered_all : (i : ℕ) (d : Fired) → slice_get done i ≡ Some d → get_or left i 0 ≡ 0 → (ls : List ℕ) × AreNumbered T d.firing.path ls
    numbered_all i d at e =
        let c = counts_left i in
        let u = all_uses i in
        let p = path_there done i d at in
        let l = ap (λ (ks : List ℕ). length ks) p in
        let h = ap (λ (ks : List ℕ). held ks origins) p in
        numbers_for T d.firing.path (λ k j.
        let (m, s) = place_of origins k (held_all origins each_origin d.firing.path (omega (arith, c, u, l, h, e)) k j) in
        (m, (x.traced.origin k m).1 s))

    all_numbered : (i : ℕ) (d : Fired) (ls : List ℕ) → slice_get done i ≡ Some d → AreNumbered T d.firing.path ls → get_or left i 0 ≡ 0
    all_numbered i d ls at b =
        let c = counts_left i in
        let u = all_uses i in
        let p = path_there done i d at in
        let l = ap (λ (ks : List ℕ). length ks) p in
        let h = ap (λ (ks : List ℕ). held ks origins) p in
        let all = all_held origins d.firing.path (λ k j. let (m, s) = number_in T d.firing.path ls b k j in in_at origins m k ((x.traced.origin k m).0 s)) in
        omega (arith, c, u, l, h, all)

    pub ready_named : (i : ℕ) → i ∈ ready → IsReadyAt T done i
    ready_named i j =
        let (h, e) = ready_is i j in
        let c = x.counts i in
        let (d, at) = path_some done i (omega (arith, h, c)) in
        (d, at, numbered_all i d at e)

    one_place : (m o : Next) → IsInNumbers T done m.place m → IsInNumbers T done o.place o → key m.firing ≡ key o.firing → m.place ≡ o.place
    one_place m o (p, (d, at, (ls, b, e))) (q, (d', at', (ls', b', e'))) k =
        let class : AreLeftSidesInClass R = (λ rule i. (x.finished.accepted rule i).left.in_class) in
        let f = canonical.numbered_fires R G fs H x.finished.recorded (firings S) S.graph grown once T x.between.table d.firing ls (in_fired m.place d at) b in
        let f' = canonical.numbered_fires R G fs H x.finished.recorded (firings S) S.graph grown once T x.between.table d'.firing ls' (in_fired o.place d' at') b' in
        let same = one_firing R class S.graph.arcs (in_numbers d.firing ls) (in_numbers d'.firing ls') f f' (ap key (sym e) ∙ k ∙ ap key e') in
        let rule : d.firing.rule ≡ d'.firing.rule = ap (λ (y : Firing). y.rule) same in
        let values = ap (λ (y : Firing). y.values) same in
        let numbers : ls ≡ ls' = ap (λ (y : Firing). y.path) same in
        let path = one_path_back T one_back d.firing.path d'.firing.path ls' (subst (λ ns. AreNumbered T d.firing.path ns) numbers b) b' in
        let is : d.firing ≡ d'.firing = (λ i. record { rule = rule i; path = path i; values = values i }) in
        one_at fs x.finished.recorded.once m.place o.place d.firing (get_map done m.place d at) (get_map done o.place d' at' ∙ ap (λ (y : Firing). Some y) (sym is))

    ascends : (nexts : List Next) → NeverFalls nexts → ((next : Next) → next ∈ nexts → IsInNumbers T done next.place next) → ((p : ℕ) → times p (places_in nexts) ≤ 1) → Ascends Before (firings_in nexts)
    ascends [] rises each one = tt
    ascends (m ∷ nexts) rises each one = (
      λ f i. let (o, j, e) = mapped (λ (next : Next). next.firing) nexts f i in subst (λ y. Before m.firing y) (sym e) (above o j (total m.firing o.firing)),
      ascends nexts rises.1 (λ next i. each next (inr i)) (λ p. let h = one p in omega (arith, h)),
    )
      where
        above : (o : Next) → o ∈ nexts → (Before m.firing o.firing ⊎ Before o.firing m.firing) ⊎ (key m.firing ≡ key o.firing) → Before m.firing o.firing
        above o j (inl (inl b)) = b
        above o j (inl (inr b)) = absurd (rises.0 o j b)
        above o j (inr k) =
            let p = one_place m o (each m (inl refl)) (each o (inr j)) k in
            let t = times_in o.place (places_in nexts) (in_map (λ (next : Next). next.place) nexts o j) in
            let h = one o.place in
            let z = one-same m.place o.place p in
            absurd (omega (arith, t, h, z))

    module _ (nexts order : List Next) (are : AreInNumbers T done ready nexts) (moved : IsPermutation nexts order) (rises : NeverFalls order) where
      each_in : (next : Next) → next ∈ order → (next.place ∈ ready) × IsInNumbers T done next.place next
      each_in next i = from_numbers T done ready nexts are next (in_order nexts order moved next i)

      pub each_recorded : (next : Next) → next ∈ order → IsInNumbers T done next.place next
      each_recorded next i = (each_in next i).1

      pub is_next : IsNextBy T fs S (firings_in order)
      is_next = record {
        ascends = ascends order rises each_recorded (λ p.
            let o = ready_once p in
            let m = times_moved p (places_in nexts) (places_in order) (IsPermutation-map (λ (next : Next). next.place) nexts order moved) in
            let e = ap (λ (ks : List ℕ). times p ks) (places_are T done ready nexts are) in
            omega (arith, o, m, e));
        recorded = λ g i.
            let (next, j, e) = mapped (λ (next : Next). next.firing) order g i in
            let (p, (d, at, (ls, b, is))) = each_recorded next j in
            (d.firing, in_fired next.place d at, ls, b, e ∙ is);
        new = λ g i q.
            let (next, j, e) = mapped (λ (next : Next). next.firing) order g i in
            let (r, (p, (d, at, (ls, b, is)))) = each_in next j in
            let z = (done_before next.place d ls at b).1 (subst (λ y. y ∈ firings S) (e ∙ is) q) in
            omega (arith, (ready_is next.place r).0, z);
        all = λ f ls i b.
            let (d, j, e) = mapped (λ (y : Fired). y.firing) done f i in
            let (p, at) = place_of done d j in
            let b' = subst (λ (y : Firing). AreNumbered T y.path ls) e b in
            let none = all_numbered p d ls at b' in
            subst (λ (y : Firing). (in_numbers y ls ∈ firings S) ⊎ (in_numbers y ls ∈ firings_in order)) (sym e)
            (⊎_elim
            (λ h. inr (
            let (next, k, (q, (d', at', (ls', c, is)))) = to_numbers T done ready nexts are p (ready_at p h none) in
            let same : Some d' ≡ Some d = sym at' ∙ at in
            let same_d : d' ≡ d = cc in
            let same_ls : ls' ≡ ls = canonical.one_number T d.firing.path ls' ls (subst (λ (y : Fired). AreNumbered T y.firing.path ls') same_d c) b' in
            let f_is : next.firing ≡ in_numbers d.firing ls = is ∙ (λ i. in_numbers (same_d i).firing (same_ls i)) in
            subst (λ y. y ∈ firings_in order) f_is (in_map (λ (next : Next). next.firing) order next (in_other nexts order moved next k))))
            (λ h. inl ((done_before p d ls at b').0 (omega (arith, h))))
            (cases_lt 0 (get_or missing p 0)));
      }

      -- so a round begins
      pub starts : IsAtWork M now n S [] (firings_in order)
      starts = record {
        finished = x.finished;
        under = canonical.begins R G fs H x.finished.recorded n S (firings_in order) T (table_of now.nodes.items) x.between.reached x.between.table x.between.node_table is_next;
        stage = refl;
        arcs_each = x.between.arcs_each;
        nodes_each = x.between.nodes_each;
        traced = x.traced;
      }

      -- and behind it the next one comes
      module _ (new : Numbers) (w : IsAtWork M new n S (firings_in order) []) (stay : (ks ls : List ℕ) → AreNumbered T ks ls → AreNumbered (table_of new.arcs.items) ks ls) where
        long : length new.placed.items ≡ length now.placed.items + length order
        long =
            let e = ap (λ (X : Stage). length X.done) w.stage in
            let l = length-after R (suc n) S (firings_in order) in
            let m = length-map order (λ (next : Next). next.firing) in
            omega (arith, e, l, m)

        ends : Rounds R G (suc n) (after R (suc n) S (firings_in order))
            × IsTable R G fs H (firings (after R (suc n) S (firings_in order))) (after R (suc n) S (firings_in order)).graph (table_of new.arcs.items)
            × IsNodeTable R G fs H (firings (after R (suc n) S (firings_in order))) (after R (suc n) S (firings_in order)).graph (table_of new.nodes.items)
        ends = canonical.ends_by R G fs H x.finished.recorded n S (firings_in order) (table_of new.arcs.items) (table_of new.nodes.items) w.under

        reached : Rounds R G (suc n) (stage_now new)
        reached = subst (Rounds R G (suc n)) (sym w.stage) ends.0

        pub placed_more : 0 < length order → length now.placed.items < length new.placed.items
        placed_more h = omega (arith, long, h)

        pub placed_few : length new.placed.items ≤ length done
        placed_few =
            let f = canonical.few R G fs H x.finished.recorded (firings (stage_now new)) (stage_now new).graph (rounds_grown R G (suc n) (stage_now new) reached) (rounds_apart R G (suc n) (stage_now new) reached) in
            let l = length-firings (stage_now new) in
            let m = length-map done (λ (y : Fired). y.firing) in
            omega (arith, f, l, m)

        pub rounding_next : 0 < length order → IsRounding M users new left (length origins) (suc n)
        rounding_next h = record {
          finished = x.finished;
          users_are = x.users_are;
          between = record {
            recorded = x.finished.recorded;
            reached = reached;
            arcs_each = w.arcs_each;
            nodes_each = w.nodes_each;
            table = subst (λ (X : Stage). IsTable R G fs H (firings X) X.graph (table_of new.arcs.items)) (sym w.stage) ends.1;
            node_table = subst (λ (X : Stage). IsNodeTable R G fs H (firings X) X.graph (table_of new.nodes.items)) (sym w.stage) ends.2;
          };
          traced = w.traced;
          before = inr (
            n,
            S,
            firings_in order,
            refl,
            x.between.reached,
            canonical.next_by R G fs H x.finished.recorded n S x.between.reached T x.between.table (firings_in order) is_next,
            w.stage,
            x.traced.each,
          );
          passed_few =
              let e = ap (λ (ks : List ℕ). length ks) (same_first origins new.origins.items (λ l k at. (w.traced.origin k l).0 (stay (k ∷ []) (l ∷ []) ((x.traced.origin k l).1 at, tt)).0)) in
              let f = first_few (length origins) new.origins.items in
              omega (arith, e, f);
          counts = λ i.
              let same = same_first origins new.origins.items (λ l k at. (w.traced.origin k l).0 (stay (k ∷ []) (l ∷ []) ((x.traced.origin k l).1 at, tt)).0) in
              let c = counts_left i in
              let e = ap (λ (ks : List ℕ). times i (uses users ks)) same in
              omega (arith, c, e);
          rounds = let r = x.rounds in let p = placed_more h in omega (arith, r, p);
        }

    -- where none is ready, all is done
    pub all_done : ready ≡ [] → IsFinal M now.arcs.items now.nodes.items S
    all_done e = record {
      rounds = n;
      between = x.between;
      closed = canonical.next_by R G fs H x.finished.recorded n S x.between.reached T x.between.table []
          (is_next [] [] (subst (λ (is : List ℕ). AreInNumbers T done is []) (sym e) tt) (IsPermutation-refl []) tt);
    }

-- ---- paths of a finished run

pub path_low : (M : Machine) → IsFinished M → (path : List ℕ) → path ∈ paths_of M.state.done → (k : ℕ) → k ∈ path → k < length M.state.graph.arcs
path_low M z path i k j =
    let (d, q, e) = mapped (λ (d : Fired). d.firing.path) M.state.done path i in
    let (P, p) = at_of M.base.rules M.base.start (fired M.state) d.firing (in_map (λ (y : Fired). y.firing) M.state.done d q) in
    let s = stands M.base.rules M.base.start (fired M.state) M.state.graph d.firing P z.recorded.grown p in
    fires_low M.base.rules M.state.graph.arcs d.firing (fires_stays M.base.rules (within_trans (within_adds M.base.rules P d.firing) s.after) s.fires) k (subst (λ ks. k ∈ ks) e j)

-- ---- at the start

opening_own : (b : Bool) (k l : ℕ) → (if b then Some k else None) ≡ Some l → (b ≡ true) × (k ≡ l)
opening_own true k l e = (refl, cc)
opening_own false k l e = absurd cc

from_own : (n m l : ℕ) → l < m → slice_get (from_on n m) l ≡ Some (n + l)
from_own n zero l h = absurd (omega arith)
from_own n (suc m) zero h = let e : n ≡ n + 0 = omega arith in ap (λ (k : ℕ). Some k) e
from_own n (suc m) (suc l) h = let e : n + 1 + l ≡ n + suc l = omega arith in from_own (n + 1) m l (omega (arith, h)) ∙ ap (λ (k : ℕ). Some k) e

module _ (M : Machine) (finished : IsFinished M) (users : List (Vec ℕ Global)) (users_are : AreUsers (paths_of M.state.done) users) (missing : List ℕ)
    (lengths : missing ≡ map (λ (path : List ℕ). length path) (paths_of M.state.done)) (now : Numbers) (between : IsBetween M now.arcs.items now.nodes.items 0 (stage_now now))
    (origins_are : now.origins.items ≡ from_on 0 (length M.base.start.arcs)) where
  at_start : stage_now now ≡ record { graph = M.base.start; done = [] }
  at_start = between.reached

  edges_are : now.edges.items ≡ M.base.start.arcs
  edges_are = ap (λ (X : Stage). X.graph.arcs) at_start

  same_table : (k l : ℕ) → (table_of now.arcs.items k ≡ Some l) ↔ (opening_table M.base.start k ≡ Some l)
  same_table k l =
      let t = subst (λ (X : Stage). IsTable M.base.rules M.base.start (fired M.state) M.state.graph (firings X) X.graph (table_of now.arcs.items)) at_start between.table in
      let o = canonical.table_opening M.base.rules M.base.start (fired M.state) M.state.graph in
      (λ e. (o k l).1 ((t k l).0 e), λ e. (t k l).1 ((o k l).0 e))

  origin_there : (k l : ℕ) → table_of now.arcs.items k ≡ Some l → slice_get now.origins.items l ≡ Some k
  origin_there k l e =
      let (low, same) = opening_own (ltb k (length M.base.start.arcs)) k l ((same_table k l).0 e) in
      let h = ltb-true k (length M.base.start.arcs) low in
      let z : 0 + l ≡ k = omega (arith, same) in
      ap (λ (ks : List ℕ). slice_get ks l) origins_are ∙ from_own 0 (length M.base.start.arcs) l (omega (arith, h, same)) ∙ ap (λ (j : ℕ). Some j) z

  origin_back : (k l : ℕ) → slice_get now.origins.items l ≡ Some k → table_of now.arcs.items k ≡ Some l
  origin_back k l at =
      let there : slice_get (from_on 0 (length M.base.start.arcs)) l ≡ Some k = ap (λ (ks : List ℕ). slice_get ks l) (sym origins_are) ∙ at in
      let h = slice_get_within (from_on 0 (length M.base.start.arcs)) l k there in
      let low : l < length M.base.start.arcs = omega (arith, h, from_long 0 (length M.base.start.arcs)) in
      let d : Some (0 + l) ≡ Some k = sym (from_own 0 (length M.base.start.arcs) l low) ∙ there in
      let e : 0 + l ≡ k = cc in
      let is : k ≡ l = omega (arith, e) in
      (same_table k l).1 (ap (λ b. if b then Some k else None) (lt-ltb k (length M.base.start.arcs) (omega (arith, low, is))) ∙ ap (λ (j : ℕ). Some j) is)

  pub rounding_first : IsRounding M users now missing 0 0
  rounding_first = record {
    finished = finished;
    users_are = users_are;
    between = between;
    traced = record {
      each = ap (λ (ks : List ℕ). length ks) origins_are ∙ from_long 0 (length M.base.start.arcs) ∙ ap (λ (arcs : List Arc). length arcs) (sym edges_are);
      origin = λ k l. (origin_there k l, origin_back k l);
    };
    before = inl (refl, refl);
    passed_few = omega arith;
    counts = λ i.
        let e = ap (λ (ns : List ℕ). get_or ns i 0) lengths in
        let l = lengths_at (paths_of M.state.done) i in
        omega (arith, e, l);
    rounds = omega arith;
  }
