-- How many arcs wait, and how many are still to be claimed at most, behind a claim and behind a publication.
use Rattle.std.proofs.Common.{◌≡◌, ℕ, zero, suc, ◌+◌, ◌<◌, ◌≤◌, Bool, true, false, List, [], ◌∷◌, ◌++◌, length, map, set, refl, ap, arith, Some, slice_get, length-append, eqb}
use Rattle.std.specs.Prelude.{if◌then◌else◌}
use Rattle.qs_firing.specs.Firings.{Firing}
use Rattle.qs_firing.specs.Adding.{added}
use Rattle.qs_firing.proofs.Building.{built_few}
use Rattle.qs_firing.proofs.Merging.{length-added}
use Rattle.qs_core.specs.declared.step.Step.TheVariants as step
use Rattle.qs_core.specs.declared.step.Status.{Status}
use Rattle.qs_core.specs.declared.step.Status.TheVariants as status
use Rattle.qs_core.specs.Core.{all_wait, rest_one, fired_at, HasClaim, after_claim, after_publish}
use Rattle.qs_core.specs.Runs.{Machine, with_step}
use Rattle.qs_core.proofs.Machines.{still_waits}
use Rattle.qs_worker.specs.working.Turns.{waiting_one, waiting, left_to_claim, AreAccepted}

waiting-append : (xs ys : List Status) → waiting (xs ++ ys) ≡ waiting xs + waiting ys
waiting-append [] ys = omega arith
waiting-append (x ∷ xs) ys = omega (arith, waiting-append xs ys)

waiting-all_wait : {X : Type 0} (xs : List X) → waiting (all_wait xs) ≡ length xs
waiting-all_wait [] = refl
waiting-all_wait (x ∷ xs) = omega (arith, waiting-all_wait xs)

one_rested : (i : ℕ) (s : Status) → waiting_one (rest_one i s) ≡ waiting_one s
one_rested i status.Waiting = refl
one_rested i status.Done = refl
one_rested i (status.Claimed j k) = tested (eqb j i)
  where
    tested : (b : Bool) → waiting_one (if b then status.Done else status.Claimed j k) ≡ 0
    tested true = refl
    tested false = refl

waiting-rested : (i : ℕ) (xs : List Status) → waiting (map (rest_one i) xs) ≡ waiting xs
waiting-rested i [] = refl
waiting-rested i (x ∷ xs) = omega (arith, one_rested i x, waiting-rested i xs)

-- one arc less waits where a waiting one is claimed
one_less : (xs : List Status) (m i k : ℕ) → slice_get xs m ≡ Some status.Waiting → waiting xs ≡ waiting (set xs m (status.Claimed i k)) + 1
one_less [] m i k e = absurd cc
one_less (x ∷ xs) zero i k e = let d : x ≡ status.Waiting = cc in omega (arith, ap waiting_one d)
one_less (x ∷ xs) (suc m) i k e = omega (arith, one_less xs m i k e)

-- and none less where it was claimed before
none_less : (xs : List Status) (m i k j l : ℕ) → slice_get xs m ≡ Some (status.Claimed j l) → waiting (set xs m (status.Claimed i k)) ≡ waiting xs
none_less [] m i k j l e = absurd cc
none_less (x ∷ xs) zero i k j l e = let d : x ≡ status.Claimed j l = cc in omega (arith, ap waiting_one d)
none_less (x ∷ xs) (suc m) i k j l e = omega (arith, none_less xs m i k j l e)

pub left_claimed : (M N : Machine) (m : ℕ) → slice_get M.state.status m ≡ Some status.Waiting → N ≡ with_step M (step.Claim 0 m) (after_claim M.state 0 m) → left_to_claim N < left_to_claim M
left_claimed M N m waits is =
    let now = ap left_to_claim is in
    let less = one_less (map (rest_one 0) M.state.status) m 0 0 (still_waits 0 M.state.status m waits) in
    let same = waiting-rested 0 M.state.status in
    omega arith

pub left_published : (M : Machine) (m k : ℕ) (f : Firing) → AreAccepted M.base.rules → HasClaim M.state 0 m k → length M.state.done < M.base.limit
    → left_to_claim (with_step M (step.Publish 0) (after_publish M.base.rules M.state 0 m k f)) ≤ left_to_claim M
left_published M m k f accepted claim few =
    let R = M.base.rules in
    let G = M.state.graph in
    let table = waiting-append (set M.state.status m (status.Claimed 0 (k + 1))) (all_wait (added R G f)) in
    let more = waiting-all_wait (added R G f) in
    let same = none_less M.state.status m 0 (k + 1) 0 k claim in
    let built = built_few R accepted f in
    let fewer = length-added R G f in
    let one = length-append M.state.done (fired_at R G f ∷ []) in
    omega arith
