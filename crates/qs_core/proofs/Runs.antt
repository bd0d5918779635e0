-- Runs: what every state keeps is kept behind them, and they are determined, limited and, where they close, complete.
use Rattle.std.proofs.Common.{◌≡◌, ℕ, zero, suc, ◌+◌, Bool, true, false, List, [], ◌∷◌, ◌++◌, length, map, set, refl, sym, ◌∙◌, ap, subst, ⊎_elim, arith, Option, Some, None, slice_get, eqb, eqb-true}
use Rattle.std.specs.Prelude.{if◌then◌else◌, ◌↔◌}
use Rattle.qs_tree.proofs.Elements.{exists_at, set_other, set_cases}
use Rattle.qs_tree.specs.Lists.{◌∈◌}
use Rattle.qs_graph.proofs.Paths.{slice_get-append}
use Rattle.qs_firing.specs.Firings.{Firing, Fires}
use Rattle.qs_firing.specs.Adding.{added}
use Rattle.qs_firing.specs.Work.{Work}
use Rattle.qs_firing.proofs.Works.{fires_of_work, work_low, work_of, one_work}
use Rattle.qs_core.specs.declared.step.Step.{Step}
use Rattle.qs_core.specs.declared.step.Step.TheVariants as step
use Rattle.qs_core.specs.declared.step.Stop.{Stop}
use Rattle.qs_core.specs.declared.step.Stop.TheVariants as stop
use Rattle.qs_core.specs.declared.step.Status.{Status}
use Rattle.qs_core.specs.declared.step.Status.TheVariants as status
use Rattle.qs_core.specs.Core.{Base, CoreState, fired, opening, all_wait, rest_one, IsClosed, HasClaim, Next, after_publish, after_stop}
use Rattle.qs_core.specs.Runs.{Makes, Stops, seat_of, Steps, StopsIfGiven, Run}
use Rattle.qs_core.specs.Keeps.{Keeps}
use Rattle.qs_core.proofs.Places.{all_waiting, more_cases, rest_cases}
use Rattle.qs_core.proofs.Keeping.{keeps_opening, keeps_stopped, keeps_claim, keeps_rest, keeps_publish}

pub keeps_step : (B : Base) (S : CoreState) (v : Step) (T : CoreState) → Makes B S v T → Keeps B S → Keeps B T
keeps_step B S (step.Claim i m) T (may, is) K = subst (Keeps B) (sym is) (keeps_claim B S i m may.seat may.free may.waits K)
keeps_step B S (step.Rest i) T (may, is) K = subst (Keeps B) (sym is) (keeps_rest B S i may.free K)
keeps_step B S (step.Publish i) T (may, is) K = subst (Keeps B) (sym is) (keeps_publish B S i may.next may.few K)

pub keeps_stop : (B : Base) (S : CoreState) (s : Stop) (T : CoreState) → Stops B S s T → Keeps B S → Keeps B T
keeps_stop B S (stop.Over i) T (may, is) K = subst (Keeps B) (sym is) (keeps_stopped B S (stop.Over i) K)
keeps_stop B S (stop.Halted i) T (may, is) K = subst (Keeps B) (sym is) (keeps_stopped B S (stop.Halted i) K)

pub keeps_steps : (B : Base) (S : CoreState) (vs : List Step) (T : CoreState) → Steps B S vs T → Keeps B S → Keeps B T
keeps_steps B S [] T e K = subst (Keeps B) e K
keeps_steps B S (v ∷ vs) T (U, s, r) K = keeps_steps B U vs T r (keeps_step B S v U s K)

keeps_stop_if_given : (B : Base) (S : CoreState) (o : Option Stop) (T : CoreState) → StopsIfGiven B S o T → Keeps B S → Keeps B T
keeps_stop_if_given B S None T e K = subst (Keeps B) e K
keeps_stop_if_given B S (Some s) T r K = keeps_stop B S s T r K

-- every core state keeps them
pub keeps : (B : Base) (journal : List Step) (last : Option Stop) (T : CoreState) → Run B journal last T → Keeps B T
keeps B journal last T r = keeps_stop_if_given B r.going last T r.stop (keeps_steps B (opening B) journal r.going r.steps (keeps_opening B))

-- a step changes only its own seat's claims
pub status_of_rested : (i j k : ℕ) → (i ≡ j → ⊥) → (xs : List Status) (m : ℕ) → slice_get xs m ≡ Some (status.Claimed j k) → slice_get (map (rest_one i) xs) m ≡ Some (status.Claimed j k)
status_of_rested i j k ne [] m e = absurd cc
status_of_rested i j k ne (x ∷ xs) (suc m) e = status_of_rested i j k ne xs m e
status_of_rested i j k ne (x ∷ xs) zero e = let d : x ≡ status.Claimed j k = cc in ap (λ y. Some (rest_one i y)) d ∙ tested (eqb j i) refl
  where
    tested : (b : Bool) → eqb j i ≡ b → Some (if b then status.Done else status.Claimed j k) ≡ Some (status.Claimed j k)
    tested true t = let e = eqb-true j i t in absurd (ne (sym e))
    tested false t = refl

back_rested : (i j k : ℕ) (xs : List Status) (m : ℕ) → slice_get (map (rest_one i) xs) m ≡ Some (status.Claimed j k) → slice_get xs m ≡ Some (status.Claimed j k)
back_rested i j k xs m e = ⊎_elim (λ (d, n). d) (λ (l, d, n). absurd cc) (rest_cases i xs m (status.Claimed j k) e)

pub own : (B : Base) (S : CoreState) (v : Step) (T : CoreState) → Makes B S v T → (j m k : ℕ) → (seat_of v ≡ j → ⊥) → HasClaim S j m k ↔ HasClaim T j m k
own B S (step.Claim i n) T (may, is) j m k ne = subst (λ (X : CoreState). HasClaim S j m k ↔ HasClaim X j m k) (sym is) (there, back)
  where
    there : slice_get S.status m ≡ Some (status.Claimed j k) → slice_get (set (map (rest_one i) S.status) n (status.Claimed i 0)) m ≡ Some (status.Claimed j k)
    there e = set_other (map (rest_one i) S.status) n (status.Claimed i 0) m (status.Claimed j k) (λ d. let w = may.waits in let c = ap (slice_get S.status) d in cc) (status_of_rested i j k ne S.status m e)

    back : slice_get (set (map (rest_one i) S.status) n (status.Claimed i 0)) m ≡ Some (status.Claimed j k) → slice_get S.status m ≡ Some (status.Claimed j k)
    back e = ⊎_elim (λ (d, c). absurd (ne (let same : i ≡ j = cc in same))) (λ (d, c). back_rested i j k S.status m c) (set_cases (map (rest_one i) S.status) n (status.Claimed i 0) m (status.Claimed j k) e)
own B S (step.Rest i) T (may, is) j m k ne =
    subst (λ (X : CoreState). HasClaim S j m k ↔ HasClaim X j m k) (sym is)
    (status_of_rested i j k ne S.status m, back_rested i j k S.status m)
own B S (step.Publish i) T (may, is) j m k ne = subst (λ (X : CoreState). HasClaim S j m k ↔ HasClaim X j m k) (sym is) (there, back)
  where
    there : slice_get S.status m ≡ Some (status.Claimed j k) → slice_get (after_publish B.rules S i may.next.arc may.next.k may.next.firing).status m ≡ Some (status.Claimed j k)
    there e = slice_get-append (set S.status may.next.arc (status.Claimed i (may.next.k + 1))) (all_wait (added B.rules S.graph may.next.firing)) m (status.Claimed j k)
        (set_other S.status may.next.arc (status.Claimed i (may.next.k + 1)) m (status.Claimed j k) (λ d. ne (let w = may.next.claim in let c = ap (slice_get S.status) d in let same : i ≡ j = cc in same)) e)

    back : slice_get (after_publish B.rules S i may.next.arc may.next.k may.next.firing).status m ≡ Some (status.Claimed j k) → slice_get S.status m ≡ Some (status.Claimed j k)
    back e = ⊎_elim
        (λ d. ⊎_elim (λ (x, c). absurd (ne (let same : i ≡ j = cc in same))) (λ (x, c). c) (set_cases S.status may.next.arc (status.Claimed i (may.next.k + 1)) m (status.Claimed j k) d))
        (λ (h, (p, d)). let c = all_waiting (added B.rules S.graph may.next.firing) p (status.Claimed j k) d in absurd cc)
        (more_cases (set S.status may.next.arc (status.Claimed i (may.next.k + 1))) (all_wait (added B.rules S.graph may.next.firing)) m (status.Claimed j k) e)

-- the state behind a run is determined
same_publish : (B : Base) (S : CoreState) (i : ℕ) (n m : Next B S i) → n.arc ≡ m.arc → n.k ≡ m.k → n.firing ≡ m.firing
    → after_publish B.rules S i n.arc n.k n.firing ≡ after_publish B.rules S i m.arc m.k m.firing
same_publish B S i n m a k f = λ x. after_publish B.rules S i (a x) (k x) (f x)

-- a seat has one next firing
pub one_next : (B : Base) (S : CoreState) (i : ℕ) → Keeps B S → (n m : Next B S i) → (n.arc ≡ m.arc) × (n.k ≡ m.k) × (n.firing ≡ m.firing)
one_next B S i K n m =
    let a : n.arc ≡ m.arc = K.one_claim n.arc m.arc i n.k m.k n.claim m.claim in
    let c : Some (status.Claimed i n.k) ≡ Some (status.Claimed i m.k) = sym n.claim ∙ ap (slice_get S.status) a ∙ m.claim in
    let k : n.k ≡ m.k = cc in
    let w : n.work ≡ m.work = one_work B.rules n.is (subst (λ x. Work B.rules S.graph.arcs x m.work) (sym a) m.is) in
    let g : Some n.firing ≡ Some m.firing = sym n.at ∙ ap (λ x. slice_get n.work x) k ∙ ap (λ (xs : List Firing). slice_get xs m.k) w ∙ m.at in
    let f : n.firing ≡ m.firing = cc in
    (a, k, f)

one_step : (B : Base) (S : CoreState) (v : Step) (T U : CoreState) → Keeps B S → Makes B S v T → Makes B S v U → T ≡ U
one_step B S (step.Claim i m) T U K (may, is) (may', is') = is ∙ sym is'
one_step B S (step.Rest i) T U K (may, is) (may', is') = is ∙ sym is'
one_step B S (step.Publish i) T U K (may, is) (may', is') =
    let (a, k, f) = one_next B S i K may.next may'.next in
    is ∙ same_publish B S i may.next may'.next a k f ∙ sym is'

one_stop : (B : Base) (S : CoreState) (s : Stop) (T U : CoreState) → Stops B S s T → Stops B S s U → T ≡ U
one_stop B S (stop.Over i) T U (may, is) (may', is') = is ∙ sym is'
one_stop B S (stop.Halted i) T U (may, is) (may', is') = is ∙ sym is'

one_stop_if_given : (B : Base) (S : CoreState) (o : Option Stop) (T U : CoreState) → StopsIfGiven B S o T → StopsIfGiven B S o U → T ≡ U
one_stop_if_given B S None T U t u = sym t ∙ u
one_stop_if_given B S (Some s) T U t u = one_stop B S s T U t u

pub one_way : (B : Base) (S : CoreState) (vs : List Step) (T U : CoreState) → Keeps B S → Steps B S vs T → Steps B S vs U → T ≡ U
one_way B S [] T U K e d = sym e ∙ d
one_way B S (v ∷ vs) T U K (X, s, r) (Y, t, q) =
    let e : Y ≡ X = one_step B S v Y X K t s in
    one_way B X vs T U (keeps_step B S v X s K) r (subst (λ Z. Steps B Z vs U) e q)

pub one_run : (B : Base) (journal : List Step) (last : Option Stop) (T U : CoreState) → Run B journal last T → Run B journal last U → T ≡ U
one_run B journal last T U t u =
    let e : u.going ≡ t.going = one_way B (opening B) journal u.going t.going (keeps_opening B) u.steps t.steps in
    one_stop_if_given B t.going last T U t.stop (subst (λ X. StopsIfGiven B X last U) e u.stop)

-- one step more
pub steps_more : (B : Base) (S : CoreState) (vs : List Step) (T : CoreState) (v : Step) (U : CoreState) → Steps B S vs T → Makes B T v U → Steps B S (vs ++ v ∷ []) U
steps_more B S [] T v U e m = (U, subst (λ X. Makes B X v U) (sym e) m, refl)
steps_more B S (w ∷ ws) T v U (X, s, r) m = (X, s, steps_more B X ws T v U r m)

-- in a closed state all firings are done
pub closed_all : (B : Base) (S : CoreState) → Keeps B S → IsClosed S → (f : Firing) → Fires B.rules S.graph.arcs f → f ∈ fired S
closed_all B S K c f r =
    let (m, w) = work_of B.rules S.graph.arcs f r in
    let (s, at) = exists_at S.status m (omega (arith, K.status_each, work_low B.rules w)) in
    K.of_done m (at ∙ ap Some (c.all m s at)) f w

-- what is done fires over the last arcs
pub done_fires : (B : Base) (S : CoreState) → Keeps B S → (f : Firing) → f ∈ fired S → Fires B.rules S.graph.arcs f
done_fires B S K f i = let (m, w) = K.placed f i in fires_of_work B.rules w

-- no step makes a stop
pub no_stop_made : (B : Base) (S : CoreState) (v : Step) (T : CoreState) → Makes B S v T → T.stop ≡ None
no_stop_made B S (step.Claim i m) T (may, is) = ap (λ (X : CoreState). X.stop) is ∙ may.going
no_stop_made B S (step.Rest i) T (may, is) = ap (λ (X : CoreState). X.stop) is ∙ may.going
no_stop_made B S (step.Publish i) T (may, is) = ap (λ (X : CoreState). X.stop) is ∙ may.going

pub steps_going : (B : Base) (S : CoreState) (vs : List Step) (T : CoreState) → Steps B S vs T → S.stop ≡ None → T.stop ≡ None
steps_going B S [] T e g = ap (λ (X : CoreState). X.stop) (sym e) ∙ g
steps_going B S (v ∷ vs) T (U, s, r) g = steps_going B U vs T r (no_stop_made B S v U s)

over_shown : (B : Base) (S : CoreState) (o : Option Stop) (T : CoreState) (i : ℕ) → StopsIfGiven B S o T → S.stop ≡ None → T.stop ≡ Some (stop.Over i) → (length T.done ≡ B.limit) × Next B T i
over_shown B S None T i e g d = let n : S.stop ≡ Some (stop.Over i) = ap (λ (X : CoreState). X.stop) e ∙ d in absurd cc
over_shown B S (Some (stop.Halted j)) T i (may, is) g d = let e : Some (stop.Halted j) ≡ Some (stop.Over i) = sym (ap (λ (X : CoreState). X.stop) is) ∙ d in absurd cc
over_shown B S (Some (stop.Over j)) T i (may, is) g d =
    let e : Some (stop.Over j) ≡ Some (stop.Over i) = sym (ap (λ (X : CoreState). X.stop) is) ∙ d in
    let same : j ≡ i = cc in
    subst (λ (X : CoreState). (length X.done ≡ B.limit) × Next B X i) (sym is)
    (subst (λ x. (length S.done ≡ B.limit) × Next B (after_stop S (stop.Over j)) x) same
    (may.full, record { arc = may.next.arc; k = may.next.k; claim = may.next.claim; work = may.next.work; is = may.next.is; firing = may.next.firing; at = may.next.at }))

pub over_shows : (B : Base) (journal : List Step) (last : Option Stop) (T : CoreState) → Run B journal last T → (i : ℕ) → T.stop ≡ Some (stop.Over i) → (length T.done ≡ B.limit) × Next B T i
over_shows B journal last T r i d = over_shown B r.going last T i r.stop (steps_going B (opening B) journal r.going r.steps refl) d
