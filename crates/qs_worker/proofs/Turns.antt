-- A turn of the one seat: it claims an arc or finds that every arc is done, and publishes the firings of its work.
use Rattle.std.proofs.Common.{◌≡◌, ℕ, ◌+◌, ◌<◌, ◌≤◌, true, false, [], ◌∷◌, length, map, set, refl, sym, ◌∙◌, ap, subst, inl, inr, ⊎_elim, arith, Option, Some, None, slice_get, length-append}
use Rattle.std.specs.Option.{option_map}
use Rattle.std.proofs.lemmas.Option.{slice_get_within}
use Rattle.std.proofs.lemmas.List.{length-map}
use Rattle.qs_tree.proofs.Elements.{exists_at, set_here, at_mapped}
use Rattle.qs_graph.proofs.Paths.{slice_get-append}
use Rattle.qs_firing.specs.Adding.{added}
use Rattle.qs_firing.specs.Work.{WithTrees, WorkWithTrees, IsRightFor}
use Rattle.qs_core.specs.declared.step.Step.TheVariants as step
use Rattle.qs_core.specs.declared.step.Stop.{Stop}
use Rattle.qs_core.specs.declared.step.Stop.TheVariants as stop
use Rattle.qs_core.specs.declared.step.Status.{Status}
use Rattle.qs_core.specs.declared.step.Status.TheVariants as status
use Rattle.qs_core.specs.declared.answers.End.{End}
use Rattle.qs_core.specs.declared.answers.End.TheVariants as end
use Rattle.qs_core.specs.declared.answers.Claim.{Claim}
use Rattle.qs_core.specs.declared.answers.Claim.TheVariants as claim
use Rattle.qs_core.specs.declared.answers.Put.{Put}
use Rattle.qs_core.specs.declared.answers.Put.TheVariants as put
use Rattle.qs_core.specs.Core.{Base, CoreState, opening, all_wait, rest_one, HasClaim, NoneWaits, Next, IsClosed, after_rest, after_claim, after_publish, fired_at}
use Rattle.qs_core.specs.Runs.{Machine, with_step, IsReplayed, MayClaim, MayRest, MayStopOver, Makes}
use Rattle.qs_core.specs.Answers.{opened, end_of_stop, RestsIfClaimed, IsClaimed, IsPublished}
use Rattle.qs_core.specs.Keeps.{Keeps}
use Rattle.qs_core.proofs.Places.{all_waiting, rest_cases}
use Rattle.qs_core.proofs.Runs.{keeps}
use Rattle.qs_core.proofs.Machines.{replayed_step, replayed_stop}
use Rattle.qs_core.proofs.Staying.{free_worked, right_stays}
use Rattle.qs_worker.specs.working.Turns.{AreAccepted, IsBetween, IsNext, IsPartly, IsWorked}
use Rattle.qs_worker.proofs.Waiting.{left_published}

-- a run that goes on wasn't stopped
pub not_stopped : (o : Option Stop) (e : End) → o ≡ None → option_map end_of_stop o ≡ Some e → ⊥
not_stopped o e none stopped = let x : None ≡ Some e = sym (ap (option_map end_of_stop) none) ∙ stopped in cc

kept : (M : Machine) → IsReplayed M → Keeps M.base M.state
kept M run = keeps M.base M.journal M.state.stop M.state run

-- at the opening the seat is free
pub between_opened : (B : Base) (M : Machine) → M ≡ opened B → IsBetween B M
between_opened B M is = subst (IsBetween B) (sym is) (record {
  base = refl;
  replayed = record { going = opening B; steps = refl; stop = refl };
  going = refl;
  free = λ m k e. let w = all_waiting B.start.arcs m (status.Claimed 0 k) e in absurd cc;
})

-- a claim that finds no arc
module _ (M N : Machine) (between : IsBetween M.base M) (alone : M.base.seats ≡ 1) (none_waits : NoneWaits M.state) where
  the_seat : (m j k : ℕ) → HasClaim M.state j m k → j ≡ 0
  the_seat m j k c = let low = (kept M between.replayed).seated m j k c in omega arith

  done_rested : (m : ℕ) (s : Status) → slice_get M.state.status m ≡ Some s → ((k : ℕ) → s ≡ status.Claimed 0 k → ⊥) → s ≡ status.Done
  done_rested m status.Waiting at never = absurd (none_waits m at)
  done_rested m (status.Claimed j k) at never = absurd (never k (ap (λ x. status.Claimed x k) (the_seat m j k at)))
  done_rested m status.Done at never = refl

  is_closed : RestsIfClaimed M 0 N → IsNext M None N
  is_closed (inl ((m, k, c), is)) =
      let may : MayRest M.base M.state 0 = record { going = between.going; seat = omega arith; none_waits = none_waits; arc = m; k = k; claim = c; free = between.free } in
      subst (λ (X : Machine). (X.base ≡ M.base) × IsReplayed X × IsClosed X.state) (sym is) (
        refl,
        replayed_step M between.replayed between.going (step.Rest 0) (after_rest M.state 0) (may, refl),
        record {
          going = between.going;
          all = λ n s e. ⊎_elim (λ (d, never). done_rested n s d never) (λ (l, d, done). done) (rest_cases 0 M.state.status n s e);
        },
      )
  is_closed (inr (none, is)) =
      subst (λ (X : Machine). (X.base ≡ M.base) × IsReplayed X × IsClosed X.state) (sym is) (
        refl,
        between.replayed,
        record { going = between.going; all = λ n s e. done_rested n s e (λ k d. none (n, k, e ∙ ap Some d)) },
      )

none_next : (M N : Machine) (a : Claim) → ((m : ℕ) → a ≡ claim.Took m → ⊥) → IsBetween M.base M → M.base.seats ≡ 1 → IsClaimed M 0 a N → IsNext M None N
none_next M N (claim.Took m) not between alone claimed = absurd (not m refl)
none_next M N claim.NotYet not between alone (going, none, (j, ne, (m, k, c)), rests) = absurd (ne (the_seat M N between alone none m j k c))
none_next M N (claim.Ended end.Closed) not between alone (going, none, other, rests) = is_closed M N between alone none rests
none_next M N (claim.Ended end.Over) not between alone (stopped, is) = absurd (not_stopped M.state.stop end.Over between.going stopped)
none_next M N (claim.Ended end.Halted) not between alone (stopped, is) = absurd (not_stopped M.state.stop end.Halted between.going stopped)

pub next_none : (M₀ M N : Machine) (a : Claim) → ((m : ℕ) → a ≡ claim.Took m → ⊥) → IsBetween M₀.base M₀ → M₀.base.seats ≡ 1 → M ≡ M₀ → IsClaimed M 0 a N → IsNext M₀ None N
next_none M₀ M N a not between alone same claimed = none_next M₀ N a not between alone (subst (λ (X : Machine). IsClaimed X 0 a N) same claimed)

-- behind a claim the seat has the arc, of whose work nothing is done
pub partly_none : (M N : Machine) (m : ℕ) (work : WorkWithTrees) → IsBetween M.base M → 0 < M.base.seats → IsNext M (Some m) N → work.arc ≡ m → IsRightFor M.base.rules M.state.graph.arcs work → IsPartly N work 0 N
partly_none M N m work between some (waits, is) arc right =
    let may : MayClaim M.base M.state 0 m = record { going = between.going; seat = some; waits = waits; free = between.free } in
    let low = slice_get_within M.state.status m status.Waiting waits in
    let long = length-map M.state.status (rest_one 0) in
    let here : m < length (map (rest_one 0) M.state.status) = omega (arith, low, long) in
    subst (λ (X : Machine). IsPartly X work 0 X) (sym is) (record {
      base = refl;
      replayed = replayed_step M between.replayed between.going (step.Claim 0 m) (after_claim M.state 0 m) (may, refl);
      going = between.going;
      claim = subst (λ n. HasClaim (after_claim M.state 0 m) 0 n 0) (sym arc) (set_here (map (rest_one 0) M.state.status) m (status.Claimed 0 0) here);
      right = right;
      within = omega arith;
      done = omega arith;
      left = omega arith;
    })

-- a publication
module _ (M₀ M : Machine) (work : WorkWithTrees) (k : ℕ) (p : IsPartly M₀ work k M) where
  K : Keeps M.base M.state
  K = kept M p.replayed

  seated : 0 < M.base.seats
  seated = K.seated work.arc 0 k p.claim

  within : work.arc < length M.state.status
  within = slice_get_within M.state.status work.arc (status.Claimed 0 k) p.claim

  next : (made : WithTrees) → slice_get work.made k ≡ Some made → Next M.base M.state 0
  next made at = record {
    arc = work.arc;
    k = k;
    claim = p.claim;
    work = map (λ m. m.firing) work.made;
    is = p.right.work;
    firing = made.firing;
    at = at_mapped (λ (m : WithTrees). m.firing) work.made k made at;
  }

  module _ (made : WithTrees) (at : slice_get work.made k ≡ Some made) (few : length M.state.done < M.base.limit) (accepted : AreAccepted M.base.rules) where
    abbrev T : CoreState
    T = after_publish M.base.rules M.state 0 work.arc k made.firing

    abbrev N : Machine
    N = with_step M (step.Publish 0) T

    makes : Makes M.base M.state (step.Publish 0) T
    unfolding next
    makes = (record { going = p.going; seat = seated; next = next made at; few = few }, refl)

    one_more : IsPartly M₀ work (k + 1) N
    one_more = record {
      base = p.base;
      replayed = replayed_step M p.replayed p.going (step.Publish 0) T makes;
      going = p.going;
      claim = slice_get-append (set M.state.status work.arc (status.Claimed 0 (k + 1))) (all_wait (added M.base.rules M.state.graph made.firing)) work.arc (status.Claimed 0 (k + 1))
          (set_here M.state.status work.arc (status.Claimed 0 (k + 1)) within);
      right = right_stays M.base M.state (step.Publish 0) T makes work (omega (arith, within, K.status_each)) p.right;
      within = omega (arith, slice_get_within work.made k made at);
      done = omega (arith, p.done, length-append M.state.done (fired_at M.base.rules M.state.graph made.firing ∷ []));
      left = omega (arith, p.left, left_published M work.arc k made.firing accepted p.claim few);
    }

  pub worked : length work.made ≤ k → IsWorked M₀ true M
  worked all = record {
    base = p.base;
    replayed = p.replayed;
    ends = (p.going, free_worked M.base M.state K 0 k work p.claim p.right (omega (arith, all, p.within)));
    left = p.left;
  }

pub published : (M₀ M N : Machine) (work : WorkWithTrees) (k : ℕ) (answer : Put) (first : ℕ) → answer ≡ put.Published first → AreAccepted M₀.base.rules → IsPartly M₀ work k M → IsPublished M 0 work k answer N → IsPartly M₀ work (k + 1) N
published M₀ M N work k answer first told accepted p is =
    let (going, few, (made, at, number, leads)) = subst (λ (a : Put). IsPublished M 0 work k a N) told is in
    subst (IsPartly M₀ work (k + 1)) (sym leads) (one_more M₀ M work k p made at few (subst (λ (B : Base). AreAccepted B.rules) (sym p.base) accepted))

pub over : (M₀ M N : Machine) (work : WorkWithTrees) (k : ℕ) (answer : Put) → ((first : ℕ) → answer ≡ put.Published first → ⊥) → k < length work.made → IsPartly M₀ work k M → IsPublished M 0 work k answer N → IsWorked M₀ false N
over M₀ M N work k (put.Published first) not low p is = absurd (not first refl)
over M₀ M N work k (put.Ended e) not low p (stopped, is) = absurd (not_stopped M.state.stop e p.going stopped)
over M₀ M N work k put.Over not low p (going, full, is) =
    let (made, at) = exists_at work.made k low in
    let may : MayStopOver M.base M.state 0 = record { going = p.going; seat = seated M₀ M work k p; next = next M₀ M work k p made at; full = full } in
    subst (IsWorked M₀ false) (sym is) (record {
      base = p.base;
      replayed = replayed_stop M p.replayed p.going (stop.Over 0) (may, refl);
      ends = refl;
      left = p.left;
    })
