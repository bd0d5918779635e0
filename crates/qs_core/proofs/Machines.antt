-- A machine stays sound behind each step and each stop.
use Rattle.std.proofs.Common.{◌≡◌, ℕ, zero, suc, ◌+◌, ◌*◌, ◌^◌, ◌<◌, Bool, true, false, List, [], ◌∷◌, length, map, replicate, refl, sym, ◌∙◌, ap, subst, inl, inr, ⊎_elim, arith, Some, None, slice_get}
use Rattle.std.specs.Prelude.{if◌then◌else◌, ◌↔◌, IsTrue}
use Rattle.std.proofs.lemmas.List.{take_all}
use Rattle.qs_tree.specs.Lists.{◌∈◌}
use Rattle.qs_tree.proofs.Decisions.{true_false}
use Rattle.qs_pattern.specs.Rules.{Rule, IsAccepted, all_unique}
use Rattle.qs_graph.specs.Graphs.{Arc, QGraph, IsValid, IsEntry, IsExit}
use Rattle.qs_core.specs.declared.step.Step.{Step}
use Rattle.qs_core.specs.declared.step.Step.TheVariants as step
use Rattle.qs_core.specs.declared.step.Stop.{Stop}
use Rattle.qs_core.specs.declared.step.Status.{Status}
use Rattle.qs_core.specs.declared.step.Status.TheVariants as status
use Rattle.qs_core.specs.declared.answers.End.TheVariants as end
use Rattle.qs_core.specs.declared.answers.Claim.TheVariants as claim
use Rattle.qs_core.specs.Core.{Base, CoreState, Fired, opening, all_wait, rest_one, HasClaim, NoneWaits, after_rest, after_stop}
use Rattle.qs_core.specs.Runs.{Machine, with_step, with_stop, Makes, Stops, StopsIfGiven, IsReplayed}
use Rattle.qs_core.specs.Answers.{opened, HasAnyClaim, OtherHasClaim, RestsIfClaimed, IsClaimed}
use Rattle.qs_core.specs.Machines.{StatusTable, machine_from, IsSound}
use Rattle.qs_core.specs.working.Tables.{IsClaimOf}
use Rattle.qs_core.proofs.Places.{rest_cases}
use Rattle.qs_core.proofs.Tables.{none_rests}
use Rattle.qs_core.proofs.Runs.{steps_more, no_stop_made, status_of_rested}

-- where no stop stands, the steps lead to the state itself
steps_lead : (M : Machine) (r : IsReplayed M) → M.state.stop ≡ None → r.going ≡ M.state
steps_lead M r none = subst (λ o. StopsIfGiven M.base r.going o M.state) none r.stop

pub replayed_step : (M : Machine) → IsReplayed M → M.state.stop ≡ None → (v : Step) (T : CoreState) → Makes M.base M.state v T → IsReplayed (with_step M v T)
replayed_step M r none v T made = record {
  going = T;
  steps = steps_more M.base (opening M.base) M.journal r.going v T r.steps (subst (λ X. Makes M.base X v T) (sym (steps_lead M r none)) made);
  stop = subst (λ o. StopsIfGiven M.base T o T) (sym (no_stop_made M.base M.state v T made)) refl;
}

pub replayed_stop : (M : Machine) → IsReplayed M → M.state.stop ≡ None → (s : Stop) → Stops M.base M.state s (after_stop M.state s) → IsReplayed (with_stop M s)
replayed_stop M r none s made = record {
  going = r.going;
  steps = r.steps;
  stop = subst (λ X. Stops M.base X s (after_stop M.state s)) (sym (steps_lead M r none)) made;
}

module _ {M : Machine} {entry exit arcs : ℕ} {unique : Bool} (sound : IsSound M entry exit arcs unique) where
  pub sound_step : M.state.stop ≡ None → (v : Step) (T : CoreState) → Makes M.base M.state v T → IsSound (with_step M v T) entry exit arcs unique
  sound_step none v T made = record {
    replayed = replayed_step M sound.replayed none v T made;
    accepted = sound.accepted;
    unique_is = sound.unique_is;
    valid = sound.valid;
    entry_is = sound.entry_is;
    exit_is = sound.exit_is;
    arcs_is = sound.arcs_is;
    arcs_fit = sound.arcs_fit;
    nodes_fit = sound.nodes_fit;
  }

  pub sound_stop : M.state.stop ≡ None → (s : Stop) → Stops M.base M.state s (after_stop M.state s) → IsSound (with_stop M s) entry exit arcs unique
  sound_stop none s made = record {
    replayed = replayed_stop M sound.replayed none s made;
    accepted = sound.accepted;
    unique_is = sound.unique_is;
    valid = sound.valid;
    entry_is = sound.entry_is;
    exit_is = sound.exit_is;
    arcs_is = sound.arcs_is;
    arcs_fit = sound.arcs_fit;
    nodes_fit = sound.nodes_fit;
  }

-- the opening
wait_all : (arcs : List Arc) → replicate (length arcs) status.Waiting ≡ all_wait arcs
wait_all [] = refl
wait_all (arc ∷ arcs) = ap (λ xs. status.Waiting ∷ xs) (wait_all arcs)

pub opens_as : (B : Base) (rules : List Rule) (nodes arcs : ℕ) (graph : QGraph) (table : StatusTable) (done : List Fired) (journal : List Step)
    → rules ≡ B.rules → graph ≡ B.start → nodes ≡ graph.nodes → arcs ≡ length graph.arcs → table ≡ record { list = replicate (length graph.arcs) status.Waiting; seats = B.seats } → done ≡ [] → journal ≡ []
    → machine_from rules nodes arcs B.limit graph table done journal None ≡ opened B
opens_as B rules nodes arcs graph table done journal r g n a t d j =
    (λ i. machine_from (r i) (n i) (a i) B.limit graph (t i) (d i) (j i) None)
    ∙ (λ i. record {
      base = record { rules = B.rules; start = record { nodes = graph.nodes; arcs = take_all (length graph.arcs) graph.arcs (omega arith) i }; limit = B.limit; seats = B.seats };
      journal = [];
      state = record { graph = graph; done = []; status = wait_all graph.arcs i; stop = None };
    })
    ∙ (λ i. record {
      base = record { rules = B.rules; start = g i; limit = B.limit; seats = B.seats };
      journal = [];
      state = record { graph = g i; done = []; status = all_wait (g i).arcs; stop = None };
    })

pub sound_opened : (B : Base) (entry exit arcs : ℕ) (unique : Bool) → ((rule : Rule) → rule ∈ B.rules → IsAccepted rule) → unique ≡ all_unique B.rules → IsValid B.start → IsEntry B.start entry → IsExit B.start exit
    → arcs ≡ length B.start.arcs → length B.start.arcs + 16 * B.limit < 2 ^ 32 → B.start.nodes + 16 * B.limit < 2 ^ 32 → IsSound (opened B) entry exit arcs unique
sound_opened B entry exit arcs unique accepted u valid en ex a fit nodes = record {
  replayed = record { going = opening B; steps = refl; stop = refl };
  accepted = accepted;
  unique_is = u;
  valid = valid;
  entry_is = en;
  exit_is = ex;
  arcs_is = sym a;
  arcs_fit = omega (arith, a, fit);
  nodes_fit = nodes;
}

-- what becomes of the statuses where a seat rests
pub still_waits : (i : ℕ) (xs : List Status) (m : ℕ) → slice_get xs m ≡ Some status.Waiting → slice_get (map (rest_one i) xs) m ≡ Some status.Waiting
still_waits i [] m e = absurd cc
still_waits i (x ∷ xs) zero e = let d : x ≡ status.Waiting = cc in ap (λ y. Some (rest_one i y)) d
still_waits i (x ∷ xs) (suc m) e = still_waits i xs m e

pub none_claims : (i : ℕ) (xs : List Status) → IsClaimOf (map (rest_one i) xs) i None
none_claims i xs m k e = ⊎_elim (λ (d, never). never k refl) (λ (l, d, f). cc) (rest_cases i xs m (status.Claimed i k) e)

pub same_table : (i : ℕ) (table new : StatusTable) → new ≡ record { list = map (rest_one i) table.list; seats = table.seats } → IsClaimOf table.list i None → new ≡ table
same_table i table new e none = e ∙ (λ j. record { list = none_rests i table.list none j; seats = table.seats })

-- a member that isn't done, where not all are
pub some_undone : (xs : List Status) → (((m : ℕ) (s : Status) → slice_get xs m ≡ Some s → s ≡ status.Done) → ⊥) → (m : ℕ) × (s : Status) × (slice_get xs m ≡ Some s) × (s ≡ status.Done → ⊥)
some_undone [] not = absurd (not (λ m s e. absurd cc))
some_undone (status.Waiting ∷ xs) not = (0, status.Waiting, refl, λ e. cc)
some_undone (status.Claimed i k ∷ xs) not = (0, status.Claimed i k, refl, λ e. cc)
some_undone (status.Done ∷ xs) not =
    let (m, s, at, u) = some_undone xs (λ all. not (all_from all)) in (suc m, s, at, u)
  where
    all_from : ((m : ℕ) (s : Status) → slice_get xs m ≡ Some s → s ≡ status.Done) → (m : ℕ) (s : Status) → slice_get (status.Done ∷ xs) m ≡ Some s → s ≡ status.Done
    all_from all zero s e = cc
    all_from all (suc m) s e = all m s e

-- the answers where no arc waits
module _ (M : Machine) (i : ℕ) (going : M.state.stop ≡ None) (none_waits : NoneWaits M.state) (N : Machine) (had : Bool) (had_is : IsTrue had ↔ HasAnyClaim M.state i)
    (N_is : N ≡ (if had then with_step M (step.Rest i) (after_rest M.state i) else M)) where
  rests : RestsIfClaimed M i N
  rests = tested had refl had_is N_is
    where
      tested : (b : Bool) → had ≡ b → IsTrue b ↔ HasAnyClaim M.state i → N ≡ (if b then with_step M (step.Rest i) (after_rest M.state i) else M) → RestsIfClaimed M i N
      tested true e is n = inl (is.0 refl, n)
      tested false e is n = inr ((λ h. true_false refl (is.1 h)), n)

  -- others keep their claims, and no claim is the seat's
  kept : (j m k : ℕ) → (j ≡ i → ⊥) → HasClaim M.state j m k → HasClaim N.state j m k
  kept j m k ne c = ⊎_elim
      (λ (h, n). subst (λ (X : Machine). HasClaim X.state j m k) (sym n) (status_of_rested i j k (λ e. ne (sym e)) M.state.status m c))
      (λ (h, n). subst (λ (X : Machine). HasClaim X.state j m k) (sym n) c)
      rests

  old : (m : ℕ) (s : Status) → slice_get N.state.status m ≡ Some s → (s ≡ status.Done → ⊥) → (slice_get M.state.status m ≡ Some s) × ((k : ℕ) → s ≡ status.Claimed i k → ⊥)
  old m s at not = ⊎_elim
      (λ (h, n). ⊎_elim
      (λ (d, never). (d, never))
      (λ (k, d, e). absurd (not e))
      (rest_cases i M.state.status m s (ap (λ (X : Machine). slice_get X.state.status m) (sym n) ∙ at)))
      (λ (h, n). let d = ap (λ (X : Machine). slice_get X.state.status m) (sym n) ∙ at in (d, λ k e. h (m, k, d ∙ ap Some e)))
      rests

  pub answers_closed : ((m : ℕ) (s : Status) → slice_get N.state.status m ≡ Some s → s ≡ status.Done) → IsClaimed M i (claim.Ended end.Closed) N
  answers_closed all = (going, none_waits, (λ (j, ne, (m, k, c)). let d = all m (status.Claimed j k) (kept j m k ne c) in cc), rests)

  pub answers_not_yet : (((m : ℕ) (s : Status) → slice_get N.state.status m ≡ Some s → s ≡ status.Done) → ⊥) → IsClaimed M i claim.NotYet N
  answers_not_yet not =
      let (m, s, at, u) = some_undone N.state.status not in
      (going, none_waits, other m s (old m s at u).0 (old m s at u).1 u, rests)
    where
      other : (m : ℕ) (s : Status) → slice_get M.state.status m ≡ Some s → ((k : ℕ) → s ≡ status.Claimed i k → ⊥) → (s ≡ status.Done → ⊥) → OtherHasClaim M.state i
      other m status.Waiting at never not = absurd (none_waits m at)
      other m (status.Claimed j k) at never not = (j, (λ e. never k (ap (λ n. status.Claimed n k) e)), (m, k, at))
      other m status.Done at never not = absurd (not refl)
