-- Steps and runs of the core. (This project.)
use Rattle.std.specs.Prelude.{ℕ, ◌<◌, ◌≡◌, List, [], ◌∷◌, ◌++◌, length, slice_get, Option, Some, None}
use Rattle.qs_core.specs.declared.step.Step.{Step}
use Rattle.qs_core.specs.declared.step.Step.TheVariants as step
use Rattle.qs_core.specs.declared.step.Stop.{Stop}
use Rattle.qs_core.specs.declared.step.Stop.TheVariants as stop
use Rattle.qs_core.specs.declared.step.Status.TheVariants as status
use Rattle.qs_core.specs.Core.{Base, CoreState, opening, HasEnded, HasClaim, IsFree, NoneWaits, Next}
use Rattle.qs_core.specs.Core.{after_rest, after_claim, after_publish, after_stop}

-- Seat i may claim the arc m: no stop stands, m waits, and the seat is free.
pub record MayClaim (B : Base) (S : CoreState) (i m : ℕ) : Type 0 where
  pub going : S.stop ≡ None
  pub seat : i < B.seats
  pub waits : slice_get S.status m ≡ Some status.Waiting
  pub free : IsFree B S i

-- Seat i may rest: no stop stands, no arc waits, and the seat has an exhausted claim.
pub record MayRest (B : Base) (S : CoreState) (i : ℕ) : Type 0 where
  pub going : S.stop ≡ None
  pub seat : i < B.seats
  pub none_waits : NoneWaits S
  pub arc : ℕ
  pub k : ℕ
  pub claim : HasClaim S i arc k
  pub free : IsFree B S i

-- Seat i may publish: no stop stands, the seat has a claim that isn't exhausted, and fewer than the limit's firings are
-- done.
pub record MayPublish (B : Base) (S : CoreState) (i : ℕ) : Type 0 where
  pub going : S.stop ≡ None
  pub seat : i < B.seats
  pub next : Next B S i
  pub few : length S.done < B.limit

-- Seat i may stop the run because more firings are needed than the limit: no stop stands, the seat has a claim that
-- isn't exhausted, and exactly the limit's firings are done.
pub record MayStopOver (B : Base) (S : CoreState) (i : ℕ) : Type 0 where
  pub going : S.stop ≡ None
  pub seat : i < B.seats
  pub next : Next B S i
  pub full : length S.done ≡ B.limit

-- Seat i may halt the run, where it hasn't ended.
pub record MayHalt (B : Base) (S : CoreState) (i : ℕ) : Type 0 where
  pub seat : i < B.seats
  pub not_ended : HasEnded S → ⊥

-- The step may be made in S, and leads to T.
abbrev pub Makes : Base → CoreState → Step → CoreState → Type 0
Makes B S (step.Claim i m) T = MayClaim B S i m × (T ≡ after_claim S i m)
Makes B S (step.Rest i) T = MayRest B S i × (T ≡ after_rest S i)
Makes B S (step.Publish i) T =
    (may : MayPublish B S i)
    × (T ≡ after_publish B.rules S i may.next.arc may.next.k may.next.firing)

-- The stop may be made in S, and leads to T.
abbrev pub Stops : Base → CoreState → Stop → CoreState → Type 0
Stops B S (stop.Over i) T = MayStopOver B S i × (T ≡ after_stop S (stop.Over i))
Stops B S (stop.Halted i) T = MayHalt B S i × (T ≡ after_stop S (stop.Halted i))

-- The seat whose step it is.
abbrev pub seat_of : Step → ℕ
seat_of (step.Claim i m) = i
seat_of (step.Rest i) = i
seat_of (step.Publish i) = i

-- These steps, each of which may be made behind those before it, lead from S to T.
abbrev pub Steps : Base → CoreState → List Step → CoreState → Type 0
Steps B S [] T = S ≡ T
Steps B S (v ∷ vs) T = (U : CoreState) × Makes B S v U × Steps B U vs T

abbrev pub StopsIfGiven : Base → CoreState → Option Stop → CoreState → Type 0
StopsIfGiven B S None T = S ≡ T
StopsIfGiven B S (Some s) T = Stops B S s T

-- A run: steps from the opening, and then at most one stop. T is the state behind it, to which its replay leads.
pub record Run (B : Base) (journal : List Step) (last : Option Stop) (T : CoreState) : Type 0 where
  pub going : CoreState
  pub steps : Steps B (opening B) journal going
  pub stop : StopsIfGiven B going last T

-- A machine of the program: what no step changes, its journal, which are the steps that were made, and its state. Its
-- history is the journal and then the stop.
pub record Machine : Type 0 where
  pub base : Base
  pub journal : List Step
  pub state : CoreState

-- The history leads from the opening to the state.
abbrev pub IsReplayed : Machine → Type 0
IsReplayed M = Run M.base M.journal M.state.stop M.state

-- A step was made, of which S is the state before and T the one behind.
abbrev pub with_step : Machine → Step → CoreState → Machine
with_step M v T = record { base = M.base; journal = M.journal ++ v ∷ []; state = T }

-- The machine was stopped.
abbrev pub with_stop : Machine → Stop → Machine
with_stop M s = record { base = M.base; journal = M.journal; state = after_stop M.state s }

-- A machine, and for how many steps it has room. A claim is ready where there is room for one.
pub record MachineWithRoom : Type 0 where
  pub machine : Machine
  pub room : ℕ
