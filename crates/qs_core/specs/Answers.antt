-- What the machine answers, and what becomes of it. (This project.)
use Rattle.std.specs.Prelude.{ℕ, ◌<◌, ◌≡◌, ◌≢◌, ◌⊎◌, [], length, slice_get, Option, Some, None}
use Rattle.std.specs.Option.{option_map}
use Rattle.qs_firing.specs.Adding.{first_arc}
use Rattle.qs_firing.specs.Work.{WithTrees, WorkWithTrees}
use Rattle.qs_core.specs.declared.step.Step.TheVariants as step
use Rattle.qs_core.specs.declared.step.Stop.{Stop}
use Rattle.qs_core.specs.declared.step.Stop.TheVariants as stop
use Rattle.qs_core.specs.declared.step.Status.TheVariants as status
use Rattle.qs_core.specs.declared.answers.End.{End}
use Rattle.qs_core.specs.declared.answers.End.TheVariants as end
use Rattle.qs_core.specs.declared.answers.Claim.{Claim}
use Rattle.qs_core.specs.declared.answers.Claim.TheVariants as claim
use Rattle.qs_core.specs.declared.answers.Put.{Put}
use Rattle.qs_core.specs.declared.answers.Put.TheVariants as put
use Rattle.qs_core.specs.Core.{Base, CoreState, opening, IsClosed, HasEnded, HasClaim, NoneWaits}
use Rattle.qs_core.specs.Core.{after_rest, after_claim, after_publish}
use Rattle.qs_core.specs.Runs.{Machine, with_step, with_stop}

-- At the opening no step was made.
abbrev pub opened : Base → Machine
opened B = record { base = B; journal = []; state = opening B }

-- Seat i has a claim; another seat has one.
abbrev pub HasAnyClaim : CoreState → ℕ → Type 0
HasAnyClaim S i = (m : ℕ) × (k : ℕ) × HasClaim S i m k

abbrev pub OtherHasClaim : CoreState → ℕ → Type 0
OtherHasClaim S i = (j : ℕ) × (j ≢ i) × HasAnyClaim S j

-- No stop stands, and an arc waits.
abbrev pub HasWaiting : CoreState → Type 0
HasWaiting S = (S.stop ≡ None) × ((m : ℕ) × (slice_get S.status m ≡ Some status.Waiting))

-- Seat i rests where it has a claim; where it has none, no step is made.
abbrev pub RestsIfClaimed : Machine → ℕ → Machine → Type 0
RestsIfClaimed M i N =
    (HasAnyClaim M.state i × (N ≡ with_step M (step.Rest i) (after_rest M.state i)))
    ⊎ ((HasAnyClaim M.state i → ⊥) × (N ≡ M))

-- The end to which a stop leads; and a stop that leads to this end stands.
abbrev pub end_of_stop : Stop → End
end_of_stop (stop.Over i) = end.Over
end_of_stop (stop.Halted i) = end.Halted

abbrev pub IsStopped : CoreState → End → Type 0
IsStopped S e = option_map end_of_stop S.stop ≡ Some e

-- What a claim of seat i answers, by the machine M that it finds, and the machine N that it leaves. Where a stop
-- stands, it is told. Else the seat takes an arc that waits. Where none waits the seat rests, and another seat's claim
-- tells whether the run goes on.
abbrev pub IsClaimed : Machine → ℕ → Claim → Machine → Type 0
IsClaimed M i (claim.Took m) N =
    (M.state.stop ≡ None) × (slice_get M.state.status m ≡ Some status.Waiting)
    × (N ≡ with_step M (step.Claim i m) (after_claim M.state i m))
IsClaimed M i claim.NotYet N =
    (M.state.stop ≡ None) × NoneWaits M.state × OtherHasClaim M.state i × RestsIfClaimed M i N
IsClaimed M i (claim.Ended end.Closed) N =
    (M.state.stop ≡ None) × NoneWaits M.state × (OtherHasClaim M.state i → ⊥) × RestsIfClaimed M i N
IsClaimed M i (claim.Ended end.Over) N = IsStopped M.state end.Over × (N ≡ M)
IsClaimed M i (claim.Ended end.Halted) N = IsStopped M.state end.Halted × (N ≡ M)

-- What seat i's publication of the k-th firing, from 0, of this work answers, by the machine M that it finds, and the
-- machine N that it leaves. Where a stop stands, it is told. Else, where the limit's firings are done, the run is
-- stopped; where fewer are done, the firing is done.
abbrev pub IsPublished : Machine → ℕ → WorkWithTrees → ℕ → Put → Machine → Type 0
IsPublished M i work k (put.Published first) N =
    (M.state.stop ≡ None) × (length M.state.done < M.base.limit)
    × ((made : WithTrees) × (slice_get work.made k ≡ Some made)
    × (first ≡ first_arc M.base.rules M.state.graph made.firing)
    × (N ≡ with_step M (step.Publish i) (after_publish M.base.rules M.state i work.arc k made.firing)))
IsPublished M i work k put.Over N =
    (M.state.stop ≡ None) × (length M.state.done ≡ M.base.limit) × (N ≡ with_stop M (stop.Over i))
IsPublished M i work k (put.Ended e) N = IsStopped M.state e × (N ≡ M)

-- Seat i halts the machine M, where it hasn't ended; where it has, nothing changes.
abbrev pub IsHalted : Machine → ℕ → Machine → Type 0
IsHalted M i N =
    (HasEnded M.state × (N ≡ M)) ⊎ ((HasEnded M.state → ⊥) × (N ≡ with_stop M (stop.Halted i)))

-- How the state has ended, if it has.
abbrev pub IsEnd : CoreState → Option End → Type 0
IsEnd S (Some end.Closed) = IsClosed S
IsEnd S (Some end.Over) = IsStopped S end.Over
IsEnd S (Some end.Halted) = IsStopped S end.Halted
IsEnd S None = HasEnded S → ⊥
