-- Small runs of the machine of steps, worked out: one in which another firing than in the rounds adds the arc that both
-- build, and one that is stopped.
use Rattle.std.specs.Prelude.{ℕ, Bool, true, false, List, [], ◌∷◌, None, Some}
use Rattle.qs_core.specs.declared.step.Step.{Step}
use Rattle.qs_core.specs.declared.step.Step.TheVariants as step
use Rattle.qs_core.specs.declared.step.Stop.TheVariants as stop
use Rattle.qs_core.specs.declared.step.Status.TheVariants as status
use Rattle.qs_core.specs.Core.{Base, CoreState, Fired}
use Rattle.qs_canon.specs.Merging.{either, two_arcs, either_closure}

-- The unique rules A == B and C == B on an arc A beside an arc C, with one seat.
abbrev pub base : ℕ → Base
base limit = record { rules = either; start = two_arcs; limit = limit; seats = 1 }

-- A firing that is done: of the rule with this number on this arc.
abbrev pub fired_on : ℕ → ℕ → ℕ → Bool → Fired
fired_on r k first met = record { firing = record { rule = r; path = k ∷ []; values = [] }; first = first; met = met }

-- The seat claims the arc C first, so that the second rule adds the arc B. Then it claims the arc A, and the first rule
-- meets the arc B. In the rounds it is the other way round.
abbrev pub closing_journal : List Step
closing_journal =
    step.Claim 0 1 ∷ step.Publish 0 ∷ step.Claim 0 0 ∷ step.Publish 0 ∷ step.Claim 0 2 ∷ step.Rest 0 ∷ []

abbrev pub closed_state : CoreState
closed_state = record {
  graph = either_closure.graph;
  done = fired_on 1 1 2 false ∷ fired_on 0 0 2 true ∷ [];
  status = status.Done ∷ status.Done ∷ status.Done ∷ [];
  stop = None;
}

-- With the limit 1 the second firing can't be done, although it would add no arc, and the seat stops the run.
abbrev pub stopped_journal : List Step
stopped_journal = step.Claim 0 1 ∷ step.Publish 0 ∷ step.Claim 0 0 ∷ []

abbrev pub stopped_state : CoreState
stopped_state = record {
  graph = either_closure.graph;
  done = fired_on 1 1 2 false ∷ [];
  status = status.Claimed 0 0 ∷ status.Done ∷ status.Waiting ∷ [];
  stop = Some (stop.Over 0);
}
