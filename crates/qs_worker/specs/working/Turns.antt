-- The turns of one seat, which has the number 0: it claims an arc, and publishes all of its work.
use Rattle.std.specs.Prelude.{ℕ, ◌+◌, ◌-◌, ◌*◌, ◌≡◌, ◌≤◌, Bool, true, false, List, [], ◌∷◌, length, slice_get}
use Rattle.std.specs.Prelude.{Option, Some, None}
use Rattle.qs_tree.specs.Lists.{◌∈◌}
use Rattle.qs_pattern.specs.Limits.{most_patterns}
use Rattle.qs_pattern.specs.Rules.{Rule, IsAccepted}
use Rattle.qs_firing.specs.Work.{WorkWithTrees, IsRightFor}
use Rattle.qs_core.specs.declared.step.Step.TheVariants as step
use Rattle.qs_core.specs.declared.step.Status.{Status}
use Rattle.qs_core.specs.declared.step.Status.TheVariants as status
use Rattle.qs_core.specs.declared.answers.End.TheVariants as end
use Rattle.qs_core.specs.Core.{Base, IsClosed, IsFree, HasClaim, after_claim}
use Rattle.qs_core.specs.Runs.{Machine, IsReplayed, with_step}
use Rattle.qs_core.specs.Answers.{IsStopped}

-- Each of these rules is accepted.
abbrev pub AreAccepted : List Rule → Type 0
AreAccepted R = (rule : Rule) → rule ∈ R → IsAccepted rule

-- How many of these arcs wait.
abbrev pub waiting_one : Status → ℕ
waiting_one status.Waiting = 1
waiting_one (status.Claimed i k) = 0
waiting_one status.Done = 0

abbrev pub waiting : List Status → ℕ
waiting [] = 0
waiting (s ∷ ss) = waiting_one s + waiting ss

-- At most so many arcs are still to be claimed: those that wait, and those that the firings up to the limit can add.
abbrev pub left_to_claim : Machine → ℕ
left_to_claim M = waiting M.state.status + most_patterns * (M.base.limit - length M.state.done)

-- The machine with this base goes on, and the seat is free.
pub record IsBetween (B : Base) (M : Machine) : Type 0 where
  pub base : M.base ≡ B
  pub replayed : IsReplayed M
  pub going : M.state.stop ≡ None
  pub free : IsFree M.base M.state 0

-- The seat, which claimed in M, took this arc; or every arc is done.
abbrev pub IsNext : Machine → Option ℕ → Machine → Type 0
IsNext M (Some m) N =
    (slice_get M.state.status m ≡ Some status.Waiting)
    × (N ≡ with_step M (step.Claim 0 m) (after_claim M.state 0 m))
IsNext M None N = (N.base ≡ M.base) × IsReplayed N × IsClosed N.state

-- From M on, where the seat had claimed the arc of this work, its first k firings were published, which led to N.
pub record IsPartly (M : Machine) (work : WorkWithTrees) (k : ℕ) (N : Machine) : Type 0 where
  pub base : N.base ≡ M.base
  pub replayed : IsReplayed N
  pub going : N.state.stop ≡ None
  pub claim : HasClaim N.state 0 work.arc k
  pub right : IsRightFor N.base.rules N.state.graph.arcs work
  pub within : k ≤ length work.made
  pub done : k ≤ length N.state.done
  pub left : left_to_claim N ≤ left_to_claim M

-- All firings of a work were published, which led from M to N; or the limit stopped the run.
abbrev pub EndsWork : Bool → Machine → Type 0
EndsWork true N = (N.state.stop ≡ None) × IsFree N.base N.state 0
EndsWork false N = IsStopped N.state end.Over

pub record IsWorked (M : Machine) (all : Bool) (N : Machine) : Type 0 where
  pub base : N.base ≡ M.base
  pub replayed : IsReplayed N
  pub ends : EndsWork all N
  pub left : left_to_claim N ≤ left_to_claim M
