use Rattle.std.proofs.Common.{◌≡◌, ◌≤◌, ◌-◌, ℕ, Some, length, slice_get}
use Rattle.qs_core.specs.declared.step.Status.TheVariants as status
use Rattle.qs_core.proofs.statuses.first_waiting.Given as goal

-- no arc from the first one to this one waits
abbrev pub invariant-loop-arc : goal.invariant-loop-arc
invariant-loop-arc l =
    (l.arc ≤ length l.list) × ((m : ℕ) → slice_get l.list m ≡ Some status.Waiting → l.from ≤ m → l.arc ≤ m)

abbrev pub decreases-loop-arc : goal.decreases-loop-arc
decreases-loop-arc l = length l.list - l.arc
