use Rattle.std.proofs.Common.{◌≡◌, ℕ, ◌∷◌, ◌-◌, ◌*◌, ◌+◌, slice_get, Some}
use Rattle.qs_firing.specs.Neighbours.{ends}
use Rattle.qs_join.specs.working.Searching.{Through, Finds}
use Rattle.qs_join.proofs.Walking.{Tried, steps_left}
use Rattle.qs_join.proofs.search.+left.Given as goal

abbrev pub decreases-extend_left : goal.decreases-extend_left
decreases-extend_left l = 2 * l.before

abbrev pub decreases-step_left : goal.decreases-step_left
decreases-step_left l = 2 * l.before + 1

abbrev pub invariant-extend_left-loop-next : goal.invariant-extend_left-loop-next
invariant-extend_left-loop-next l = record {
  path : l.path.items ≡ l.initial.path.items;
  stands : (k : ℕ) → l.next ≡ Some k → slice_get (ends l.search.view.now) k ≡ Some l.from;
  finds : Finds (Tried (λ k f. Through l.search.number l.search.rule.now l.search.view.now l.search.newest (l.before - 1) (k ∷ l.initial.path.items) f) l.next) l.initial.found.items l.found.items;
}

abbrev pub decreases-extend_left-loop-next : goal.decreases-extend_left-loop-next
decreases-extend_left-loop-next l = steps_left l.next
