use Rattle.std.proofs.Common.{◌≡◌, ℕ, ◌++◌, ◌∷◌, [], ◌-◌, ◌*◌, ◌+◌, length, slice_get, Some}
use Rattle.qs_pattern.specs.Patterns.{count}
use Rattle.qs_firing.specs.Neighbours.{starts}
use Rattle.qs_join.specs.working.Searching.{Through, Finds}
use Rattle.qs_join.proofs.Walking.{Tried, steps_left}
use Rattle.qs_join.proofs.search.+right.Given as goal

abbrev pub decreases-extend_right : goal.decreases-extend_right
decreases-extend_right l = 2 * (count l.search.now.rule.now.left - length l.path.now.items) + 1

abbrev pub decreases-step_right : goal.decreases-step_right
decreases-step_right l = 2 * (count l.search.now.rule.now.left - length l.path.now.items)

abbrev pub invariant-extend_right-loop-next : goal.invariant-extend_right-loop-next
invariant-extend_right-loop-next l = record {
  path : l.path.items ≡ l.initial.path.items;
  stands : (k : ℕ) → l.next ≡ Some k → slice_get (starts l.search.view.now) k ≡ Some l.at;
  finds : Finds (Tried (λ k f. Through l.search.number l.search.rule.now l.search.view.now l.search.newest 0 (l.initial.path.items ++ k ∷ []) f) l.next) l.initial.found.items l.found.items;
}

abbrev pub decreases-extend_right-loop-next : goal.decreases-extend_right-loop-next
decreases-extend_right-loop-next l = steps_left l.next
