use Rattle.std.proofs.Common.{◌+◌, ◌-◌, length}
use Rattle.qs_levels.specs.working.Ordering.{undone, places_left}
use Rattle.qs_levels.proofs.Ordered.{IsBegun, IsTaking, IsLeaving}
use Rattle.qs_levels.proofs.ordering.depths_of.Given as goal

abbrev pub invariant-loop-number : goal.invariant-loop-number
invariant-loop-number l = IsBegun l.limit l.steps.sources.items l.steps.targets.items l.nodes.items l.order.items l.number

abbrev pub invariant-loop-next : goal.invariant-loop-next
invariant-loop-next l = IsTaking l.limit l.steps.sources.items l.steps.targets.items l.nodes.items l.order.items l.next

abbrev pub decreases-loop-next : goal.decreases-loop-next
decreases-loop-next l = undone l.nodes.items + length l.order.items - l.next

abbrev pub invariant-loop-step : goal.invariant-loop-step
invariant-loop-step l = IsLeaving l.limit l.steps.sources.items l.steps.targets.items l.initial.nodes.items l.initial.order.items l.nodes.items l.order.items l.next l.step

abbrev pub decreases-loop-step : goal.decreases-loop-step
decreases-loop-step l = places_left l.step
