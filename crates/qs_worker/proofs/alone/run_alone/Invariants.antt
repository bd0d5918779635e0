use Rattle.qs_worker.specs.working.Turns.{IsBetween, left_to_claim}
use Rattle.qs_worker.proofs.alone.run_alone.Given as goal

abbrev pub invariant-arcs : goal.invariant-arcs
invariant-arcs l = IsBetween (record { rules = l.grammar; start = l.start; limit = l.limit; seats = 1 }) l.state.machine

abbrev pub decreases-arcs : goal.decreases-arcs
decreases-arcs l = left_to_claim l.state.machine
