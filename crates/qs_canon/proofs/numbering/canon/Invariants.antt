use Rattle.std.proofs.Common.{◌-◌, length}
use Rattle.qs_canon.specs.working.CanonSteps.{IsRounding}
use Rattle.qs_canon.proofs.numbering.canon.Given as goal

abbrev pub invariant-rounds : goal.invariant-rounds
invariant-rounds l = IsRounding l.end.machine l.users.items l.numbers l.missing.items l.passed l.round

abbrev pub decreases-rounds : goal.decreases-rounds
decreases-rounds l = length l.end.machine.state.done - length l.numbers.placed.items
