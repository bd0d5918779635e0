use Rattle.std.proofs.Common.{◌-◌, length}
use Rattle.qs_worker.specs.working.Turns.{IsPartly}
use Rattle.qs_worker.proofs.alone.publish_all.Given as goal

abbrev pub invariant-loop-k : goal.invariant-loop-k
invariant-loop-k l = IsPartly l.fn.state.machine l.work l.k l.state.machine

abbrev pub decreases-loop-k : goal.decreases-loop-k
decreases-loop-k l = length l.work.made - l.k
