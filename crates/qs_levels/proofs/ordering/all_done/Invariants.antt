use Rattle.std.proofs.Common.{take, ℕ}
use Rattle.qs_levels.specs.working.Ordering.{IsUndone}
use Rattle.qs_levels.proofs.ordering.all_done.Given as goal

abbrev pub invariant-loop-node : goal.invariant-loop-node
invariant-loop-node l = (n : ℕ) → IsUndone (take l.node-index l.nodes) n → ⊥
