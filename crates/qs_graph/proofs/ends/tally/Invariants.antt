use Rattle.std.proofs.Common.{◌≡◌, ◌+◌, ℕ, length, take, get_or}
use Rattle.qs_graph.specs.working.Orders.{times}
use Rattle.qs_graph.proofs.ends.tally.Given as goal

-- the counts are those of the numbers so far
abbrev pub invariant-loop-end : goal.invariant-loop-end
invariant-loop-end l = ((n : ℕ) → get_or l.counts.items n 0 ≡ times n (take l.end-index l.ends)) × (length l.counts.items ≡ l.nodes + 1)
