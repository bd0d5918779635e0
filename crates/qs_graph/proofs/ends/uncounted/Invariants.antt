use Rattle.std.proofs.Common.{◌≡◌, ◌↔◌, ◌<◌, ◌≤◌, ℕ, get_or}
use Rattle.qs_tree.specs.Lists.{◌∈◌}
use Rattle.qs_graph.specs.working.Orders.{AreApart}
use Rattle.qs_graph.proofs.ends.uncounted.Given as goal

-- the numbers so far whose count is 0
abbrev pub invariant-loop-number : goal.invariant-loop-number
invariant-loop-number l = AreApart l.numbers.items × ((n : ℕ) → n ∈ l.numbers.items ↔ ((1 ≤ n) × (n < l.number) × (get_or l.counts n 0 ≡ 0)))
