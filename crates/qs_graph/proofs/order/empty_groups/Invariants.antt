use Rattle.std.proofs.Common.{◌≡◌, ℕ, [], length, map, get_or}
use Rattle.qs_graph.proofs.order.empty_groups.Given as goal

abbrev pub invariant-loop-node : goal.invariant-loop-node
invariant-loop-node l = ((n : ℕ) → get_or (map (λ group. group.items) l.groups.items) n [] ≡ []) × (length l.groups.items ≡ l.node)
