use Rattle.std.proofs.Common.{◌≡◌, ◌+◌, ℕ, [], length, map, take, get_or}
use Rattle.qs_graph.specs.working.Orders.{targets_from}
use Rattle.qs_graph.proofs.order.grouped.Given as goal

-- the groups are those of the arcs so far
abbrev pub invariant-loop-edge : goal.invariant-loop-edge
invariant-loop-edge l =
    ((n : ℕ) → get_or (map (λ group. group.items) l.groups.items) n [] ≡ targets_from (take l.edge-index l.edges) n) × (length l.groups.items ≡ l.nodes + 1)
