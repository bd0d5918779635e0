use Rattle.std.proofs.Common.{◌≡◌, [], length, map}
use Rattle.qs_clean.specs.working.Links.{AreGroups}
use Rattle.qs_clean.proofs.links.empty_groups.Given as goal

abbrev pub invariant-loop-node : goal.invariant-loop-node
invariant-loop-node l = AreGroups [] (map (λ group. group.items) l.groups.items) × (length l.groups.items ≡ l.node)
