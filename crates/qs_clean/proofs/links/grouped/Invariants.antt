use Rattle.std.proofs.Common.{◌≡◌, ◌+◌, length, map, take}
use Rattle.qs_clean.specs.working.Links.{AreGroups}
use Rattle.qs_clean.proofs.links.grouped.Given as goal

abbrev pub invariant-loop-link : goal.invariant-loop-link
invariant-loop-link l = AreGroups (take l.link-index l.links) (map (λ group. group.items) l.groups.items) × (length l.groups.items ≡ l.nodes + 1)
