use Rattle.std.proofs.Common.{take, nat_eq, ◌≤◌}
use Rattle.std.specs.HashMap.{get}
use Rattle.qs_levels.specs.working.Accepting.{AreLevels, AreBelow}
use Rattle.qs_levels.proofs.accepting.known_levels.Given as goal

abbrev pub invariant-loop-label : goal.invariant-loop-label
invariant-loop-label l =
    AreLevels (take l.label-index l.levels-inside.of.items) (λ n. get nat_eq l.known n) × AreBelow (take l.label-index l.levels-inside.of.items) l.levels-inside.count × (1 ≤ l.levels-inside.count)
