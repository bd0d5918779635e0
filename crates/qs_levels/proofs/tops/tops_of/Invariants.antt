use Rattle.std.proofs.Common.{◌≡◌, take}
use Rattle.qs_tree.specs.Lists.{◌∈◌}
use Rattle.qs_pattern.specs.Rules.{Rule, IsAccepted}
use Rattle.qs_levels.specs.working.Tops.{tops_from, HaveLabelsAtTops}
use Rattle.qs_levels.proofs.tops.tops_of.Given as goal

abbrev pub invariant-loop-number : goal.invariant-loop-number
invariant-loop-number l =
    HaveLabelsAtTops (take l.number l.rules) × (l.tops.items ≡ tops_from 0 (take l.number l.rules)) × ((rule : Rule) → rule ∈ take l.number l.rules → IsAccepted rule)
