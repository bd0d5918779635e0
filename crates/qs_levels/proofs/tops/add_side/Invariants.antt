use Rattle.std.proofs.Common.{◌≡◌, ◌++◌, take}
use Rattle.qs_pattern.specs.Patterns.{patterns}
use Rattle.qs_levels.specs.Tops.{HasLabelsAtTop}
use Rattle.qs_levels.specs.working.Tops.{tops_of_side}
use Rattle.qs_levels.proofs.tops.add_side.Given as goal

abbrev pub invariant-loop-pattern : goal.invariant-loop-pattern
invariant-loop-pattern l =
    HasLabelsAtTop (patterns (take l.pattern-index l.side)) × (l.tops.items ≡ l.initial.tops.items ++ tops_of_side l.rule l.right (patterns (take l.pattern-index l.side)))
