use Rattle.std.proofs.Common.{◌≡◌, ◌++◌, take}
use Rattle.std.specs.Prelude.{flat_map}
use Rattle.qs_telling.specs.LevelTexts.{level_line}
use Rattle.qs_telling.proofs.levels.append_lines.Given as goal

abbrev pub invariant-loop-level : goal.invariant-loop-level
invariant-loop-level l = l.out.items ≡ l.initial.out.items ++ flat_map (level_line l.names) (take l.level-index l.levels)
