use Rattle.qs_telling.proofs.LevelsTold.{in_index}
use Rattle.qs_telling.proofs.levels.append_lines.Goals as goal

pub append_level-requires : goal.append_level-requires
append_level-requires c = c.requires _ (in_index c.args.levels.now c.loop-level.level-index _ c.loop-level-test.true)
