use Rattle.std.proofs.Common.{rules}
use Rattle.qs_turn.proofs.Keeps.{draw_keeps}
use Rattle.qs_turn.proofs.turns.Turns.draw.Goals as goal

pub fetch_add-requires : goal.fetch_add-requires
fetch_add-requires g c = (search rules, search rules, draw_keeps _ _ _ _ _ _ _ _ _ c.requires.idle.0.0 c.requires.idle.1)
