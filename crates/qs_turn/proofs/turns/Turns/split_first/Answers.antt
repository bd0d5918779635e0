use Rattle.std.proofs.Common.{rules}
use Rattle.qs_turn.proofs.Keeps.{split_keeps}
use Rattle.qs_turn.proofs.turns.Turns.split_first.Goals as goal

pub split_seat-requires : goal.split_seat-requires
split_seat-requires g c = (search rules, search rules, split_keeps _ _ _ _ _ _ _ _ c.requires.idle.0)
