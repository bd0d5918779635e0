use Rattle.std.proofs.Common.{rules}
use Rattle.qs_turn.proofs.Keeps.{enter_keeps}
use Rattle.qs_turn.proofs.turns.Turns.enter_history.Goals as goal

pub fetch_add-requires : goal.fetch_add-requires
fetch_add-requires g c = let t = rw c.in-Some.is at c.requires.turn in (search rules, search rules, enter_keeps _ _ _ _ _ _ _ _ t.1 _ t.0 c.in-Some._entry t.2 t.3 t.4 t.5 t.6 t.7)
