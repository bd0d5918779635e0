use Rattle.std.proofs.Common.{rules, Some, ◌∙◌}
use Rattle.qs_turn.proofs.Keeps.{look_keeps}
use Rattle.qs_turn.proofs.GivingBack.{first_of, if_same}
use Rattle.qs_turn.proofs.turns.Turns.take_if_served.Goals as goal

pub load-requires : goal.load-requires
load-requires g c = (search rules, search rules, look_keeps _ _ _ _ _ _ _ _ c.requires.waits.0.0 _ c.requires.waits.0.2 c.requires.waits.1)

pub exchange-requires : goal.exchange-requires
exchange-requires g c = let took = if_same _ _ _ _ (c.if-load-ticket.false ∙ c.requires.waits.0.1) (c.load.ensures.2 c.requires.waits.0.0 c.requires.waits.0.2) in (search rules, (Some took.value, first_of _ _ _ took.slot))
