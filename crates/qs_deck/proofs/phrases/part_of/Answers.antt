use Rattle.std.proofs.Common.{sym, ◌∙◌}
use Rattle.qs_deck.proofs.BorderLines.{border_stands}
use Rattle.qs_deck.proofs.phrases.part_of.Goals as goal

pub range-requires-clause-end_boundary : goal.range-requires-clause-end_boundary
range-requires-clause-end_boundary c = (border_stands c.args.text.now c.in-Some.at (sym c.requires ∙ c.in-Some.is)).border
