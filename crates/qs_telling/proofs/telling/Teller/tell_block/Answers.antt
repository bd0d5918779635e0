use Rattle.std.proofs.Common.{length}
use Rattle.qs_telling.proofs.telling.Teller.tell_block.Goals as goal

pub block-requires-clause-left : goal.block-requires-clause-left
block-requires-clause-left g c =
    c.in_ok-end.ensures.labels (length c.args.self.now.names.now) c.requires.can_tell.rules_named c.requires.can_tell.arcs_named

pub returns : goal.returns
returns g c = record { stage = c.in_ok-end.ensures; told = c.in_ok-text.ensures }
