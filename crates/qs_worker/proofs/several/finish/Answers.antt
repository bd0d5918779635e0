use Rattle.std.proofs.Common.{rules, ◌<◌, length}
use Rattle.qs_core.specs.Core.{HasEnded}
use Rattle.qs_board.specs.Seats.{IsSeatOf, SeesEnd}
use Rattle.qs_worker.proofs.Working.{one_tells}
use Rattle.qs_worker.proofs.several.finish.Goals as goal

pub returns-clause-ended : goal.returns-clause-ended
returns-clause-ended c =
    let some : 0 < length c.args.passes.items = search rules in
    one_tells (λ p. IsSeatOf c.args.board p × SeesEnd c.args.board p) (HasEnded c.close.result.machine.state) c.args.passes.items c.requires.own some (λ i p at s. c.close.ensures.ended i p at s.1)
