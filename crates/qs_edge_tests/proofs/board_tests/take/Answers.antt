use Rattle.std.proofs.Common.{rules, ◌≡◌}
use Rattle.qs_core.specs.declared.answers.Claim.TheVariants as claim
use Rattle.qs_firing.specs.Work.{IsRightFor}
use Rattle.qs_board.specs.Seats.{KnowsClaim}
use Rattle.qs_edge_tests.proofs.Boards.{taken}
use Rattle.qs_edge_tests.proofs.board_tests.take.Goals as goal

pub returns : goal.returns
returns g c =
    let knows : KnowsClaim c.args.board.now c.claim.new.pass c.claim.new.view (claim.Took c.in-Took.taken) = search rules in
    let arc : c.expect-2.result.arc ≡ c.in-Took.taken = search rules in
    let right : IsRightFor c.args.rules.now c.claim.new.view c.expect-2.result = search rules in
    taken c.args.board.now c.claim.new.pass c.claim.new.view c.args.rules.now c.expect-2.result c.in-Took.taken c.claim.ensures.own c.claim.ensures.arcs knows c.requires.rules arc right
