use Rattle.std.proofs.Common.{arith, rules}
use Rattle.qs_core.proofs.Tables.{opens}
use Rattle.qs_core.proofs.statuses.Statuses.of.Goals as goal

pub invariant_of-result : goal.invariant_of-result
invariant_of-result c =
    opens c.in_ok-list.list.items c.in_ok-claims.claims.items c.args.arcs c.args.seats
    (c.in_ok-list.ensures.items_if_clones_equal (λ y e. e)) (c.in_ok-claims.ensures.items_if_clones_equal (search rules))
    (omega (arith, c.ranges.arcs.fits)) (omega (arith, c.ranges.seats.fits))
