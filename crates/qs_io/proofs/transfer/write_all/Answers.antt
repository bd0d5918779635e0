-- A write that fails leaves what was appended before it, and any other appends the front of the rest.
use Rattle.std.proofs.Common.{arith}
use Rattle.qs_io.proofs.Transfers.{AppendsProperPrefix-from_AppendsUpTo, AppendsUpTo-more, some_left}
use Rattle.qs_io.proofs.transfer.write_all.Goals as goal

pub returns-in_default-clause-prefix : goal.returns-in_default-clause-prefix
returns-in_default-clause-prefix g c =
    AppendsProperPrefix-from_AppendsUpTo c.loop-rest.invariant.0 (some_left c.loop-rest.rest.now c.loop-rest-test.ensures) c.in_default.ensures.stays

pub loop-rest-preserved : goal.loop-rest-preserved
loop-rest-preserved g c = (AppendsUpTo-more c.in-Ok.taken c.loop-rest.invariant.0 c.in-Ok.ensures.bytes c.in-Ok.ensures.bound, omega (arith, c.loop-rest.invariant.1, c.in-Ok.ensures.no_fault))
