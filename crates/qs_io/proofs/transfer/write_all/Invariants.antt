-- All but the rest of the bytes was appended, with no fault.
use Rattle.std.proofs.Common.{◌≡◌, length}
use Rattle.qs_io.proofs.Transfers.{AppendsUpTo}
use Rattle.qs_io.proofs.transfer.write_all.Given as goal

abbrev pub invariant-loop-rest : goal.invariant-loop-rest
invariant-loop-rest g l =
    AppendsUpTo (g.K.Sink.written l.fn.sink) (g.K.Sink.written l.sink) l.bytes l.rest
    × (g.K.Sink.faults l.sink ≡ g.K.Sink.faults l.fn.sink)

abbrev pub decreases-loop-rest : goal.decreases-loop-rest
decreases-loop-rest g l = length l.rest
