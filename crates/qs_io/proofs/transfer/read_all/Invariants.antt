-- The text has the bytes that were taken so far, with no fault, and is no longer than a text may be.
use Rattle.std.proofs.Common.{◌≡◌, ◌≤◌, ◌-◌, ◌++◌, vec_len}
use Rattle.std.specs.Io.KnownBytes.{prepend_known}
use Rattle.qs_io.proofs.transfer.read_all.Given as goal

abbrev pub invariant-loop-taken : goal.invariant-loop-taken
invariant-loop-taken g l =
    (g.S.Source.left l.fn.source ≡ prepend_known l.text.items (g.S.Source.left l.source))
    × (vec_len l.text ≤ 4194304)
    × (g.S.Source.faults l.source ≡ g.S.Source.faults l.fn.source)
    × (g.S.Source.given l.source ≡ g.S.Source.given l.fn.source ++ l.text.items)

abbrev pub decreases-loop-taken : goal.decreases-loop-taken
decreases-loop-taken g l = 4194305 - vec_len l.text
