use Rattle.qs_canon.proofs.CanonDoing.{IsDoing}
use Rattle.qs_canon.proofs.numbers.Numbers.do_round.Given as goal

abbrev pub invariant-loop-place : goal.invariant-loop-place
invariant-loop-place l = IsDoing l.end.machine l.initial.self l.self l.round l.fn.firings.items l.place-iterator.rest.items
