use Rattle.std.proofs.Common.{◌≡◌, length, map, drop}
use Rattle.qs_deck.specs.Decks.{grammar_of}
use Rattle.qs_telling.specs.working.Cascading.{CanGoOn}
use Rattle.qs_program.specs.working.Cascading.{HasRun}
use Rattle.qs_program.proofs.cascade.cascade.Given as goal

abbrev pub invariant-loop-system : goal.invariant-loop-system
invariant-loop-system g l =
    HasRun l.teller.telling l.teller.limit l.teller.names.now l.initial.graph (map grammar_of l.systems) (g.K.Sink.written l.fn.sink) (g.K.Sink.written l.sink) l.graph (map grammar_of (drop l.system-index l.systems))
    × CanGoOn l.teller.names.now l.graph (length (drop l.system-index l.systems))
    × (g.K.Sink.faults l.sink ≡ g.K.Sink.faults l.fn.sink)
