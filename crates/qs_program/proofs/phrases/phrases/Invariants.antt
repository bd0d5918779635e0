use Rattle.std.proofs.Common.{◌≡◌, map}
use Rattle.qs_clean.specs.Cascades.{Ending}
use Rattle.qs_deck.specs.Decks.{grammar_of}
use Rattle.qs_program.specs.Defined.{status_of}
use Rattle.qs_program.proofs.PhraseTurns.{HasTold}
use Rattle.qs_program.proofs.phrases.phrases.Given as goal

abbrev pub invariant-loop-index : goal.invariant-loop-index
invariant-loop-index g l =
    ((so_far : Ending) × (l.status ≡ status_of so_far)
    × HasTold l.teller.limit l.teller.readings l.teller.names.now (map grammar_of l.teller.systems.now) l.lines (g.K.Sink.written l.fn.sink) l.index so_far (g.K.Sink.written l.sink))
    × (g.K.Sink.faults l.sink ≡ g.K.Sink.faults l.fn.sink)
