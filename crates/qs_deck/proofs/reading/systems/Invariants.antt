use Rattle.std.proofs.Common.{length}
use Rattle.qs_lex.specs.Grammar.{part}
use Rattle.qs_reader.specs.Readers.{rest_of}
use Rattle.qs_deck.specs.Grammar.{system}
use Rattle.qs_deck.specs.working.Readers.{IsReadSoFar, some_systems, Systems}
use Rattle.qs_deck.proofs.reading.systems.Given as goal

abbrev pub invariant-loop-reader : goal.invariant-loop-reader
invariant-loop-reader l = IsReadSoFar some_systems (part system) (Systems l.systems.items) l.fn.reader l.reader l.fn.names l.names

abbrev pub decreases-loop-reader : goal.decreases-loop-reader
decreases-loop-reader l = length (rest_of l.reader)
