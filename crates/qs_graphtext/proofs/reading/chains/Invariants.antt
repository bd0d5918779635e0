use Rattle.std.proofs.Common.{length}
use Rattle.qs_lex.specs.Grammar.{part}
use Rattle.qs_reader.specs.Readers.{rest_of}
use Rattle.qs_graphtext.specs.Grammar.{chain}
use Rattle.qs_graphtext.specs.working.Readers.{IsReadSoFar, some_chains}
use Rattle.qs_graphtext.proofs.ChainSteps.{CompletesChains}
use Rattle.qs_graphtext.proofs.reading.chains.Given as goal

abbrev pub invariant-loop-reader : goal.invariant-loop-reader
invariant-loop-reader l = IsReadSoFar some_chains (part chain) (CompletesChains l.chains.items) l.fn.reader l.reader l.fn.names l.names

abbrev pub decreases-loop-reader : goal.decreases-loop-reader
decreases-loop-reader l = length (rest_of l.reader)
