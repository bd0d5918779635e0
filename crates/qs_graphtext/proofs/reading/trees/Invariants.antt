use Rattle.std.proofs.Common.{length}
use Rattle.qs_lex.specs.Grammar.{plus, one, part, ◌·◌}
use Rattle.qs_reader.specs.Readers.{rest_of}
use Rattle.qs_graphtext.specs.Grammar.{plain}
use Rattle.qs_graphtext.specs.working.Readers.{IsReadSoFar, plains_with}
use Rattle.qs_graphtext.proofs.ChainSteps.{CompletesTrees}
use Rattle.qs_graphtext.proofs.reading.trees.Given as goal

abbrev pub invariant-loop-reader : goal.invariant-loop-reader
invariant-loop-reader l = IsReadSoFar (plains_with plus) (one plus · part plain) (CompletesTrees l.trees.items l.at.items) l.fn.reader l.reader l.fn.names l.names

abbrev pub decreases-loop-reader : goal.decreases-loop-reader
decreases-loop-reader l = length (rest_of l.reader)
