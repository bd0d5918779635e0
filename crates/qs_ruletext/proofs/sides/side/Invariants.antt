use Rattle.std.proofs.Common.{length}
use Rattle.qs_lex.specs.Grammar.{plus, one, part, ◌·◌}
use Rattle.qs_pattern.specs.Patterns.{patterns}
use Rattle.qs_reader.specs.Readers.{rest_of}
use Rattle.qs_ruletext.specs.Grammar.{side, tree, line}
use Rattle.qs_ruletext.specs.working.Readers.{IsReadSoFar}
use Rattle.qs_ruletext.proofs.Growing.{CompletesSide}
use Rattle.qs_ruletext.proofs.sides.side.Given as goal

abbrev pub invariant-loop-reader : goal.invariant-loop-reader
invariant-loop-reader l = IsReadSoFar (line side) (one plus · part tree) (CompletesSide (patterns l.trees.items)) l.fn.reader l.reader l.fn.names l.names

abbrev pub decreases-loop-reader : goal.decreases-loop-reader
decreases-loop-reader l = length (rest_of l.reader)
