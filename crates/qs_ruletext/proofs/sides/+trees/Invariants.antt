use Rattle.std.proofs.Common.{◌+◌, ◌*◌, length}
use Rattle.qs_lex.specs.Grammar.{comma, one, part, ◌·◌}
use Rattle.qs_pattern.specs.Patterns.{patterns}
use Rattle.qs_reader.specs.Readers.{rest_of}
use Rattle.qs_ruletext.specs.Grammar.{list, item, line}
use Rattle.qs_ruletext.specs.working.Readers.{IsReadSoFar}
use Rattle.qs_ruletext.proofs.Growing.{CompletesList}
use Rattle.qs_ruletext.proofs.sides.+trees.Given as goal

abbrev pub decreases-item : goal.decreases-item
decreases-item l = 4 * length (rest_of l.reader.now) + 1

abbrev pub decreases-list : goal.decreases-list
decreases-list l = 4 * length (rest_of l.reader.now) + 2

abbrev pub decreases-subtrees : goal.decreases-subtrees
decreases-subtrees l = 4 * length (rest_of l.reader.now) + 3

abbrev pub decreases-tree : goal.decreases-tree
decreases-tree l = 4 * length (rest_of l.reader.now)

abbrev pub invariant-list-loop-reader : goal.invariant-list-loop-reader
invariant-list-loop-reader l = IsReadSoFar (line list) (one comma · part item) (CompletesList (patterns l.items.items)) l.fn.reader l.reader l.fn.names l.names

abbrev pub decreases-list-loop-reader : goal.decreases-list-loop-reader
decreases-list-loop-reader l = length (rest_of l.reader)
