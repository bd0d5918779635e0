use Rattle.std.proofs.Common.{◌≡◌, ◌+◌, ◌*◌, ◌++◌, length}
use Rattle.qs_lex.specs.Grammar.{comma, one, part, ◌·◌}
use Rattle.qs_tree.specs.Trees.{Forest}
use Rattle.qs_tree.specs.Cells.{cells_of}
use Rattle.qs_reader.specs.Readers.{rest_of}
use Rattle.qs_graphtext.specs.Grammar.{plain}
use Rattle.qs_graphtext.specs.working.Readers.{IsReadSoFar, plains_with}
use Rattle.qs_graphtext.proofs.PlainSteps.{CompletesPlains}
use Rattle.qs_graphtext.proofs.plain.+trees.Given as goal

abbrev pub decreases-plain : goal.decreases-plain
decreases-plain l = 3 * length (rest_of l.reader.now)

abbrev pub decreases-plains : goal.decreases-plains
decreases-plains l = 3 * length (rest_of l.reader.now) + 1

abbrev pub decreases-subtrees : goal.decreases-subtrees
decreases-subtrees l = 3 * length (rest_of l.reader.now) + 2

abbrev pub invariant-plains-loop-reader : goal.invariant-plains-loop-reader
invariant-plains-loop-reader l =
    (so_far : Forest) × (l.cells.items ≡ l.fn.cells.items ++ cells_of so_far) × IsReadSoFar (plains_with comma) (one comma · part plain) (CompletesPlains so_far) l.fn.reader l.reader l.fn.names l.names

abbrev pub decreases-plains-loop-reader : goal.decreases-plains-loop-reader
decreases-plains-loop-reader l = length (rest_of l.reader)
