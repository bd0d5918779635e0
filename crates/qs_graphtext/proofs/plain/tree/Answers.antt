use Rattle.std.proofs.Common.{◌∙◌}
use Rattle.qs_graphtext.proofs.Cells.{whole_tree, tree_is, from_nothing}
use Rattle.qs_graphtext.proofs.PlainSteps.{same_tree}
use Rattle.qs_graphtext.proofs.plain.tree.Goals as goal

pub invariant_of-of : goal.invariant_of-of
invariant_of-of c =
    let (tree, put, found) = c.in_ok-plain.ensures.read in
    record { one_tree = whole_tree c.deref.result.now tree (from_nothing c.new-cells.result.items c.plain.new.cells.items c.deref.result.now tree c.new-cells.ensures.items put c.deref.ensures.value) }

pub returns-clause-read : goal.returns-clause-read
returns-clause-read c =
    let (tree, put, found) = c.in_ok-plain.ensures.read in
    let are = from_nothing c.new-cells.result.items c.plain.new.cells.items c.deref.result.now tree c.new-cells.ensures.items put c.deref.ensures.value in
    same_tree (c.in_ok-tree.ensures ∙ tree_is c.deref.result.now tree are) found
