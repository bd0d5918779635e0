use Rattle.std.proofs.Common.{◌-◌, ◌++◌, ap, ◌∙◌, arith}
use Rattle.qs_tree.specs.Cells.{cells_of}
use Rattle.qs_machine_tests.proofs.Chains.{chain, chain_on, whole, IsTree-chain, IsNamed-chain}
use Rattle.qs_machine_tests.proofs.tree_tests.chain.Goals as goal

pub loop-left-preserved : goal.loop-left-preserved
loop-left-preserved c =
    ap (λ xs. xs ++ cells_of (chain c.args.label (c.loop-left.left - 1))) c.in_ok-push.ensures.items
    ∙ chain_on c.args.label c.loop-left.left (c.loop-left.left - 1) c.loop-left.cells.items (omega arith)
    ∙ c.loop-left.invariant

pub returns-clause-tree : goal.returns-clause-tree
returns-clause-tree c =
    IsTree-chain c.args.label c.args.depth c.loop-left.cells.items c.requires (whole c.args.label c.loop-left.left _ _ (omega arith) c.loop-left.invariant)

pub returns-clause-named : goal.returns-clause-named
returns-clause-named c =
    IsNamed-chain c.args.label c.args.depth c.loop-left.cells.items c.requires (whole c.args.label c.loop-left.left _ _ (omega arith) c.loop-left.invariant)
