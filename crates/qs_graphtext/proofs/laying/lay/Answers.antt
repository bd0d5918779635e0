use Rattle.qs_graphtext.proofs.LayingSteps.{laying_read}
use Rattle.qs_graphtext.proofs.laying.lay.Goals as goal

pub loop-chain-preserved : goal.loop-chain-preserved
loop-chain-preserved c =
    laying_read c.args.nodes.now c.args.chains.items c.loop-chain.laid.nodes c.loop-chain.laid.edges.items
    (record { from = c.chain.inside.from; trees = c.chain.inside.trees.items; to = c.chain.inside.to; at = c.chain.inside.at.items }) c.in-Some.chain c.loop-chain.chain-iterator.rest.items c.next.new.self.rest.items
    c.add.new.self.nodes c.add.new.self.edges.items c.dense-from.result c.dense-to.result c.chain.view_is c.in-Some.ensures.steps.0 c.dense-from.ensures c.dense-to.ensures c.in_ok-add.ensures c.loop-chain.invariant
