use Rattle.qs_graphtext.proofs.LayingSteps.{IsLaying}
use Rattle.qs_graphtext.proofs.laying.lay.Given as goal

abbrev pub invariant-loop-chain : goal.invariant-loop-chain
invariant-loop-chain l = IsLaying l.nodes l.fn.chains.items l.laid.nodes l.laid.edges.items l.chain-iterator.rest.items
