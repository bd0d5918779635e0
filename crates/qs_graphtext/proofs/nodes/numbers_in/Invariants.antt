use Rattle.std.proofs.Common.{◌≡◌, take}
use Rattle.qs_graphtext.specs.GraphOfChains.{numbers_in}
use Rattle.qs_graphtext.proofs.nodes.numbers_in.Given as goal

abbrev pub invariant-loop-chain : goal.invariant-loop-chain
invariant-loop-chain l = l.numbers.items ≡ numbers_in (take l.chain-index l.chains)
