use Rattle.std.proofs.Common.{◌≡◌, ◌+◌, length, take}
use Rattle.qs_graph.specs.Limits.{most_read_arcs}
use Rattle.qs_graphtext.specs.GraphOfChains.{trees_in}
use Rattle.qs_graphtext.proofs.making.first_too_many.Given as goal

-- the room that the chains so far leave
abbrev pub invariant-loop-chain : goal.invariant-loop-chain
invariant-loop-chain l = l.room + length (trees_in (take l.chain-index l.chains)) ≡ most_read_arcs
