use Rattle.std.proofs.Common.{[]}
use Rattle.qs_graphtext.specs.GraphOfChains.{numbers_in, different, dense}
use Rattle.qs_graphtext.proofs.TreesLaid.{trees_laid}
use Rattle.qs_graphtext.proofs.graph_laws.trees_stay.Goals as goal

pub returns : goal.returns
returns c = λ chains. trees_laid (dense (numbers_in chains)) (record { nodes = different (numbers_in chains); arcs = [] }) chains
