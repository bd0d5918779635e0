use Rattle.std.proofs.Common.{[]}
use Rattle.qs_graphtext.specs.GraphOfChains.{numbers_in, different, dense, graph_of}
use Rattle.qs_graphtext.proofs.TreesLaid.{trees_laid, named_laid}
use Rattle.qs_graphtext.proofs.graph_laws.names_stay.Goals as goal

pub returns : goal.returns
returns c = λ n chains h. named_laid n chains (graph_of chains).arcs (trees_laid (dense (numbers_in chains)) (record { nodes = different (numbers_in chains); arcs = [] }) chains) h
