-- What a refusal of arcs means for chains.
use Rattle.qs_graph.specs.declared.making.GraphEnd.{GraphEnd}
use Rattle.qs_graph.specs.declared.making.GraphEnd.TheVariants as graph_end
use Rattle.qs_graphtext.specs.declared.chain_end.ChainEnd.{ChainEnd}
use Rattle.qs_graphtext.specs.declared.chain_end.ChainEnd.TheVariants as chain_end

-- The cause of the same name.
abbrev pub end_of : GraphEnd → ChainEnd
end_of graph_end.Cycle = chain_end.Cycle
end_of graph_end.Entries = chain_end.Entries
end_of graph_end.Exits = chain_end.Exits
end_of graph_end.Memory = chain_end.Memory
