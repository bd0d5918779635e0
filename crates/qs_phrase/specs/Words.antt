-- The graph of a line of words. That a sentence is a chain of words is Colmerauer's (1970); that a word is a tree of
-- one node is this project's own.
use Rattle.std.specs.Prelude.{List, [], map}
use Rattle.qs_tree.specs.declared.cell.Label.{Label}
use Rattle.qs_tree.specs.Trees.{Tree, node}
use Rattle.qs_graph.specs.Graphs.{QGraph}
use Rattle.qs_graph.specs.Chains.{line_graph}

-- A word is a tree of one node, which has the word as its label.
abbrev pub word_tree : Label → Tree
word_tree word = node word []

-- A line of words is the chain of their trees from the node 1 to the node 2, with inner nodes from 3 on.
abbrev pub graph_of_words : List Label → QGraph
graph_of_words words = line_graph 1 (map word_tree words) 2
