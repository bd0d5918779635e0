-- What a grammar leaves, as the code has it and as the definitions have it.
use Rattle.qs_clean.specs.Cascades.{Left, a_graph, no_arc, over}
use Rattle.qs_cascade.specs.declared.stages.StageEnd.{StageEnd}
use Rattle.qs_cascade.specs.declared.stages.StageEnd.TheVariants as end

-- What is left by a grammar that ends so.
abbrev pub left_of : StageEnd → Left
left_of (end.Left graph firings) = a_graph firings graph
left_of (end.Empty firings) = no_arc firings
left_of end.Over = over
