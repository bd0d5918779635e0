-- What a grammar leaves, as the code has it and as the definitions have it.
use Rattle.qs_clean.specs.Cascades.{Ending, all_done, by_limit}
use Rattle.qs_cascade.specs.declared.stages.StageEnd.{StageEnd}
use Rattle.qs_cascade.specs.declared.stages.StageEnd.TheVariants as end

-- How a cascade ends that such a grammar ends.
abbrev pub ending_of : StageEnd → Ending
ending_of (end.Left graph firings) = all_done
ending_of (end.Empty firings) = all_done
ending_of end.Over = by_limit
