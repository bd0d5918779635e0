use Rattle.std.proofs.Common.{length}
use Rattle.qs_explain.proofs.Laid.{rounds_laid, added_are, none_added}
use Rattle.qs_explain.proofs.laws.what_was_added.Goals as goal

pub returns-clause-added : goal.returns-clause-added
returns-clause-added c = λ R accepted G n S s i d is unmet. added_are R (length S.graph.arcs) S.done i d (rounds_laid R accepted G n S s).laid is unmet

pub returns-clause-met : goal.returns-clause-met
returns-clause-met c = λ S i d is met. none_added (length S.graph.arcs) S.done i d is met
