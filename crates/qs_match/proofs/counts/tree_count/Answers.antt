use Rattle.std.proofs.Common.{ap, ◌∙◌, sym}
use Rattle.qs_pattern.specs.Patterns.{no_pattern}
use Rattle.qs_pattern.specs.working.Patterns.{one_pattern}
use Rattle.qs_match.specs.working.Counts.{singles}
use Rattle.qs_pattern.proofs.PatternLemmas.{pattern-Node}
use Rattle.qs_match.proofs.counts.tree_count.Goals as goal

pub returns-in-Node : goal.returns-in-Node
returns-in-Node c = sym (ap (λ p. singles (one_pattern p)) c.in-Node.is ∙ ap singles (pattern-Node c.in-Node.head c.in-Node.kids no_pattern))
