use Rattle.qs_levels.proofs.Bound.{closes, empty, roots}
use Rattle.qs_levels.proofs.laws.level_bound.Goals as goal

pub returns-clause-closes : goal.returns-clause-closes
returns-clause-closes c R accepted d fits G = closes R accepted d fits G

pub returns-clause-empty : goal.returns-clause-empty
returns-clause-empty c R accepted d fits G = empty R accepted d fits G

pub returns-clause-roots : goal.returns-clause-roots
returns-clause-roots c R accepted d fits G = roots R accepted d fits G
