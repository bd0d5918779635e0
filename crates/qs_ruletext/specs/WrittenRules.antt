-- Rules as they are read, before it is asked whether they are accepted.
use Rattle.std.specs.Prelude.{ℕ, List}
use Rattle.qs_pattern.specs.Rules.{UnmarkedRule}

-- A rule as it was read: the rule, with no limit on its size and without a mark, which no text of a rule has; and the
-- byte of the text at which each of its cells begins.
pub record WrittenRule : Type 0 where
  pub rule : UnmarkedRule
  pub at : List ℕ
