-- Lists of conditions whose labels are among the first n.
use Rattle.std.specs.Prelude.{ℕ}
use Rattle.qs_pattern.specs.Conditions.{Conditions}
use Rattle.qs_pattern.specs.working.Conditions.{EachListOfAll}
use Rattle.qs_pattern.specs.Named.{ArePatternsNamed}

abbrev pub AreConditionsNamed : ℕ → Conditions → Type 0
AreConditionsNamed n cs = EachListOfAll (ArePatternsNamed n) cs
