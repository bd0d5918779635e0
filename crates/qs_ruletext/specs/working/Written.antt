-- Lists of conditions that compare no empty list.
use Rattle.std.specs.Prelude.{◌≤◌}
use Rattle.qs_pattern.specs.Patterns.{count}
use Rattle.qs_pattern.specs.Conditions.{Conditions}
use Rattle.qs_pattern.specs.working.Conditions.{EachListOfAll}

abbrev pub HaveFullLists : Conditions → Type 0
HaveFullLists cs = EachListOfAll (λ list. 1 ≤ count list) cs
