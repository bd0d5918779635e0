-- Lists of conditions of the code as such lists.
use Rattle.std.specs.Prelude.{List, [], ◌∷◌}
use Rattle.qs_pattern.specs.declared.condition.Cond.{Cond}
use Rattle.qs_pattern.specs.Patterns.{Patterns}
use Rattle.qs_pattern.specs.Substitutions.{Substitution}
use Rattle.qs_pattern.specs.Instances.{IsCovered}
use Rattle.qs_pattern.specs.Conditions.{Conditions, no_condition, condition_first, condition_of, over_all_lists}

abbrev pub conditions : List Cond → Conditions
conditions [] = no_condition
conditions (c ∷ cs) = condition_first (condition_of c) (conditions cs)

abbrev pub EachListOfAll : (Patterns → Type 0) → Conditions → Type 0
EachListOfAll P cs = over_all_lists (Unit {0}) (λ A B. A × B) P cs

abbrev pub AreConditionsCovered : Substitution → Conditions → Type 0
AreConditionsCovered s cs = EachListOfAll (IsCovered s) cs
