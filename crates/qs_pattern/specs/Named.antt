-- Labels that are among the first n, which are those that n names name.
use Rattle.std.specs.Prelude.{ℕ, ◌<◌, Option, Some, None}
use Rattle.qs_pattern.specs.declared.pattern.Head.{Head}
use Rattle.qs_pattern.specs.declared.pattern.Head.TheVariants as head
use Rattle.qs_pattern.specs.Patterns.{Patterns, no_pattern, node_first, tree_var_first, forest_var_first}
use Rattle.qs_pattern.specs.Conditions.{Condition, EachList}

-- Each label in these patterns is one of the first n.
abbrev pub IsHeadNamed : ℕ → Head → Type 0
IsHeadNamed n (head.Label l) = l.0 < n
IsHeadNamed n (head.Var v) = Unit {0}

abbrev pub ArePatternsNamed : ℕ → Patterns → Type 0
ArePatternsNamed n no_pattern = Unit {0}
ArePatternsNamed n (node_first h kids behind) = IsHeadNamed n h × ArePatternsNamed n kids × ArePatternsNamed n behind
ArePatternsNamed n (tree_var_first v behind) = ArePatternsNamed n behind
ArePatternsNamed n (forest_var_first v behind) = ArePatternsNamed n behind

-- Each label in this condition, or in these, is one of the first n; so it is where there is none.
abbrev pub IsConditionNamed : ℕ → Condition → Type 0
IsConditionNamed n c = EachList (ArePatternsNamed n) c

abbrev pub IsNamedIfGiven : ℕ → Option Condition → Type 0
IsNamedIfGiven n None = Unit {0}
IsNamedIfGiven n (Some c) = IsConditionNamed n c
