-- What is asked of names and conditions, so that what is written of them can be read again.
use Rattle.std.specs.Prelude.{◌≡◌, ℕ, ◌≤◌, List, Option, Some, None, slice_get, not}
use Rattle.qs_lex.specs.Characters.{ends_line, Each}
use Rattle.qs_lex.specs.Spelling.{since}
use Rattle.qs_pattern.specs.Patterns.{count}
use Rattle.qs_pattern.specs.Conditions.{Condition, Conditions, compared, negated, combined, no_condition}
use Rattle.qs_pattern.specs.Conditions.{condition_first, EachList}
use Rattle.qs_pattern.specs.Rules.{UnmarkedRule}
use Rattle.qs_ruletext.specs.Reading.{comparing_word}
use Rattle.qs_ruletext.specs.Texts.{rule_text}

-- no name has a line feed or a carriage return, which no label can have
abbrev pub AreOnOneLine : List (List ℕ) → Type 0
AreOnOneLine names = (k : ℕ) (name : List ℕ) → slice_get names k ≡ Some name → Each (λ b. not (ends_line b)) name

-- each list that a condition compares has a pattern
abbrev pub HasFullLists : Condition → Type 0
HasFullLists c = EachList (λ list. 1 ≤ count list) c

-- texts of this version have each word by which the condition compares lists
abbrev mutual
  pub IsToldIn : ℕ → Condition → Type 0
  IsToldIn version (compared word a b) = since (comparing_word word) ≤ version
  IsToldIn version (negated c) = IsToldIn version c
  IsToldIn version (combined word cs) = AreToldIn version cs

  pub AreToldIn : ℕ → Conditions → Type 0
  AreToldIn version no_condition = Unit {0}
  AreToldIn version (condition_first c cs) = IsToldIn version c × AreToldIn version cs

-- texts of this version tell the rule: it has no condition, or one that they tell
abbrev pub IsToldIfGiven : ℕ → Option Condition → Type 0
IsToldIfGiven version None = Unit {0}
IsToldIfGiven version (Some c) = IsToldIn version c

abbrev pub IsRuleToldIn : ℕ → UnmarkedRule → Type 0
IsRuleToldIn version r = IsToldIfGiven version r.condition

-- The rule as it is written. No text of a rule has the mark.
abbrev pub written : List (List ℕ) → UnmarkedRule → List ℕ
written names r = rule_text names r.left r.right r.condition
