-- What is asked of a rule that is checked, and how checking it ends.
use Rattle.std.specs.Prelude.{◌≡◌, ℕ, ◌≤◌, length, Some, slice_get}
use Rattle.qs_pattern.specs.Patterns.{count, AreInClass, NoForestAtTop}
use Rattle.qs_pattern.specs.Rules.{rule_cells, IsInClassIfGiven, HasEnoughMembersIfGiven}
use Rattle.qs_ruletext.specs.WrittenRules.{WrittenRule}
use Rattle.qs_check.specs.declared.checking.CheckEnd.{CheckEnd}
use Rattle.qs_check.specs.declared.checking.CheckEnd.TheVariants.{Refused, Memory}
use Rattle.qs_check.specs.Causes.{IsFirstCause}

-- What each rule that was read has: sides that aren't empty, without a forest variable at the top; variables at places
-- of their classes; at least two members wherever conditions are joined; and a byte for each cell.
pub record CanBeChecked (raw : WrittenRule) : Type 0 where
  pub left_some : 1 ≤ count raw.rule.left
  pub right_some : 1 ≤ count raw.rule.right
  pub left_top : NoForestAtTop raw.rule.left
  pub right_top : NoForestAtTop raw.rule.right
  pub left_in_class : AreInClass raw.rule.left
  pub right_in_class : AreInClass raw.rule.right
  pub condition_in_class : IsInClassIfGiven raw.rule.condition
  pub members : HasEnoughMembersIfGiven raw.rule.condition
  pub bytes : length raw.at ≡ rule_cells raw.rule

-- How checking ends without a rule: with the first cause that applies and the byte of its cell. Want of memory may come
-- at any time.
abbrev pub EndsWith : WrittenRule → CheckEnd → Type 0
EndsWith raw (Refused cause at) = (place : ℕ) × IsFirstCause raw.rule cause place × (slice_get raw.at place ≡ Some at)
EndsWith raw Memory = Unit {0}
