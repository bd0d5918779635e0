-- Why a rule isn't accepted, and at which of its cells: the first cause that applies. Cells are counted from 0. (This
-- project.)
use Rattle.std.specs.Prelude.{◌≡◌, ℕ, ◌+◌, ◌<◌, ◌≤◌, List, length, take, Some, slice_get}
use Rattle.qs_tree.specs.Lists.{◌∈◌}
use Rattle.qs_lex.specs.declared.refusal.Cause.{Cause}
use Rattle.qs_lex.specs.declared.refusal.Cause.TheVariants.{SideTooLong, TooManyCells, TooManyVariables, Unbound}
use Rattle.qs_pattern.specs.declared.variable.Var.{Var}
use Rattle.qs_pattern.specs.declared.pattern.Head.{Head}
use Rattle.qs_pattern.specs.declared.pattern.Head.TheVariants as head
use Rattle.qs_pattern.specs.Variables.{firsts}
use Rattle.qs_pattern.specs.Patterns.{Patterns, count, cells, variables_in}
use Rattle.qs_pattern.specs.Limits.{most_patterns, most_cells, most_variables}
use Rattle.qs_pattern.specs.Rules.{UnmarkedRule, rule_cells, rule_variables}
use Rattle.qs_ruletext.specs.Reading.{joined}
use Rattle.qs_check.specs.Cells.{written_rule, variables_among}

-- The root of the 17th tree of a side is its cell of this number: the cells of the 16 trees in front of it come first.
pub record Has17th (side : Patterns) (place : ℕ) : Type 0 where
  pub front : Patterns
  pub behind : Patterns
  pub are : side ≡ joined front behind
  pub sixteen : count front ≡ most_patterns
  pub more : 0 < count behind
  pub cells_before : place ≡ cells front

-- No side has more than 16 trees.
pub record HasShortSides (rule : UnmarkedRule) : Type 0 where
  pub left : count rule.left ≤ most_patterns
  pub right : count rule.right ≤ most_patterns

-- At this cell the 33rd different variable occurs first: it is new, and 32 different variables are before it.
pub record Has33rd (cells : List Head) (place : ℕ) : Type 0 where
  pub var : Var
  pub at : slice_get cells place ≡ Some (head.Var var)
  pub new : var ∈ variables_among (take place cells) → ⊥
  pub before : length (firsts (variables_among (take place cells))) ≡ most_variables

-- At this cell stands the first variable of the cells that isn't one of the left side's.
pub record HasUnbound (cells : List Head) (left : List Var) (place : ℕ) : Type 0 where
  pub var : Var
  pub at : slice_get cells place ≡ Some (head.Var var)
  pub unbound : var ∈ left → ⊥
  pub bound_before : (v : Var) → v ∈ variables_among (take place cells) → v ∈ left

-- The first cause that applies and its cell: a side of more than 16 trees, the left side first; more than 256 cells;
-- more than 32 different variables; a variable that isn't in the left side.
pub data IsFirstCause (rule : UnmarkedRule) : Cause → ℕ → Type 0 where
  left_too_long : {place : ℕ} → Has17th rule.left place → IsFirstCause rule SideTooLong place
  right_too_long : {place : ℕ} → count rule.left ≤ most_patterns → Has17th rule.right place
      → IsFirstCause rule SideTooLong (cells rule.left + place)
  too_many_cells : HasShortSides rule → most_cells < rule_cells rule → IsFirstCause rule TooManyCells most_cells
  too_many_variables : {place : ℕ} → HasShortSides rule → rule_cells rule ≤ most_cells
      → Has33rd (written_rule rule) place → IsFirstCause rule TooManyVariables place
  unbound : {place : ℕ}
      → HasShortSides rule → rule_cells rule ≤ most_cells → length (firsts (rule_variables rule)) ≤ most_variables
      → HasUnbound (written_rule rule) (variables_in rule.left) place → IsFirstCause rule Unbound place
