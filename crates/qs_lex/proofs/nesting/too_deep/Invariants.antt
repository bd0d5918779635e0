use Rattle.std.proofs.Common.{◌≡◌, ℕ, ◌<◌, ◌≤◌, take}
use Rattle.qs_lex.specs.Limits.{most_open}
use Rattle.qs_lex.specs.Nesting.{open_count, IsTooDeep}
use Rattle.qs_lex.proofs.nesting.too_deep.Given as goal

abbrev pub invariant-loop-i : goal.invariant-loop-i
invariant-loop-i l = record {
  few : l.open ≤ most_open;
  counted : l.open ≡ open_count (take l.i l.tokens);
  none_yet : (place : ℕ) → place < l.i → IsTooDeep l.tokens place → ⊥;
}
