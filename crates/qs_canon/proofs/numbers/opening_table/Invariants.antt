use Rattle.std.proofs.Common.{◌≡◌, ℕ, length, Some, None}
use Rattle.std.specs.Prelude.{if◌then◌else◌, ltb}
use Rattle.qs_canon.specs.working.CanonNumbers.{table_of}
use Rattle.qs_canon.proofs.numbers.opening_table.Given as goal

abbrev pub invariant-loop-number : goal.invariant-loop-number
invariant-loop-number l = record {
  long : length l.table.items ≡ l.len;
  own : (k : ℕ) → table_of l.table.items k ≡ (if ltb k l.number then Some k else None);
}
