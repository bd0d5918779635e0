use Rattle.std.proofs.Common.{◌≡◌, ℕ, [], length}
use Rattle.qs_canon.specs.working.CanonCounts.{users_at}
use Rattle.qs_canon.proofs.waiting.empty_lists.Given as goal

abbrev pub invariant-loop : goal.invariant-loop
invariant-loop l = record {
  long : length l.lists.items ≡ l.counter;
  empty : (k : ℕ) → users_at l.lists.items k ≡ [];
}
