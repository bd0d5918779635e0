use Rattle.std.proofs.Common.{◌≡◌, length, take}
use Rattle.qs_canon.specs.working.CanonCounts.{paths_of, AreUsers}
use Rattle.qs_canon.proofs.waiting.users_of.Given as goal

abbrev pub invariant-loop-number : goal.invariant-loop-number
invariant-loop-number l = record {
  long : length l.users.items ≡ l.arcs;
  users : AreUsers (paths_of (take l.number l.fired)) l.users.items;
}
