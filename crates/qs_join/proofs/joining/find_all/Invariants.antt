use Rattle.std.proofs.Common.{◌≡◌, [], take}
use Rattle.qs_join.specs.working.Searching.{ThroughOne, Finds}
use Rattle.qs_join.proofs.joining.find_all.Given as goal

abbrev pub invariant-loop-place : goal.invariant-loop-place
invariant-loop-place l = record {
  finds : Finds (ThroughOne l.rules l.view l.newest (take l.place-index l.places)) l.initial.found.items l.found.items;
  empty : l.buffer.items ≡ [];
}
