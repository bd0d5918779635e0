use Rattle.std.proofs.Common.{◌≡◌, ◌++◌, drop}
use Rattle.qs_clean.proofs.Places.{places}
use Rattle.qs_explain.proofs.marks.places.Given as goal

abbrev pub invariant-loop-place : goal.invariant-loop-place
invariant-loop-place l = l.places.items ++ places l.place (drop l.place l.marks) ≡ places 0 l.marks
