use Rattle.std.proofs.Common.{ℕ, ◌↔◌, ◌≡◌, length, take}
use Rattle.qs_clean.specs.Marks.{IsMarked}
use Rattle.qs_clean.specs.working.Steps.{IsUsed}
use Rattle.qs_clean.proofs.arcs.denoted_arcs.Given as goal

abbrev pub invariant-loop-placed : goal.invariant-loop-placed
invariant-loop-placed l = (length l.marks.items ≡ l.arcs) × ((k : ℕ) → IsMarked l.marks.items k ↔ IsUsed (take l.placed-index l.firings) k)
