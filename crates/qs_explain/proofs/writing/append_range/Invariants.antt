use Rattle.std.proofs.Common.{◌≡◌, ◌⊎◌, ◌≤◌, ◌-◌, ◌++◌}
use Rattle.qs_firing.specs.Adding.{from_on}
use Rattle.qs_explain.specs.Texts.{numbers_text}
use Rattle.qs_explain.proofs.writing.append_range.Given as goal

abbrev pub invariant-loop-number : goal.invariant-loop-number
invariant-loop-number l = ((l.number ≡ l.from) ⊎ (l.number ≤ l.to)) × (l.out.items ≡ l.initial.out.items ++ numbers_text (from_on l.from (l.number - l.from)))
