use Rattle.std.proofs.Common.{◌≡◌, ◌++◌, take}
use Rattle.qs_explain.specs.Texts.{numbers_text}
use Rattle.qs_explain.proofs.writing.append_numbers.Given as goal

abbrev pub invariant-loop-place : goal.invariant-loop-place
invariant-loop-place l = l.out.items ≡ l.initial.out.items ++ numbers_text (take l.place l.numbers)
