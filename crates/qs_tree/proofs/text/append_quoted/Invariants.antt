use Rattle.std.proofs.Common.{◌≡◌, ◌++◌, ◌∷◌, take}
use Rattle.qs_tree.specs.Text.{doubled}
use Rattle.qs_tree.proofs.text.append_quoted.Given as goal

abbrev pub invariant-loop-byte : goal.invariant-loop-byte
invariant-loop-byte l = l.out.items ≡ l.fn.out.items ++ 34 ∷ doubled (take l.byte-index l.text)
