use Rattle.std.proofs.Common.{◌≡◌, drop}
use Rattle.qs_pattern.specs.Substitutions.{value_of}
use Rattle.qs_pattern.proofs.subst.Subst.get.Given as goal

abbrev pub invariant-loop-pair : goal.invariant-loop-pair
invariant-loop-pair l = value_of (drop l.pair-index l.pair-items) l.var ≡ value_of l.self l.var
