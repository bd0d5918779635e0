use Rattle.std.proofs.Common.{◌≡◌, take}
use Rattle.qs_ruletext.specs.Rules.{cell_bytes}
use Rattle.qs_ruletext.proofs.rules.bytes_of_cells.Given as goal

abbrev pub invariant-loop-token : goal.invariant-loop-token
invariant-loop-token l = l.bytes.items ≡ cell_bytes (take l.token-index l.tokens)
