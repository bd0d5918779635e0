use Rattle.std.proofs.Common.{take}
use Rattle.qs_levels.specs.working.Steps.{AreChains}
use Rattle.qs_levels.proofs.chains.chains_of.Given as goal

abbrev pub invariant-loop-place : goal.invariant-loop-place
invariant-loop-place l = AreChains l.limit (take l.place l.numbers) l.last.items l.before.items
