use Rattle.std.proofs.Common.{take}
use Rattle.qs_canon.specs.working.CanonNumbers.{IsEntered}
use Rattle.qs_canon.proofs.waiting.add_user.Given as goal

abbrev pub invariant-loop-arc : goal.invariant-loop-arc
invariant-loop-arc l = IsEntered l.number (take l.arc-index l.path) l.initial.users l.users
