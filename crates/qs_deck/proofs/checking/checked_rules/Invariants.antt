use Rattle.qs_deck.proofs.CheckSteps.{AreCheckedSoFar}
use Rattle.qs_deck.proofs.checking.checked_rules.Given as goal

abbrev pub invariant-loop-raw : goal.invariant-loop-raw
invariant-loop-raw l = AreCheckedSoFar l.unique l.fn.raws.items l.rules.items l.raw-iterator.rest.items
