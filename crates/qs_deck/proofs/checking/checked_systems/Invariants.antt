use Rattle.std.proofs.Common.{map}
use Rattle.qs_deck.specs.Decks.{grammar_of}
use Rattle.qs_deck.proofs.CheckSteps.{AreSystemsSoFar}
use Rattle.qs_deck.proofs.checking.checked_systems.Given as goal

abbrev pub invariant-loop-system : goal.invariant-loop-system
invariant-loop-system l = AreSystemsSoFar l.fn.systems.items (map grammar_of l.checked.items) l.system-iterator.rest.items
