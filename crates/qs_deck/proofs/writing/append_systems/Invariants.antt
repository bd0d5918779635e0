use Rattle.std.proofs.Common.{◌≡◌, ◌++◌, take, map}
use Rattle.std.specs.Prelude.{flat_map}
use Rattle.qs_deck.specs.Decks.{grammar_of}
use Rattle.qs_deck.specs.Texts.{grammar_text}
use Rattle.qs_deck.proofs.writing.append_systems.Given as goal

abbrev pub invariant-loop-system : goal.invariant-loop-system
invariant-loop-system l = l.out.items ≡ l.initial.out.items ++ flat_map (grammar_text l.names) (map grammar_of (take l.system-index l.systems))
