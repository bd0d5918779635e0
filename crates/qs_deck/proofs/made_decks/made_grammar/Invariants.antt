use Rattle.std.proofs.Common.{◌≡◌, map}
use Rattle.std.specs.List.{range_with_len}
use Rattle.qs_deck.specs.MadeDecks.{level_rule}
use Rattle.qs_deck.proofs.made_decks.made_grammar.Given as goal

abbrev pub invariant-loop-level : goal.invariant-loop-level
invariant-loop-level l = l.rules.items ≡ map level_rule (range_with_len 0 l.level)
