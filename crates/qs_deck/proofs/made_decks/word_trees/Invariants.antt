use Rattle.std.proofs.Common.{◌≡◌, ◌-◌, map}
use Rattle.std.specs.List.{range_with_len}
use Rattle.qs_deck.specs.MadeDecks.{word_tree}
use Rattle.qs_deck.proofs.made_decks.word_trees.Given as goal

abbrev pub invariant-loop-word : goal.invariant-loop-word
invariant-loop-word l = l.trees.items ≡ map (word_tree l.size) (range_with_len 1 (l.word - 1))
