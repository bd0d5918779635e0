use Rattle.std.proofs.Common.{◌≡◌, ◌-◌, ◌++◌, codes, flat_map}
use Rattle.std.specs.List.{range_with_len}
use Rattle.qs_deck.specs.MadeDecks.{word_text}
use Rattle.qs_deck.proofs.made_texts.append_words.Given as goal

abbrev pub invariant-loop-word : goal.invariant-loop-word
invariant-loop-word l =
    l.out.items ≡ l.initial.out.items ++ flat_map (λ m. codes " + " ++ word_text m) (range_with_len 2 (l.word - 2))
