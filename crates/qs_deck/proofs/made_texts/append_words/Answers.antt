use Rattle.std.proofs.Common.{◌++◌, ap, ◌∙◌, codes, arith}
use Rattle.std.proofs.lemmas.List.{append_assoc}
use Rattle.qs_deck.specs.MadeDecks.{word_text}
use Rattle.qs_deck.proofs.MadeLemmas.{appended_next}
use Rattle.qs_deck.proofs.made_texts.append_words.Goals as goal

pub loop-word-preserved : goal.loop-word-preserved
loop-word-preserved c =
    let out = c.loop-word.out.items in
    appended_next (λ m. codes " + " ++ word_text m) 2 c.loop-word.word c.append_word.new.out.items out c.append_word-in-loop-word.new.out.items
    (omega (arith, c.loop-word.auto.word)) c.loop-word.invariant
    (c.in_ok-append_word-2.ensures ∙ ap (λ text. text ++ word_text c.loop-word.word) c.in_ok-extend_from_slice.ensures.items ∙ append_assoc out (codes " + ") (word_text c.loop-word.word))
