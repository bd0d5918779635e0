use Rattle.std.proofs.Common.{[], ◌∷◌, ◌++◌, ap, ◌∙◌, arith}
use Rattle.qs_deck.specs.MadeDecks.{word_tree}
use Rattle.qs_deck.proofs.MadeLemmas.{listed_next}
use Rattle.qs_deck.proofs.made_decks.word_trees.Goals as goal

pub loop-word-preserved : goal.loop-word-preserved
loop-word-preserved c =
    listed_next (word_tree c.args.size) 1 c.loop-word.word [] c.loop-word.trees.items c.push.new.self.items (omega (arith, c.loop-word.auto.word)) c.loop-word.invariant
    (c.in_ok-push.ensures.items ∙ ap (λ tree. c.loop-word.trees.items ++ tree ∷ []) c.in_ok-word_tree.ensures)
