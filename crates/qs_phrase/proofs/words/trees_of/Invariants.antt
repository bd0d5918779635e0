use Rattle.std.proofs.Common.{◌≡◌, map, take}
use Rattle.qs_phrase.specs.Words.{word_tree}
use Rattle.qs_phrase.proofs.words.trees_of.Given as goal

abbrev pub invariant-loop-word : goal.invariant-loop-word
invariant-loop-word l = l.trees.items ≡ map word_tree (take l.word-index l.words)
