use Rattle.std.proofs.Common.{◌+◌, ◌-◌, length}
use Rattle.qs_deck.specs.working.Phrases.{ReadsWordsTo}
use Rattle.qs_deck.proofs.lines.read_words.Given as goal

abbrev pub invariant-loop-at : goal.invariant-loop-at
invariant-loop-at l = ReadsWordsTo l.text l.fn.from l.at l.count l.fn.names l.names l.fn.words.items l.words.items

abbrev pub decreases-loop-at : goal.decreases-loop-at
decreases-loop-at l = length l.text + 1 - l.at
