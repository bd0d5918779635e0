use Rattle.std.proofs.Common.{◌+◌, ◌-◌, length}
use Rattle.qs_deck.specs.working.Phrases.{ReadsLinesTo}
use Rattle.qs_deck.proofs.lines.read_lines.Given as goal

abbrev pub invariant-loop-at : goal.invariant-loop-at
invariant-loop-at l = ReadsLinesTo l.text (l.fn.border + 10) l.at l.fn.names l.names l.words.items l.ends.items

abbrev pub decreases-loop-at : goal.decreases-loop-at
decreases-loop-at l = length l.text + 1 - l.at
