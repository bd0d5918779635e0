use Rattle.std.proofs.Common.{◌≡◌, ◌+◌, ◌-◌, ◌≤◌, length}
use Rattle.qs_deck.specs.PhraseTexts.{lines_from, first_border, border_of}
use Rattle.qs_deck.proofs.lines.border_of.Given as goal

-- none of the lines in front of this byte is the border
abbrev pub invariant-loop-at : goal.invariant-loop-at
invariant-loop-at l =
    (border_of l.text ≡ first_border (lines_from l.text l.at)) × (l.at ≤ length l.text + 1)

abbrev pub decreases-loop-at : goal.decreases-loop-at
decreases-loop-at l = length l.text + 1 - l.at
