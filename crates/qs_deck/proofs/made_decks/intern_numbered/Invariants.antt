use Rattle.std.proofs.Common.{◌≡◌, ◌-◌, ◌++◌, map}
use Rattle.std.specs.List.{range_with_len}
use Rattle.qs_deck.specs.working.MadeParts.{numbered}
use Rattle.qs_deck.proofs.made_decks.intern_numbered.Given as goal

abbrev pub invariant-loop-number : goal.invariant-loop-number
invariant-loop-number l = l.names ≡ l.initial.names ++ map (numbered l.letter) (range_with_len l.first (l.number - l.first))
