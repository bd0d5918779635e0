use Rattle.std.proofs.Common.{◌≡◌, ◌++◌, flat_map}
use Rattle.std.specs.List.{range_with_len}
use Rattle.qs_deck.specs.MadeDecks.{level_line}
use Rattle.qs_deck.proofs.made_texts.append_levels.Given as goal

abbrev pub invariant-loop-level : goal.invariant-loop-level
invariant-loop-level l = l.out.items ≡ l.initial.out.items ++ flat_map level_line (range_with_len 0 l.level)
