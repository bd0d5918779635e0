use Rattle.std.proofs.Common.{ℕ, List, ◌++◌, map, drop}
use Rattle.qs_deck.specs.Decks.{grammar_of}
use Rattle.qs_telling.specs.LevelTexts.{TellsLevels}
use Rattle.qs_telling.proofs.levels.levels_text.Given as goal

abbrev pub invariant-loop-system : goal.invariant-loop-system
invariant-loop-system l =
    (rest : List ℕ) → TellsLevels l.names (map grammar_of (drop l.system-index l.systems)) rest
    → TellsLevels l.names (map grammar_of l.systems) (l.text.items ++ rest)
