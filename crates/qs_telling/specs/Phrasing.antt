-- What is told of one line of words, by how it ends behind its grammars. This project's own.
use Rattle.std.specs.Prelude.{◌≡◌, ℕ, List, ◌++◌, map}
use Rattle.qs_tree.specs.declared.cell.Label.{Label}
use Rattle.qs_pattern.specs.Rules.{Rule}
use Rattle.qs_clean.specs.Cascades.{Ending, all_done, by_limit}
use Rattle.qs_phrase.specs.Words.{graph_of_words}
use Rattle.qs_deck.specs.declared.system.System.{System}
use Rattle.qs_deck.specs.Decks.{Grammar}
use Rattle.qs_telling.specs.declared.phrasing.LineEnd.{LineEnd}
use Rattle.qs_telling.specs.declared.phrasing.LineEnd.TheVariants as end
use Rattle.qs_telling.specs.PhraseTexts.{TellsPhrase, phrase_line}

-- These are the rules of the systems, in their order.
abbrev pub AreReady : List System → List (List Rule) → Type 0
AreReady systems ready = ready ≡ map (λ (system : System). system.rules.items) systems

-- How the cascade ends.
abbrev pub ending_in : LineEnd → Ending
ending_in (end.Left graph) = all_done
ending_in end.Empty = all_done
ending_in end.Over = by_limit

-- The block of the line of these words, which has this number and ends so.
abbrev pub IsBlockOf : ℕ → ℕ → List (List ℕ) → List Grammar → ℕ → List Label → LineEnd → List ℕ → Type 0
IsBlockOf limit most names grammars k words e block =
    (text : List ℕ) × TellsPhrase limit most names grammars (graph_of_words words) text (ending_in e)
    × (block ≡ phrase_line k ++ text)
