-- What is answered for lines of words, one after another.
use Rattle.std.specs.Prelude.{◌≡◌, ℕ, ◌+◌, List, drop, Option}
use Rattle.qs_tree.specs.declared.cell.Label.{Label}
use Rattle.qs_clean.specs.Cascades.{Ending}
use Rattle.qs_deck.specs.Decks.{Grammar}
use Rattle.qs_command.specs.declared.status.Status.{Status}
use Rattle.qs_command.specs.declared.status.Status.TheVariants.{Limit}
use Rattle.qs_telling.specs.declared.phrasing.LineEnd.{LineEnd}
use Rattle.qs_telling.specs.declared.phrasing.LineEnd.TheVariants as end
use Rattle.qs_telling.specs.PhraseTexts.{TellsPhrases, either_by_limit, BeginsPhrases}
use Rattle.qs_program.specs.working.Cascading.{DeliversBlocks}

-- The status of lines that ended so, with one more that did.
abbrev pub status_with : Status → LineEnd → Status
status_with status (end.Left graph) = status
status_with status end.Empty = status
status_with status end.Over = Limit

-- The blocks of the lines from this one on, which come behind others: they end so together with the others.
pub record TellsOthers (limit most : ℕ) (names : List (List ℕ)) (grammars : List Grammar) (lines : List (List Label))
    (index : ℕ) (so_far : Ending) (text : List ℕ) (ending : Ending) : Type 0 where
  pub others : Ending
  pub tells : TellsPhrases limit most names grammars (index + 1) (drop index lines) text others
  pub ending_is : ending ≡ either_by_limit so_far others

-- What is told of these lines was delivered, or its first blocks were written.
abbrev pub DeliversPhrases : ℕ → ℕ → List (List ℕ) → List Grammar → List (List Label) → Option (List ℕ)
    → Option (List ℕ) → Status → Type 0
DeliversPhrases limit most names grammars lines old new answer =
    DeliversBlocks (TellsPhrases limit most names grammars 1 lines) (BeginsPhrases limit most names grammars 1 lines)
    old new answer
