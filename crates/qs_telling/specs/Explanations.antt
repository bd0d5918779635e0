-- The outcome of a cascade that is explained. This project's own.
use Rattle.std.specs.Prelude.{◌≡◌, ◌≤◌, ◌<◌, ℕ, List, [], ◌∷◌, ◌++◌, length}
use Rattle.qs_graph.specs.Graphs.{QGraph}
use Rattle.qs_canon.specs.Rounds.{Stage, Closes, Needs}
use Rattle.qs_clean.specs.Cleaning.{Cleans}
use Rattle.qs_clean.specs.Cascades.{Ending, all_done, by_limit}
use Rattle.qs_explain.specs.Support.{SupportOf, IsSupport}
use Rattle.qs_explain.specs.Texts.{support_text}
use Rattle.qs_deck.specs.Decks.{Grammar}
use Rattle.qs_telling.specs.Texts.{graph_block, empty_block, limit_block}

-- This text is written where the cascade of these grammars from a graph is explained, with the limit L on the firings
-- of each, and the cascade ends so: the blocks of its outcome, and behind the block of each graph that is left the
-- support of the closure of which it was left.
pub data Explains (L : ℕ) (names : List (List ℕ)) : QGraph → List Grammar → List ℕ → Ending → Type 0 where
  no_more : {G : QGraph} → Explains L names G [] [] all_done
  limit : {G : QGraph} {grammar : Grammar} {grammars : List Grammar} → Needs grammar.rules G L
      → Explains L names G (grammar ∷ grammars) (limit_block names grammar.name L) by_limit
  empty : {G E : QGraph} {grammar : Grammar} {grammars : List Grammar} {C : Stage} → Closes grammar.rules G C
      → length C.done ≤ L → Cleans C E → E.arcs ≡ []
      → Explains L names G (grammar ∷ grammars) (empty_block names grammar.name (length C.done)) all_done
  goes_on : {G H : QGraph} {grammar : Grammar} {grammars : List Grammar} {C : Stage} {support : SupportOf}
      {rest : List ℕ} {end : Ending} → Closes grammar.rules G C → length C.done ≤ L → Cleans C H
      → 0 < length H.arcs → IsSupport C support → Explains L names H grammars rest end
      → Explains L names G (grammar ∷ grammars)
      (graph_block names grammar.name (length C.done) H ++ (support_text names C support ++ rest)) end

-- This text is the first blocks of such an explanation, each with all the lines of its support: a whole number of
-- them, fewer than all, possibly none.
pub data BeginsExplanation (L : ℕ) (names : List (List ℕ)) : QGraph → List Grammar → List ℕ → Type 0 where
  no_block : {G : QGraph} {grammar : Grammar} {grammars : List Grammar}
      → BeginsExplanation L names G (grammar ∷ grammars) []
  block_first : {G H : QGraph} {grammar : Grammar} {grammars : List Grammar} {C : Stage} {support : SupportOf}
      {rest : List ℕ} → Closes grammar.rules G C → length C.done ≤ L → Cleans C H
      → 0 < length H.arcs → IsSupport C support → BeginsExplanation L names H grammars rest
      → BeginsExplanation L names G (grammar ∷ grammars)
      (graph_block names grammar.name (length C.done) H ++ (support_text names C support ++ rest))
