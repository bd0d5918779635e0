-- What is told of a cascade, and of one of its grammars.
use Rattle.std.specs.Prelude.{◌≡◌, ℕ, List, [], Option, None, Some}
use Rattle.qs_graph.specs.Graphs.{QGraph}
use Rattle.qs_canon.specs.Closures.{ClosureOf}
use Rattle.qs_clean.specs.Cascades.{Ending}
use Rattle.qs_cascade.specs.declared.stages.StageEnd.{StageEnd}
use Rattle.qs_cascade.specs.declared.stages.StageEnd.TheVariants as end
use Rattle.qs_explain.specs.Support.{SupportOf, IsSupport}
use Rattle.qs_explain.specs.Texts.{support_text}
use Rattle.qs_deck.specs.Decks.{Grammar}
use Rattle.qs_telling.specs.declared.telling.Telling.{Telling}
use Rattle.qs_telling.specs.declared.telling.Telling.TheVariants as telling
use Rattle.qs_telling.specs.Outcomes.{BeginsOutcome, IsOutcome}
use Rattle.qs_telling.specs.Explanations.{BeginsExplanation, Explains}

-- The text that is told of the cascade of these grammars from the graph, and how it ends.
abbrev pub Tells : Telling → ℕ → List (List ℕ) → QGraph → List Grammar → List ℕ → Ending → Type 0
Tells telling.Blocks L names G grammars text ending = IsOutcome L names G grammars text ending
Tells telling.Supports L names G grammars text ending = Explains L names G grammars text ending

-- The text is the first blocks of what is told of the cascade of these grammars from the graph, fewer than all.
abbrev pub Begins : Telling → ℕ → List (List ℕ) → QGraph → List Grammar → List ℕ → Type 0
Begins telling.Blocks L names G grammars text = BeginsOutcome L names G grammars text
Begins telling.Supports L names G grammars text = BeginsExplanation L names G grammars text

-- What stands there, by the closure, where there is one, and what is left of it.
abbrev pub IsSupportIn : List (List ℕ) → Option ClosureOf → StageEnd → List ℕ → Type 0
IsSupportIn names None e text = text ≡ []
IsSupportIn names (Some c) (end.Left H firings) text =
    (s : SupportOf) × IsSupport c.stage s × (text ≡ support_text names c.stage s)
IsSupportIn names (Some c) (end.Empty firings) text = text ≡ []
IsSupportIn names (Some c) end.Over text = text ≡ []
