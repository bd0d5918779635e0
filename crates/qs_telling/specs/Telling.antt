-- What is told of one grammar, by what it leaves. This project's own.
use Rattle.std.specs.Prelude.{◌≡◌, ◌<◌, ℕ, List, [], ◌++◌, length}
use Rattle.qs_tree.specs.declared.cell.Label.{Label}
use Rattle.qs_tree.specs.Lists.{◌∈◌}
use Rattle.qs_pattern.specs.Rules.{Rule}
use Rattle.qs_pattern.specs.Named.{ArePatternsNamed}
use Rattle.qs_graph.specs.Graphs.{QGraph}
use Rattle.qs_graphtext.specs.Texts.{AreArcsNamed}
use Rattle.qs_worker.specs.Crews.{CanRunOn}
use Rattle.qs_cascade.specs.Stages.{LeavesGraph, IsAnswerOfStage}
use Rattle.qs_cascade.specs.declared.stages.StageEnd.{StageEnd}
use Rattle.qs_cascade.specs.declared.stages.StageEnd.TheVariants as end
use Rattle.qs_explain.specs.Support.{SupportOf, IsSupport}
use Rattle.qs_explain.specs.Texts.{support_text}
use Rattle.qs_command.specs.Limits.{IsLimit}
use Rattle.qs_telling.specs.declared.telling.Telling.{Telling}
use Rattle.qs_telling.specs.declared.telling.Telling.TheVariants as telling
use Rattle.qs_telling.specs.Outcomes.{block}
use Rattle.qs_telling.specs.Ends.{left_of}

-- The graph H is left of a closure, with whose support this is written.
pub record IsSupported (L : ℕ) (names : List (List ℕ)) (R : List Rule) (G H : QGraph) (firings : ℕ) (text : List ℕ)
    : Type 0 where
  pub leaves : LeavesGraph R G L firings H
  pub support : SupportOf
  pub is : IsSupport leaves.closure support
  pub text_is : text ≡ support_text names leaves.closure support

-- What stands behind the block of a grammar with these rules that is explained, by what it leaves of G.
abbrev pub IsBehind : ℕ → List (List ℕ) → List Rule → QGraph → StageEnd → List ℕ → Type 0
IsBehind L names R G (end.Left H firings) text = IsSupported L names R G H firings text
IsBehind L names R G (end.Empty firings) text = text ≡ []
IsBehind L names R G end.Over text = text ≡ []

-- A text of which this holds was appended.
abbrev pub IsAppended : (List ℕ → Type 0) → List ℕ → List ℕ → Type 0
IsAppended P old new = (text : List ℕ) × P text × (new ≡ old ++ text)

-- The text that is told of a grammar with this name and these rules, by what it leaves of G.
abbrev pub IsTold : Telling → ℕ → List (List ℕ) → Label → List Rule → QGraph → StageEnd → List ℕ → Type 0
IsTold telling.Blocks L names name R G e text = text ≡ block L names name (left_of e)
IsTold telling.Supports L names name R G e text =
    IsAppended (IsBehind L names R G e) (block L names name (left_of e)) text

-- A grammar with this name and these rules can be run on G with L firings and be told: these are a limit that a job may
-- have and names for the labels of the grammar and of G, and G has room for what the firings add.
pub record CanBeTold (L : ℕ) (names : List (List ℕ)) (name : Label) (R : List Rule) (G : QGraph) : Type 0 where
  pub limit : IsLimit L
  pub can_run : CanRunOn G L
  pub named : name.0 < length names
  pub rules_named : (rule : Rule) → rule ∈ R → ArePatternsNamed (length names) rule.right
  pub arcs_named : AreArcsNamed (length names) G.arcs

-- So a grammar with this name and these rules ends on G, and this is the text that tells it.
pub record TellsStage (telling : Telling) (L : ℕ) (names : List (List ℕ)) (name : Label) (R : List Rule) (G : QGraph)
    (e : StageEnd) (text : List ℕ) : Type 0 where
  pub stage : IsAnswerOfStage R G L e
  pub told : IsTold telling L names name R G e text
