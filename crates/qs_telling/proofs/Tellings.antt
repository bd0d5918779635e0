-- What is told of a cascade, from what is told of its first grammar and of the others.
use Rattle.std.proofs.Common.{◌≡◌, ℕ, ◌<◌, List, [], ◌∷◌, ◌++◌, length, Option, Some, None, refl, sym, ap, ◌∙◌, subst, inl, inr, ⊎_elim, arith, append_assoc, append-nil}
use Rattle.std.specs.Prelude.{IfSome}
use Rattle.qs_explain.proofs.Grounded.{one_support}
use Rattle.qs_tree.specs.Lists.{◌∈◌}
use Rattle.qs_pattern.specs.Rules.{Rule, IsAccepted}
use Rattle.qs_pattern.specs.Named.{ArePatternsNamed}
use Rattle.qs_graph.specs.Graphs.{QGraph, IsValid}
use Rattle.qs_graphtext.specs.Texts.{AreArcsNamed}
use Rattle.qs_canon.specs.Rounds.{Stage, Closes, ClosesWithin}
use Rattle.qs_canon.specs.Closures.{ClosureOf}
use Rattle.qs_canon.proofs.Existence.{has_rounds}
use Rattle.qs_canon.proofs.Progress.{closes_or_needs}
use Rattle.qs_clean.specs.Cleaning.{IsLeft}
use Rattle.qs_clean.specs.Cascades.{Left, a_graph, no_arc, over, Ending, all_done, by_limit}
use Rattle.qs_clean.specs.Cascades as plain
use Rattle.qs_clean.proofs.CascadeExistence.{reached_left, reached_valid}
use Rattle.qs_clean.proofs.Outcomes.{same_both}
use Rattle.qs_canon.proofs.Rounds.{not_both}
use Rattle.qs_cascade.specs.declared.stages.StageEnd.{StageEnd}
use Rattle.qs_cascade.specs.declared.stages.StageEnd.TheVariants as end
use Rattle.qs_cascade.specs.ClosureEnds.{IsClosureEnd, HasNoNewLabels}
use Rattle.qs_cascade.specs.Stages.{IsStageEnd, IsEndBehind}
use Rattle.qs_explain.specs.Support.{SupportOf, IsSupport}
use Rattle.qs_explain.specs.Texts.{support_text}
use Rattle.qs_explain.proofs.Existence.{something_supported}
use Rattle.qs_deck.specs.Decks.{Grammar}
use Rattle.qs_telling.specs.declared.telling.Telling.{Telling}
use Rattle.qs_telling.specs.declared.telling.Telling.TheVariants as telling
use Rattle.qs_telling.specs.Texts.{graph_block, empty_block, limit_block}
use Rattle.qs_telling.specs.Outcomes.{block, BeginsOutcome, IsOutcome}
use Rattle.qs_telling.specs.Outcomes as outcome
use Rattle.qs_telling.specs.Explanations.{BeginsExplanation, Explains, no_block, block_first, no_more, limit, empty, goes_on}
use Rattle.qs_telling.specs.working.Telling.{Begins, Tells, IsSupportIn}
use Rattle.qs_telling.specs.Telling.{IsTold, IsBehind, IsSupported}
use Rattle.qs_telling.specs.Cascading.{AreAccepted}
use Rattle.qs_telling.proofs.Outcomes.{blocks_some, some_left, more_outcome, empty_outcome, limit_outcome, some_outcome, left_valid}

-- of each stage that accepted rules reach something is supported
abbrev Supported : Stage → Type 0
Supported C = (s : SupportOf) × IsSupport C s

some_support : (R : List Rule) → ((rule : Rule) → rule ∈ R → IsAccepted rule) → (G : QGraph) → IsValid G → (C : Stage) → Closes R G C → Supported C
some_support R accepted G valid C closes = something_supported R accepted G valid closes.rounds C closes.reached

-- each cascade has an explanation
module _ (L : ℕ) (names : List (List ℕ)) where
  abbrev Explained : QGraph → List Grammar → Type 0
  Explained G grammars = (text : List ℕ) × (ending : Ending) × Explains L names G grammars text ending

  module _ (grammar : Grammar) (accepted : (rule : Rule) → rule ∈ grammar.rules → IsAccepted rule) (others : List Grammar) (G : QGraph) (valid : IsValid G)
      (next : (H : QGraph) → IsValid H → Explained H others) where
    closed_explained : ClosesWithin grammar.rules G L → Explained G (grammar ∷ others)
    closed_explained w = by (reached_left grammar.rules accepted G valid w.closes.rounds w.closure w.closes.reached)
      where
        by : (r : Option QGraph) × IsLeft w.closure r → Explained G (grammar ∷ others)
        by (None, (E, cleans, none)) = (empty_block names grammar.name (length w.closure.done), all_done, empty w.closes w.few cleans none)
        by (Some H, (cleans, some)) =
            let (rest, ending, more) = next H (reached_valid grammar.rules accepted G valid w.closes.rounds w.closure w.closes.reached H cleans some) in
            let (support, is) = some_support grammar.rules accepted G valid w.closure w.closes in
            (graph_block names grammar.name (length w.closure.done) H ++ (support_text names w.closure support ++ rest), ending, goes_on w.closes w.few cleans some is more)

    one_explained : Explained G (grammar ∷ others)
    one_explained = ⊎_elim
        closed_explained
        (λ needs. (limit_block names grammar.name L, by_limit, limit needs))
        (closes_or_needs grammar.rules (has_rounds grammar.rules (λ rule i. (accepted rule i).left.in_class)) G L)

  pub some_explained : (grammars : List Grammar) → AreAccepted grammars → (G : QGraph) → IsValid G → Explained G grammars
  some_explained [] accepted G valid = ([], all_done, no_more)
  some_explained (grammar ∷ others) accepted G valid =
      one_explained grammar (accepted grammar (inl refl)) others G valid (λ H ok. some_explained others (λ g i. accepted g (inr i)) H ok)

-- what is told of at least one grammar is not empty
explained_some : {L : ℕ} {names : List (List ℕ)} {G : QGraph} {grammar : Grammar} {others : List Grammar} {text : List ℕ} {ending : Ending}
    → Explains L names G (grammar ∷ others) text ending → 0 < length text
explained_some {names = names} {grammar = grammar} (limit needs) = omega arith
explained_some {names = names} {grammar = grammar} (empty closes few cleans none) = omega arith
explained_some {names = names} {grammar = grammar} (goes_on closes few cleans some is rest) = omega arith

pub told_some : (t : Telling) (L : ℕ) (names : List (List ℕ)) (G : QGraph) (grammar : Grammar) (others : List Grammar) (text : List ℕ) (ending : Ending)
    → Tells t L names G (grammar ∷ others) text ending → 0 < length text
told_some telling.Blocks L names G grammar others text ending o =
    subst (λ (bytes : List ℕ). 0 < length bytes) (sym o.text_is) (blocks_some L names grammar others o.lefts (some_left o.cascade))
told_some telling.Supports L names G grammar others text ending o = explained_some o

-- no grammar
pub none_told : (t : Telling) (L : ℕ) (names : List (List ℕ)) (G : QGraph) → Tells t L names G [] [] all_done
none_told telling.Blocks L names G = record { lefts = []; cascade = plain.no_more; text_is = refl }
none_told telling.Supports L names G = no_more

-- each cascade
pub some_told : (t : Telling) (L : ℕ) (names : List (List ℕ)) (G : QGraph) (grammars : List Grammar) → AreAccepted grammars → IsValid G
    → (text : List ℕ) × (ending : Ending) × Tells t L names G grammars text ending
some_told telling.Blocks L names G grammars accepted valid = some_outcome L names G grammars accepted valid
some_told telling.Supports L names G grammars accepted valid = some_explained L names grammars accepted G valid

-- a block with its support, and what stands behind them
supported_text : {G : QGraph} (L : ℕ) (names : List (List ℕ)) (H : QGraph) (firings : ℕ) (grammar : Grammar) (text more behind : List ℕ)
    (supported : IsSupported L names grammar.rules G H firings behind) → text ≡ graph_block names grammar.name firings H ++ behind
    → text ++ more ≡ graph_block names grammar.name (length supported.leaves.closure.done) H ++ (support_text names supported.leaves.closure supported.support ++ more)
supported_text L names H firings grammar text more behind supported told =
    ap (λ (bytes : List ℕ). bytes ++ more) told ∙ append_assoc (graph_block names grammar.name firings H) behind more
    ∙ ap (λ (bytes : List ℕ). graph_block names grammar.name firings H ++ (bytes ++ more)) supported.text_is
    ∙ ap (λ (n : ℕ). graph_block names grammar.name n H ++ (support_text names supported.leaves.closure supported.support ++ more)) supported.leaves.firings_are

-- a grammar that leaves a graph, and then the others
pub more_told : (t : Telling) (L : ℕ) (names : List (List ℕ)) (G H : QGraph) (firings : ℕ) (grammar : Grammar) (others : List Grammar) (text more : List ℕ) (ending : Ending)
    → IsTold t L names grammar.name grammar.rules G (end.Left H firings) text → IsStageEnd grammar.rules G L (end.Left H firings)
    → Tells t L names H others more ending → Tells t L names G (grammar ∷ others) (text ++ more) ending
more_told telling.Blocks L names G H firings grammar others text more ending told is o =
    subst (λ (bytes : List ℕ). IsOutcome L names G (grammar ∷ others) (bytes ++ more) ending) (sym told)
    (more_outcome L names G H firings grammar others more ending is.0 is.1 o)
more_told telling.Supports L names G H firings grammar others text more ending (behind, supported, told) is o =
    subst (λ (bytes : List ℕ). Explains L names G (grammar ∷ others) bytes ending) (sym (supported_text L names H firings grammar text more behind supported told))
    (goes_on supported.leaves.closes supported.leaves.few supported.leaves.cleans is.1 supported.is o)

-- the first blocks: none of them
pub none_begun : (t : Telling) (L : ℕ) (names : List (List ℕ)) (G : QGraph) (grammar : Grammar) (others : List Grammar) → Begins t L names G (grammar ∷ others) []
none_begun telling.Blocks L names G grammar others = outcome.no_block
none_begun telling.Supports L names G grammar others = no_block

-- that of a grammar that leaves a graph, and then the first ones of the others
pub more_begun : (t : Telling) (L : ℕ) (names : List (List ℕ)) (G H : QGraph) (firings : ℕ) (grammar : Grammar) (others : List Grammar) (text more : List ℕ)
    → IsTold t L names grammar.name grammar.rules G (end.Left H firings) text → IsStageEnd grammar.rules G L (end.Left H firings)
    → Begins t L names H others more → Begins t L names G (grammar ∷ others) (text ++ more)
more_begun telling.Blocks L names G H firings grammar others text more told is o =
    subst (λ (bytes : List ℕ). BeginsOutcome L names G (grammar ∷ others) (bytes ++ more))
    (sym (told ∙ ap (λ (n : ℕ). graph_block names grammar.name n H) is.0.firings_are))
    (outcome.block_first is.0.closes is.0.few is.0.cleans is.1 o)
more_begun telling.Supports L names G H firings grammar others text more (behind, supported, told) is o =
    subst (BeginsExplanation L names G (grammar ∷ others)) (sym (supported_text L names H firings grammar text more behind supported told))
    (block_first supported.leaves.closes supported.leaves.few supported.leaves.cleans is.1 supported.is o)

-- a grammar that leaves no arc is the last one
pub empty_told : (t : Telling) (L : ℕ) (names : List (List ℕ)) (G : QGraph) (firings : ℕ) (grammar : Grammar) (others : List Grammar) (text : List ℕ)
    → IsTold t L names grammar.name grammar.rules G (end.Empty firings) text → IsStageEnd grammar.rules G L (end.Empty firings)
    → Tells t L names G (grammar ∷ others) text all_done
empty_told telling.Blocks L names G firings grammar others text told is =
    subst (λ (bytes : List ℕ). IsOutcome L names G (grammar ∷ others) bytes all_done) (sym told)
    (empty_outcome L names G is.0 firings grammar others is.1 is.2)
empty_told telling.Supports L names G firings grammar others text (behind, none, told) is =
    subst (λ (bytes : List ℕ). Explains L names G (grammar ∷ others) bytes all_done) (sym same)
    (empty is.1.closes is.1.few is.1.cleans is.2)
  where
    same : text ≡ empty_block names grammar.name (length is.1.closure.done)
    same =
        told ∙ ap (λ (bytes : List ℕ). empty_block names grammar.name firings ++ bytes) none ∙ append-nil (empty_block names grammar.name firings)
        ∙ ap (λ (n : ℕ). empty_block names grammar.name n) is.1.firings_are

-- and so is one that needs more firings than the limit
pub limit_told : (t : Telling) (L : ℕ) (names : List (List ℕ)) (G : QGraph) (grammar : Grammar) (others : List Grammar) (text : List ℕ)
    → IsTold t L names grammar.name grammar.rules G end.Over text → IsStageEnd grammar.rules G L end.Over
    → Tells t L names G (grammar ∷ others) text by_limit
limit_told telling.Blocks L names G grammar others text told is =
    subst (λ (bytes : List ℕ). IsOutcome L names G (grammar ∷ others) bytes by_limit) (sym told) (limit_outcome L names G grammar others is)
limit_told telling.Supports L names G grammar others text (behind, none, told) is =
    subst (λ (bytes : List ℕ). Explains L names G (grammar ∷ others) bytes by_limit) (sym same) (limit is)
  where
    same : text ≡ limit_block names grammar.name L
    same = told ∙ ap (λ (bytes : List ℕ). limit_block names grammar.name L ++ bytes) none ∙ append-nil (limit_block names grammar.name L)

module _ (t : Telling) (L : ℕ) (names : List (List ℕ)) where
  -- something is told also where the first grammar is known to end so
  pub told_behind : (G : QGraph) (grammar : Grammar) (others : List Grammar) → AreAccepted (grammar ∷ others) → IsValid G → (e : StageEnd) → IsStageEnd grammar.rules G L e
      → (text : List ℕ) → IsTold t L names grammar.name grammar.rules G e text → (more : List ℕ) × (ending : Ending) × Tells t L names G (grammar ∷ others) (text ++ more) ending
  told_behind G grammar others accepted valid (end.Left H firings) is text told =
      let valid_left = left_valid L names G H firings grammar.rules (accepted grammar (inl refl)) valid is.0 is.1 in
      let (more, ending, o) = some_told t L names H others (λ g i. accepted g (inr i)) valid_left in
      (more, ending, more_told t L names G H firings grammar others text more ending told is o)
  told_behind G grammar others accepted valid (end.Empty firings) is text told = (
    [],
    all_done,
    subst (λ (bytes : List ℕ). Tells t L names G (grammar ∷ others) bytes all_done) (sym (append-nil text))
        (empty_told t L names G firings grammar others text told is),
  )
  told_behind G grammar others accepted valid end.Over is text told = (
    [],
    by_limit,
    subst (λ (bytes : List ℕ). Tells t L names G (grammar ∷ others) bytes by_limit) (sym (append-nil text)) (limit_told t L names G grammar others text told is),
  )

-- a cascade has one explanation
pub one_explanation : {L : ℕ} {names : List (List ℕ)} {G : QGraph} {grammars : List Grammar} {t u : List ℕ} {e d : Ending}
    → Explains L names G grammars t e → Explains L names G grammars u d → (t ≡ u) × (e ≡ d)
one_explanation no_more no_more = (refl, refl)
one_explanation (limit n) (limit m) = (refl, refl)
one_explanation (limit n) (empty c few k z) = absurd (not_both _ _ _ _ c few n)
one_explanation (limit n) (goes_on c few k p s o) = absurd (not_both _ _ _ _ c few n)
one_explanation (empty c few k z) (limit m) = absurd (not_both _ _ _ _ c few m)
one_explanation {names = names} (empty {grammar = g} c few k z) (empty c' few' k' z') =
    (ap (λ (S : Stage). empty_block names g.name (length S.done)) (same_both c c' k k').0, refl)
one_explanation (empty c few k z) (goes_on c' few' k' p' s' o') = absurd (omega (arith, p', ap length (sym (ap (λ (G : QGraph). G.arcs) (same_both c c' k k').1) ∙ z)))
one_explanation (goes_on c few k p s o) (limit m) = absurd (not_both _ _ _ _ c few m)
one_explanation (goes_on c few k p s o) (empty c' few' k' z') = absurd (omega (arith, p, ap length (ap (λ (G : QGraph). G.arcs) (same_both c c' k k').1 ∙ z')))
one_explanation {L} {names} (goes_on {grammar = g} {grammars = gs} {support = s} {end = end} c few k p is o) (goes_on {C = D} {support = s'} {rest = r'} {end = end'} c' few' k' p' is' o') =
    let both = same_both c c' k k' in
    let ih = one_explanation o (subst (λ (G : QGraph). Explains L names G gs r' end') (sym both.1) o') in
    let same = one_support D s s' (subst (λ (S : Stage). IsSupport S s) both.0 is) is' in
    ((λ i. graph_block names g.name (length (both.0 i).done) (both.1 i) ++ (support_text names (both.0 i) (same i) ++ ih.0 i)), ih.1)

-- what stands behind a block, by the closure
pub support_behind : (L : ℕ) (names : List (List ℕ)) (R : List Rule) (G : QGraph) (closure : Option ClosureOf) (e : StageEnd) → IsEndBehind closure e → IsClosureEnd R G L closure
    → (text : List ℕ) → IsSupportIn names closure e text → IsBehind L names R G e text
support_behind L names R G None (end.Left H firings) is x text s = absurd is
support_behind L names R G None (end.Empty firings) is x text s = absurd is
support_behind L names R G None end.Over is x text s = s
support_behind L names R G (Some c) (end.Left H firings) is x text (support, it, same) =
    record {
      leaves = record { closure = c.stage; closes = x.0.closes; few = x.1; firings_are = is.2; cleans = is.0 };
      support = support;
      is = it;
      text_is = same;
    }
support_behind L names R G (Some c) (end.Empty firings) is x text s = s
support_behind L names R G (Some c) end.Over is x text s = absurd is

-- the labels of a closure are named where those of the rules and of the start are
pub arcs_named : (R : List Rule) (G : QGraph) (closure : Option ClosureOf) → IfSome closure (HasNoNewLabels R G) → (n : ℕ)
    → ((rule : Rule) → rule ∈ R → ArePatternsNamed n rule.right) → AreArcsNamed n G.arcs → IfSome closure (λ c. AreArcsNamed n c.stage.graph.arcs)
arcs_named R G None none_new n right named = tt
arcs_named R G (Some c) none_new n right named = none_new n right named
