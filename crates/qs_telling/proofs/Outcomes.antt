-- The outcome of a cascade, from what its first grammar leaves and the outcome of the others.
use Rattle.std.proofs.Common.{◌≡◌, ℕ, ◌<◌, List, [], ◌∷◌, ◌++◌, length, map, refl, sym, ap, ◌∙◌, subst, arith, length-append, append-nil}
use Rattle.qs_tree.specs.declared.cell.Label.{Label}
use Rattle.qs_tree.specs.Lists.{◌∈◌}
use Rattle.qs_tree.proofs.Members.{from_map}
use Rattle.qs_pattern.specs.Rules.{Rule, IsAccepted}
use Rattle.qs_graph.specs.Graphs.{QGraph, IsValid}
use Rattle.qs_clean.specs.Cascades.{Cascade, Left, a_graph, no_arc, over, Ending, all_done, by_limit, limit, empty, goes_on}
use Rattle.qs_clean.proofs.CascadeExistence.{reached_valid, has_outcome, AllAccepted}
use Rattle.qs_cascade.specs.declared.stages.StageEnd.TheVariants as end
use Rattle.qs_cascade.specs.Stages.{LeavesGraph, IsStageEnd}
use Rattle.qs_deck.specs.Decks.{Grammar}
use Rattle.qs_telling.specs.Outcomes.{block, blocks, IsOutcome}
use Rattle.qs_telling.specs.Cascading.{AreAccepted}

-- the rules of accepted grammars are accepted, grammar by grammar
pub all_accepted : (grammars : List Grammar) → AreAccepted grammars → AllAccepted (map (λ grammar. grammar.rules) grammars)
all_accepted grammars accepted =
    from_map (λ (grammar : Grammar). grammar.rules) grammars (λ (rules : List Rule). (rule : Rule) → rule ∈ rules → IsAccepted rule) accepted

none_left : (L : ℕ) (names : List (List ℕ)) (grammars : List Grammar) → blocks L names grammars [] ≡ []
none_left L names [] = refl
none_left L names (grammar ∷ grammars) = refl

-- a block is not empty
pub block_some : (L : ℕ) (names : List (List ℕ)) (name : Label) (left : Left) → 0 < length (block L names name left)
block_some L names name (a_graph firings graph) = omega arith
block_some L names name (no_arc firings) = omega arith
block_some L names name over = omega arith

-- a grammar that is run leaves something
pub some_left : {L : ℕ} {G : QGraph} {R : List Rule} {Rs : List (List Rule)} {lefts : List Left} {ending : Ending}
    → Cascade L G (R ∷ Rs) lefts ending → 0 < length lefts
some_left (limit needs) = omega arith
some_left (empty closes few cleans none) = omega arith
some_left (goes_on closes few cleans some rest) = omega arith

-- so what is written for a cascade of at least one grammar is not empty
pub blocks_some : (L : ℕ) (names : List (List ℕ)) (grammar : Grammar) (others : List Grammar) (lefts : List Left) → 0 < length lefts
    → 0 < length (blocks L names (grammar ∷ others) lefts)
blocks_some L names grammar others [] some = absurd (omega (arith, some))
blocks_some L names grammar others (left ∷ lefts) some =
    omega (arith, block_some L names grammar.name left, length-append (block L names grammar.name left) (blocks L names others lefts))

module _ (L : ℕ) (names : List (List ℕ)) where
  -- the text of the block behind which nothing comes
  last_block : (grammar : Grammar) (grammars : List Grammar) (left : Left) → block L names grammar.name left ≡ blocks L names (grammar ∷ grammars) (left ∷ [])
  last_block grammar grammars left =
      sym (append-nil (block L names grammar.name left)) ∙ ap (λ (text : List ℕ). block L names grammar.name left ++ text) (sym (none_left L names grammars))

  -- a grammar that leaves a graph, and then the others
  pub more_outcome : (G H : QGraph) (firings : ℕ) (grammar : Grammar) (others : List Grammar) (text : List ℕ) (ending : Ending)
      → LeavesGraph grammar.rules G L firings H → 0 < length H.arcs → IsOutcome L names H others text ending
      → IsOutcome L names G (grammar ∷ others) (block L names grammar.name (a_graph firings H) ++ text) ending
  more_outcome G H firings grammar others text ending leaves some o = record {
    lefts = a_graph firings H ∷ o.lefts;
    cascade =
        subst (λ (n : ℕ). Cascade L G (map (λ grammar. grammar.rules) (grammar ∷ others)) (a_graph n H ∷ o.lefts) ending) (sym leaves.firings_are)
        (goes_on leaves.closes leaves.few leaves.cleans some o.cascade);
    text_is = ap (λ (bytes : List ℕ). block L names grammar.name (a_graph firings H) ++ bytes) o.text_is;
  }

  -- a grammar that leaves no arc is the last one
  pub empty_outcome : (G E : QGraph) (firings : ℕ) (grammar : Grammar) (others : List Grammar) → LeavesGraph grammar.rules G L firings E → E.arcs ≡ []
      → IsOutcome L names G (grammar ∷ others) (block L names grammar.name (no_arc firings)) all_done
  empty_outcome G E firings grammar others leaves none = record {
    lefts = no_arc firings ∷ [];
    cascade =
        subst (λ (n : ℕ). Cascade L G (map (λ grammar. grammar.rules) (grammar ∷ others)) (no_arc n ∷ []) all_done) (sym leaves.firings_are)
        (empty leaves.closes leaves.few leaves.cleans none);
    text_is = last_block grammar others (no_arc firings);
  }

  -- and so is one that needs more firings than the limit
  pub limit_outcome : (G : QGraph) (grammar : Grammar) (others : List Grammar) → IsStageEnd grammar.rules G L end.Over
      → IsOutcome L names G (grammar ∷ others) (block L names grammar.name over) by_limit
  limit_outcome G grammar others needs = record { lefts = over ∷ []; cascade = limit needs; text_is = last_block grammar others over }

  -- a graph that is left is valid
  pub left_valid : (G H : QGraph) (firings : ℕ) (rules : List Rule) → ((rule : Rule) → rule ∈ rules → IsAccepted rule) → IsValid G
      → LeavesGraph rules G L firings H → 0 < length H.arcs → IsValid H
  left_valid G H firings rules accepted valid leaves some =
      reached_valid rules accepted G valid leaves.closes.rounds leaves.closure leaves.closes.reached H leaves.cleans some

  -- each cascade has an outcome
  pub some_outcome : (G : QGraph) (grammars : List Grammar) → AreAccepted grammars → IsValid G → (text : List ℕ) × (ending : Ending) × IsOutcome L names G grammars text ending
  some_outcome G grammars accepted valid =
      let (lefts, ending, cascade) = has_outcome L (map (λ grammar. grammar.rules) grammars) (all_accepted grammars accepted) G valid in
      (blocks L names grammars lefts, ending, record { lefts = lefts; cascade = cascade; text_is = refl })
