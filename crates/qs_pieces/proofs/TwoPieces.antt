-- A cascade that leaves a graph, and another one that goes on with it, are one cascade: what both leave is left by the
-- grammars of both, and the blocks of both are written. And what is known of a graph that such a cascade leaves.
use Rattle.std.proofs.Common.{◌≡◌, ℕ, List, [], ◌∷◌, ◌++◌, length, map, Some, refl, sym, ap, ◌∙◌, subst, inl, inr, arith, append_assoc}
use Rattle.std.proofs.lemmas.List.{length-map, map-append}
use Rattle.qs_tree.specs.Lists.{◌∈◌}
use Rattle.qs_tree.specs.Text.{IsNamed}
use Rattle.qs_tree.proofs.Members.{from_map}
use Rattle.qs_pattern.specs.Rules.{Rule, IsAccepted}
use Rattle.qs_pattern.specs.Named.{ArePatternsNamed}
use Rattle.qs_graph.specs.Graphs.{QGraph, IsValid}
use Rattle.qs_graphtext.specs.Texts.{AreArcsNamed}
use Rattle.qs_canon.specs.Rounds.{Stage, Closes}
use Rattle.qs_canon.proofs.Naming.{rounds_named}
use Rattle.qs_clean.specs.Cleaning.{Cleans}
use Rattle.qs_clean.specs.Cascades.{Cascade, Left, a_graph, no_arc, over, Ending, all_done, no_more, limit, empty, goes_on}
use Rattle.qs_clean.proofs.CascadeExistence.{reached_valid, AllAccepted}
use Rattle.qs_clean.proofs.Fewer.{old_tree}
use Rattle.qs_deck.specs.Decks.{Grammar}
use Rattle.qs_telling.specs.Outcomes.{block, blocks, IsOutcome, last_graph}
use Rattle.qs_telling.specs.Cascading.{AreAccepted}
use Rattle.qs_telling.proofs.Outcomes.{all_accepted}
use Rattle.qs_pieces.specs.Pieces.{Leaves}
use Rattle.qs_pieces.proofs.RenamedGrammars.{IsLeftNamed}

-- one behind the other

-- a graph that is left is one graph
same_graph : {K M : QGraph} → Some K ≡ Some M → K ≡ M
same_graph e = cc

-- cascades one behind the other
pub cascades_together : {L : ℕ} {G H : QGraph} {Rs Qs : List (List Rule)} {lefts more : List Left} {end : Ending} → Cascade L G Rs lefts all_done → last_graph G lefts ≡ Some H
    → Cascade L H Qs more end → Cascade L G (Rs ++ Qs) (lefts ++ more) end
cascades_together {L} {Qs = Qs} {more = more} {end = end} (no_more {G = G}) last behind =
    subst (λ (K : QGraph). Cascade L K Qs more end) (sym (same_graph last)) behind
cascades_together (empty c few k z) last behind = absurd cc
cascades_together (goes_on c few k p o) last behind = goes_on c few k p (cascades_together o last behind)

-- where a graph is left, each grammar left something
as_many : {L : ℕ} {G H : QGraph} {Rs : List (List Rule)} {lefts : List Left} → Cascade L G Rs lefts all_done → last_graph G lefts ≡ Some H → length lefts ≡ length Rs
as_many no_more last = refl
as_many (empty c few k z) last = absurd cc
as_many (goes_on c few k p o) last = omega (arith, as_many o last)

module _ (L : ℕ) (names : List (List ℕ)) where
  -- blocks one behind the other
  blocks_together : (P Q : List Grammar) (lefts more : List Left) → length lefts ≡ length P → blocks L names (P ++ Q) (lefts ++ more) ≡ blocks L names P lefts ++ blocks L names Q more
  blocks_together [] Q [] more many = refl
  blocks_together [] Q (left ∷ lefts) more many = absurd (omega arith)
  blocks_together (grammar ∷ P) Q [] more many = absurd (omega arith)
  blocks_together (grammar ∷ P) Q (left ∷ lefts) more many =
      ap (λ (text : List ℕ). block L names grammar.name left ++ text) (blocks_together P Q lefts more (omega arith))
      ∙ sym (append_assoc (block L names grammar.name left) (blocks L names P lefts) (blocks L names Q more))

  -- outcomes one behind the other
  pub outcome_together : (G H : QGraph) (P Q : List Grammar) (first second : List ℕ) (ending : Ending) → Leaves L names G P first H → IsOutcome L names H Q second ending
      → IsOutcome L names G (P ++ Q) (first ++ second) ending
  outcome_together G H P Q first second ending one other = record {
    lefts = one.lefts ++ other.lefts;
    cascade =
        subst (λ (Rs : List (List Rule)). Cascade L G Rs (one.lefts ++ other.lefts) ending) (sym (map-append (λ (grammar : Grammar). grammar.rules) P Q))
        (cascades_together one.cascade one.last other.cascade);
    text_is =
        ap (λ (text : List ℕ). text ++ second) one.text_is ∙ ap (λ (text : List ℕ). blocks L names P one.lefts ++ text) other.text_is
        ∙ sym (blocks_together P Q one.lefts other.lefts (as_many one.cascade one.last ∙ length-map P (λ (grammar : Grammar). grammar.rules)));
  }

-- what is left

-- a cascade over a valid graph leaves a valid graph
kept_valid : {L : ℕ} {G H : QGraph} {Rs : List (List Rule)} {lefts : List Left} → AllAccepted Rs → IsValid G → Cascade L G Rs lefts all_done → last_graph G lefts ≡ Some H → IsValid H
kept_valid accepted valid no_more last = subst IsValid (same_graph last) valid
kept_valid accepted valid (empty c few k z) last = absurd cc
kept_valid accepted valid (goes_on {G = G} {H = K} {R = R} {C = C} c few k p o) last =
    kept_valid (λ Q i. accepted Q (inr i)) (reached_valid R (accepted R (inl refl)) G valid c.rounds C c.reached K k p) o last

module _ (n : ℕ) where
  -- each label in the right sides of these rules is one of the first n
  abbrev AreRightsNamed : List Rule → Type 0
  AreRightsNamed R = (rule : Rule) → rule ∈ R → ArePatternsNamed n rule.right

  -- a grammar leaves no other labels
  names_kept : (R : List Rule) → ((rule : Rule) → rule ∈ R → IsAccepted rule) → AreRightsNamed R → (G : QGraph) → AreArcsNamed n G.arcs
      → (C : Stage) → Closes R G C → (H : QGraph) → Cleans C H → AreArcsNamed n H.arcs
  names_kept R accepted right G named C closes H cleans arc i =
      let (was, j, e) = old_tree C H cleans arc i in
      subst (IsNamed n) (sym e) (rounds_named n R accepted right G named closes.rounds C closes.reached was j)

  -- nor does a cascade
  each_named : {L : ℕ} {G : QGraph} {Rs : List (List Rule)} {lefts : List Left} {end : Ending} → AllAccepted Rs → ((R : List Rule) → R ∈ Rs → AreRightsNamed R) → AreArcsNamed n G.arcs
      → Cascade L G Rs lefts end → (left : Left) → left ∈ lefts → IsLeftNamed n left
  each_named accepted right named no_more left i = absurd i
  each_named accepted right named (limit needs) left (inl e) = subst (IsLeftNamed n) (sym e) tt
  each_named accepted right named (limit needs) left (inr i) = absurd i
  each_named accepted right named (empty c few k z) left (inl e) = subst (IsLeftNamed n) (sym e) tt
  each_named accepted right named (empty c few k z) left (inr i) = absurd i
  each_named accepted right named (goes_on {G = G} {H = K} {R = R} {C = C} c few k p o) left (inl e) =
      subst (IsLeftNamed n) (sym e) (names_kept R (accepted R (inl refl)) (right R (inl refl)) G named C c K k)
  each_named accepted right named (goes_on {G = G} {H = K} {R = R} {C = C} c few k p o) left (inr i) =
      each_named (λ Q j. accepted Q (inr j)) (λ Q j. right Q (inr j)) (names_kept R (accepted R (inl refl)) (right R (inl refl)) G named C c K k) o left i

  -- the last graph is one of those that were left
  last_named : (G H : QGraph) (lefts : List Left) → AreArcsNamed n G.arcs → ((left : Left) → left ∈ lefts → IsLeftNamed n left) → last_graph G lefts ≡ Some H → AreArcsNamed n H.arcs
  last_named G H [] named each last = subst (λ (K : QGraph). AreArcsNamed n K.arcs) (same_graph last) named
  last_named G H (a_graph firings K ∷ lefts) named each last = last_named K H lefts (each (a_graph firings K) (inl refl)) (λ left i. each left (inr i)) last
  last_named G H (no_arc firings ∷ lefts) named each last = absurd cc
  last_named G H (over ∷ lefts) named each last = absurd cc

  -- each graph that the grammars of a cascade leave has no labels but those of its start and of the right sides
  pub lefts_named : (L : ℕ) (G : QGraph) (grammars : List Grammar) (lefts : List Left) (ending : Ending) → AreAccepted grammars
      → ((grammar : Grammar) → grammar ∈ grammars → AreRightsNamed grammar.rules) → AreArcsNamed n G.arcs
      → Cascade L G (map (λ grammar. grammar.rules) grammars) lefts ending → (left : Left) → left ∈ lefts → IsLeftNamed n left
  lefts_named L G grammars lefts ending accepted right named cascade =
      each_named (all_accepted grammars accepted) (from_map (λ (grammar : Grammar). grammar.rules) grammars AreRightsNamed right) named cascade

module _ (L : ℕ) (names : List (List ℕ)) (G H : QGraph) (P : List Grammar) (text : List ℕ) (accepted : AreAccepted P) (leaves : Leaves L names G P text H) where
  -- what is left is valid
  pub left_valid : IsValid G → IsValid H
  left_valid valid = kept_valid (all_accepted P accepted) valid leaves.cascade leaves.last

  -- its labels are among those of the graph and of the right sides
  pub left_named : (n : ℕ) → ((grammar : Grammar) → grammar ∈ P → (rule : Rule) → rule ∈ grammar.rules → ArePatternsNamed n rule.right) → AreArcsNamed n G.arcs → AreArcsNamed n H.arcs
  left_named n right named = last_named n G H leaves.lefts named (lefts_named n L G P leaves.lefts all_done accepted right named leaves.cascade) leaves.last
