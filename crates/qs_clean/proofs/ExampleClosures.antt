-- What the four grammars of the examples close to, or that they need more.
use Rattle.std.proofs.Common.{◌≡◌, ℕ, zero, suc, List, [], ◌∷◌, length, refl, arith}
use Rattle.qs_tree.specs.declared.cell.Label.{Label}
use Rattle.qs_pattern.specs.Patterns.{AreInClass}
use Rattle.qs_pattern.specs.Rules.{Rule, AreLeftSidesInClass}
use Rattle.qs_graph.specs.Graphs.{QGraph}
use Rattle.qs_canon.specs.Rounds.{Stage, start, firings, after, Rounds, Closes, Needs}
use Rattle.qs_clean.specs.Examples.{A, B, C, X, Y, side, rule, one_arc, one_rule, one_rule_closure, equal_rules, equal_rules_closure, endless_rule, overlapping_rules, three_arcs, overlapping_closure}
use Rattle.qs_canon.proofs.Existence.{the_round, the_round-is}
use Rattle.qs_clean.proofs.Straight.{each_of}

-- rules without variables are in class
pub side-class : (ls : List Label) → AreInClass (side ls)
side-class [] = tt
side-class (l ∷ ls) = (tt, tt, side-class ls)

abbrev LeftInClass : Rule → Type 0
LeftInClass r = AreInClass r.left

one_rule-class : AreLeftSidesInClass one_rule
one_rule-class = each_of LeftInClass (rule (A ∷ []) (B ∷ [])) [] (side-class (A ∷ [])) (λ y i. absurd i)

equal_rules-class : AreLeftSidesInClass equal_rules
equal_rules-class = each_of LeftInClass (rule (A ∷ []) (B ∷ [])) one_rule (side-class (A ∷ [])) one_rule-class

endless_rule-class : AreLeftSidesInClass endless_rule
endless_rule-class = each_of LeftInClass (rule (A ∷ []) (A ∷ [])) [] (side-class (A ∷ [])) (λ y i. absurd i)

overlapping_rules-class : AreLeftSidesInClass overlapping_rules
overlapping_rules-class =
    each_of LeftInClass (rule (A ∷ B ∷ []) (X ∷ [])) (rule (B ∷ C ∷ []) (Y ∷ []) ∷ []) (side-class (A ∷ B ∷ []))
    (each_of LeftInClass (rule (B ∷ C ∷ []) (Y ∷ [])) [] (side-class (B ∷ C ∷ [])) (λ y i. absurd i))

-- a stage and its next round
abbrev pub next : List Rule → ℕ → Stage → Stage
next R n S = after R n S (the_round R S.graph (firings S))

pub one_more : (R : List Rule) → AreLeftSidesInClass R → (G : QGraph) (n : ℕ) (S : Stage) → Rounds R G n S → Rounds R G (suc n) (next R (suc n) S)
one_more R ok G n S s = (S, the_round R S.graph (firings S), s, the_round-is R ok S.graph (firings S), refl)

pub one_rule_closes : Closes one_rule one_arc one_rule_closure
one_rule_closes = record {
  rounds = 1;
  reached = one_more one_rule one_rule-class one_arc 0 (start one_arc) refl;
  closed = the_round-is one_rule one_rule-class one_rule_closure.graph (firings one_rule_closure);
}

pub equal_rules_close : Closes equal_rules one_arc equal_rules_closure
equal_rules_close = record {
  rounds = 1;
  reached = one_more equal_rules equal_rules-class one_arc 0 (start one_arc) refl;
  closed = the_round-is equal_rules equal_rules-class equal_rules_closure.graph (firings equal_rules_closure);
}

pub overlapping_rules_close : Closes overlapping_rules three_arcs overlapping_closure
overlapping_rules_close = record {
  rounds = 1;
  reached = one_more overlapping_rules overlapping_rules-class three_arcs 0 (start three_arcs) refl;
  closed = the_round-is overlapping_rules overlapping_rules-class overlapping_closure.graph (firings overlapping_closure);
}

-- the endless rule fires once in each round
abbrev endless : ℕ → Stage
endless zero = start one_arc
endless (suc n) = next endless_rule (suc n) (endless n)

endless-reached : (n : ℕ) → Rounds endless_rule one_arc n (endless n)
endless-reached zero = refl
endless-reached (suc n) = one_more endless_rule endless_rule-class one_arc n (endless n) (endless-reached n)

six_done : length (endless 6).done ≡ 6
six_done = refl

pub endless_rule_needs_more : Needs endless_rule one_arc 5
endless_rule_needs_more = record { rounds = 6; within = omega arith; stage = endless 6; reached = endless-reached 6; more = omega (arith, six_done) }
