-- What small grammars of unique rules close to, computed.
use Rattle.std.proofs.Common.{◌≡◌, ℕ, suc, List, [], ◌∷◌, length, refl, sym, subst, ⊎_elim, arith}
use Rattle.qs_pattern.specs.Patterns.{AreInClass}
use Rattle.qs_pattern.specs.Rules.{Rule, AreLeftSidesInClass}
use Rattle.qs_graph.specs.Graphs.{QGraph}
use Rattle.qs_canon.specs.Rounds.{Stage, start, firings, after, Rounds, Closes, Needs}
use Rattle.qs_canon.specs.Merging.{A, B, C, rule, one_arc, itself, itself_closure, twice, twice_closure, several, several_closure, at_start, equal_arcs, at_start_closure, circle, circle_closure, either, two_arcs, either_closure}
use Rattle.qs_canon.proofs.Existence.{the_round, the_round-is}

-- a rule from one label is in class
one : (r : Rule) → AreInClass r.left → AreLeftSidesInClass (r ∷ [])
one r c q i = ⊎_elim (λ e. subst (λ (x : Rule). AreInClass x.left) (sym e) c) (λ h. absurd h) i

two : (r s : Rule) → AreInClass r.left → AreInClass s.left → AreLeftSidesInClass (r ∷ s ∷ [])
two r s c d q i = ⊎_elim (λ e. subst (λ (x : Rule). AreInClass x.left) (sym e) c) (one s d q) i

itself-class : AreLeftSidesInClass itself
itself-class = one (rule A (A ∷ [])) (tt, tt, tt)

twice-class : AreLeftSidesInClass twice
twice-class = two (rule A (B ∷ [])) (rule A (B ∷ [])) (tt, tt, tt) (tt, tt, tt)

several-class : AreLeftSidesInClass several
several-class = two (rule A (B ∷ C ∷ [])) (rule A (B ∷ C ∷ [])) (tt, tt, tt) (tt, tt, tt)

at_start-class : AreLeftSidesInClass at_start
at_start-class = one (rule A (B ∷ [])) (tt, tt, tt)

circle-class : AreLeftSidesInClass circle
circle-class = two (rule A (B ∷ [])) (rule B (A ∷ [])) (tt, tt, tt) (tt, tt, tt)

pub either-class : AreLeftSidesInClass either
either-class = two (rule A (B ∷ [])) (rule C (B ∷ [])) (tt, tt, tt) (tt, tt, tt)

-- a stage and its next round
abbrev next : List Rule → ℕ → Stage → Stage
next R n S = after R n S (the_round R S.graph (firings S))

one_more : (R : List Rule) → AreLeftSidesInClass R → (G : QGraph) (n : ℕ) (S : Stage) → Rounds R G n S → Rounds R G (suc n) (next R (suc n) S)
one_more R ok G n S s = (S, the_round R S.graph (firings S), s, the_round-is R ok S.graph (firings S), refl)

-- one round reaches the closure
module _ (R : List Rule) (ok : AreLeftSidesInClass R) (G : QGraph) where
  abbrev first_stage : Stage
  first_stage = next R 1 (start G)

  first : Rounds R G 1 first_stage
  first = one_more R ok G 0 (start G) refl

pub itself-closes : Closes itself one_arc itself_closure
itself-closes = record { rounds = 1; reached = first itself itself-class one_arc; closed = the_round-is itself itself-class itself_closure.graph (firings itself_closure) }

pub twice-closes : Closes twice one_arc twice_closure
twice-closes = record { rounds = 1; reached = first twice twice-class one_arc; closed = the_round-is twice twice-class twice_closure.graph (firings twice_closure) }

pub several-closes : Closes several one_arc several_closure
several-closes = record { rounds = 1; reached = first several several-class one_arc; closed = the_round-is several several-class several_closure.graph (firings several_closure) }

pub at_start-closes : Closes at_start equal_arcs at_start_closure
at_start-closes = record { rounds = 1; reached = first at_start at_start-class equal_arcs; closed = the_round-is at_start at_start-class at_start_closure.graph (firings at_start_closure) }

pub either-closes : Closes either two_arcs either_closure
either-closes = record { rounds = 1; reached = first either either-class two_arcs; closed = the_round-is either either-class either_closure.graph (firings either_closure) }

circle-reached : Rounds circle one_arc 2 circle_closure
circle-reached = one_more circle circle-class one_arc 1 (first_stage circle circle-class one_arc) (first circle circle-class one_arc)

pub circle-closes : Closes circle one_arc circle_closure
circle-closes = record { rounds = 2; reached = circle-reached; closed = the_round-is circle circle-class circle_closure.graph (firings circle_closure) }

circle-done : length circle_closure.done ≡ 2
circle-done = refl

pub circle-needs : Needs circle one_arc 1
circle-needs = record { rounds = 2; within = omega arith; stage = circle_closure; reached = circle-reached; more = omega (arith, circle-done) }
