-- The grammars that are left behind the first ones, and how they go on with the graph that is left.
use Rattle.std.proofs.Common.{◌≡◌, ℕ, zero, suc, ◌+◌, ◌<◌, ◌≤◌, List, [], ◌∷◌, length, map, drop, get_or, sym, ap, ◌∙◌, inl, inr, arith}
use Rattle.qs_tree.specs.Lists.{◌∈◌}
use Rattle.qs_tree.proofs.Members.{from_map, in_map}
use Rattle.qs_pattern.specs.Rules.{Rule, IsAccepted}
use Rattle.qs_pattern.specs.Named.{ArePatternsNamed}
use Rattle.qs_graph.specs.Graphs.{QGraph}
use Rattle.qs_cascade.specs.declared.stages.StageEnd.TheVariants as end
use Rattle.qs_cascade.specs.Stages.{LeavesGraph, GrowsWithin, IsEndNamed}
use Rattle.qs_deck.specs.declared.system.System.{System}
use Rattle.qs_deck.specs.Decks.{Grammar, grammar_of}
use Rattle.qs_deck.specs.Named.{AreSystemsNamed}
use Rattle.qs_telling.specs.declared.telling.Telling.{Telling}
use Rattle.qs_telling.specs.Cascading.{AreAccepted}
use Rattle.qs_telling.specs.working.Cascading.{CanGoOn}
use Rattle.qs_telling.proofs.Outcomes.{left_valid}

module _ (t : Telling) (L : ℕ) (names : List (List ℕ)) where
  -- there is room for one grammar less
  pub goes_on_with : (G H : QGraph) (firings n : ℕ) (rules : List Rule) → L ≤ 1000000 → CanGoOn names G (suc n) → ((rule : Rule) → rule ∈ rules → IsAccepted rule)
      → LeavesGraph rules G L firings H → 0 < length H.arcs → GrowsWithin G L (end.Left H firings) → IsEndNamed (length names) (end.Left H firings) → CanGoOn names H n
  goes_on_with G H firings n rules few can accepted leaves some grows named = record {
    valid = left_valid L names G H firings rules accepted can.valid leaves some;
    named = named;
    arcs = omega (arith, can.arcs, grows.0);
    nodes = omega (arith, can.nodes, grows.1);
  }

-- the grammars that are left, the first of them being this one
pub next_system : (systems : List System) (i : ℕ) (system : System) → system ≡ get_or systems i system → i < length systems → drop i systems ≡ system ∷ drop (i + 1) systems
next_system [] i system is low = absurd (omega arith)
next_system (s ∷ systems) zero system is low = ap (λ (first : System). first ∷ systems) (sym is)
next_system (s ∷ systems) (suc i) system is low =
    let shift : suc (i + 1) ≡ suc i + 1 = omega arith in
    next_system systems i system is (omega arith) ∙ ap (λ (k : ℕ). system ∷ drop k (s ∷ systems)) shift

-- it is one of all
pub among_all : (systems : List System) (i : ℕ) (system : System) → system ≡ get_or systems i system → i < length systems → system ∈ systems
among_all [] i system is low = absurd (omega arith)
among_all (s ∷ systems) zero system is low = inl is
among_all (s ∷ systems) (suc i) system is low = inr (among_all systems i system is (omega arith))

in_dropped : (grammars : List System) (i : ℕ) (system : System) → system ∈ drop i grammars → system ∈ grammars
in_dropped systems zero system j = j
in_dropped [] (suc i) system j = absurd j
in_dropped (s ∷ systems) (suc i) system j = inr (in_dropped systems i system j)

-- what is left of accepted grammars is accepted
pub rest_accepted : (systems : List System) (i : ℕ) → AreAccepted (map grammar_of systems) → AreAccepted (map grammar_of (drop i systems))
rest_accepted systems i accepted =
    from_map grammar_of (drop i systems) (λ (grammar : Grammar). (rule : Rule) → rule ∈ grammar.rules → IsAccepted rule)
    (λ system j. accepted (grammar_of system) (in_map grammar_of systems system (in_dropped systems i system j)))

-- the labels of its rules are named
pub each_right : (n : ℕ) (systems : List System) (system : System) → AreSystemsNamed n systems → system ∈ systems → (rule : Rule) → rule ∈ system.rules.items → ArePatternsNamed n rule.right
each_right n systems system named i rule j = ((named system i).rules rule j).right
