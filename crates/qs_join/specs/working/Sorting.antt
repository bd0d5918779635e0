-- The firings of which an arc is the greatest: as they are found, sorted, and each once with its trees.
use Rattle.std.specs.Prelude.{ℕ, ◌≡◌, ◌-◌, List, [], ◌∷◌, length, map, slice_get, Some}
use Rattle.std.specs.declared.cmp.Ordering.TheVariants.{Equal}
use Rattle.qs_tree.specs.Lists.{◌∈◌, Ascends}
use Rattle.qs_pattern.specs.Rules.{Rule}
use Rattle.qs_graph.specs.Graphs.{Arc}
use Rattle.qs_firing.specs.Firings.{Firing, Before, order}
use Rattle.qs_firing.specs.Adding.{built}
use Rattle.qs_firing.specs.Work.{IsWorkOf, WithTrees}

-- No firing comes before one that stands in front of it.
abbrev pub NeverFalls : List Firing → Type 0
NeverFalls [] = Unit {0}
NeverFalls (f ∷ fs) = ((g : Firing) → g ∈ fs → Before g f → ⊥) × NeverFalls fs

-- Exactly the firings of which m is the greatest arc are members.
pub record AreOfArc (R : List Rule) (arcs : List Arc) (m : ℕ) (fs : List Firing) : Type 0 where
  pub sound : (f : Firing) → f ∈ fs → IsWorkOf R arcs m f
  pub all : (f : Firing) → IsWorkOf R arcs m f → f ∈ fs

-- The firing's key is that of the last one of the list.
abbrev pub Repeats : List WithTrees → Firing → Type 0
Repeats made f =
    (last : WithTrees) × (slice_get made (length made - 1) ≡ Some last) × (order last.firing f ≡ Equal)

-- The firings of a list with trees.
abbrev pub firings_of : List WithTrees → List Firing
firings_of made = map (λ m. m.firing) made

-- The list has exactly these firings, ascending, each once and with the trees that it builds.
pub record AreMade (R : List Rule) (fs : List Firing) (made : List WithTrees) : Type 0 where
  pub ascends : Ascends Before (firings_of made)
  pub sound : (f : Firing) → f ∈ firings_of made → f ∈ fs
  pub all : (f : Firing) → f ∈ fs → f ∈ firings_of made
  pub trees : (m : WithTrees) → m ∈ made → m.trees ≡ built R m.firing
