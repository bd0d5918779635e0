-- The work of an arc: the firings of which it is the newest arc. (This project.)
use Rattle.std.specs.Prelude.{ℕ, suc, ◌≤◌, ◌≡◌, List, map, take}
use Rattle.qs_tree.specs.Lists.{◌∈◌, Ascends}
use Rattle.qs_tree.specs.Trees.{Tree}
use Rattle.qs_pattern.specs.Rules.{Rule}
use Rattle.qs_graph.specs.Graphs.{Arc}
use Rattle.qs_firing.specs.Firings.{Firing, Fires, Before}
use Rattle.qs_firing.specs.Adding.{built}

-- m is one of these numbers, and none of them is greater.
pub record IsGreatest (ks : List ℕ) (m : ℕ) : Type 0 where
  pub member : m ∈ ks
  pub at_most : (k : ℕ) → k ∈ ks → k ≤ m

-- f fires over the first m + 1 of these arcs, and the greatest arc number of its path is m.
pub record IsWorkOf (R : List Rule) (arcs : List Arc) (m : ℕ) (f : Firing) : Type 0 where
  pub fires : Fires R (take (suc m) arcs) f
  pub greatest : IsGreatest f.path m

-- F lists exactly these firings, in strictly ascending order: it is the work of the arc m.
pub record Work (R : List Rule) (arcs : List Arc) (m : ℕ) (F : List Firing) : Type 0 where
  pub ascends : Ascends Before F
  pub sound : (f : Firing) → f ∈ F → IsWorkOf R arcs m f
  pub complete : (f : Firing) → IsWorkOf R arcs m f → f ∈ F

-- A firing with trees.
pub record WithTrees : Type 0 where
  pub firing : Firing
  pub trees : List Tree

-- An arc, and a list of firings with trees.
pub record WorkWithTrees : Type 0 where
  pub arc : ℕ
  pub made : List WithTrees

-- The list is right for the rules and the arcs: its firings are the work of its arc, and each has the trees that it
-- builds.
pub record IsRightFor (R : List Rule) (arcs : List Arc) (joined : WorkWithTrees) : Type 0 where
  pub work : Work R arcs joined.arc (map (λ made. made.firing) joined.made)
  pub trees : (made : WithTrees) → made ∈ joined.made → made.trees ≡ built R made.firing
