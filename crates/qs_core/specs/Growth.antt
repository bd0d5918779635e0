-- Graphs that grow by firings, one after another. (This project.)
use Rattle.std.specs.Prelude.{ℕ, ◌≡◌, ◌≤◌, ◌⊎◌, List, [], ◌∷◌, length, slice_get, Some}
use Rattle.qs_tree.specs.Lists.{◌∈◌}
use Rattle.qs_pattern.specs.Rules.{Rule}
use Rattle.qs_graph.specs.Graphs.{Arc, QGraph}
use Rattle.qs_firing.specs.Firings.{Firing, Fires}
use Rattle.qs_firing.specs.Adding.{adds}

-- The graph G grows by these firings to H: each in turn fires over the arcs that stand, and what it adds is added.
abbrev pub Grown : List Rule → QGraph → List Firing → QGraph → Type 0
Grown R G [] H = G ≡ H
Grown R G (f ∷ fs) H = Fires R G.arcs f × Grown R (adds R G f) fs H

-- f is one of the firings by which G grows, and P is the graph to which it was added.
abbrev pub DoneAt : List Rule → QGraph → List Firing → Firing → QGraph → Type 0
DoneAt R G [] f P = ⊥
DoneAt R G (g ∷ fs) f P = ((f ≡ g) × (P ≡ G)) ⊎ DoneAt R (adds R G g) fs f P

-- No member stands twice in the list.
abbrev pub AllApart : {X : Type 0} → List X → Type 0
AllApart [] = Unit {0}
AllApart (x ∷ xs) = (x ∈ xs → ⊥) × AllApart xs

-- No two arcs of H, of which at least one isn't one of the first, those of G, have equal ends and equal trees.
abbrev pub NoTwins : QGraph → QGraph → Type 0
NoTwins G H =
    (k l : ℕ) (arc : Arc) → slice_get H.arcs k ≡ Some arc → slice_get H.arcs l ≡ Some arc → length G.arcs ≤ l → k ≡ l
