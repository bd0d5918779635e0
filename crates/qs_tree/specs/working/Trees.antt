-- That a `Forest` and a `List` give each other back, and trees of two lists, one list behind the other.
use Rattle.std.specs.Prelude.{◌≡◌, List, [], ◌∷◌, refl}
use Rattle.std.proofs.Common.{ap}
use Rattle.qs_tree.specs.Trees.{Forest, no_tree, first_tree, Tree, trees, forest}

-- the two are inverse to each other
pub forest-trees : (g : Forest) → forest (trees g) ≡ g
forest-trees no_tree = refl
forest-trees (first_tree l k r) = ap (λ g. first_tree l k g) (forest-trees r)

pub trees-forest : (ts : List Tree) → trees (forest ts) ≡ ts
trees-forest [] = refl
trees-forest (t ∷ ts) = ap (λ us. t ∷ us) (trees-forest ts)

-- the trees of two lists, one list behind the other
abbrev pub join : Forest → Forest → Forest
join no_tree h = h
join (first_tree l k r) h = first_tree l k (join r h)
