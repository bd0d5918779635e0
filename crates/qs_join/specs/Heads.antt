-- At which places of left sides the tree of an arc can stand, as far as its root says. (This project.)
use Rattle.std.specs.Prelude.{ℕ, ◌≡◌, ◌+◌, Bool, true, false, ◌==◌, if◌then◌else◌, List, [], ◌∷◌, ◌++◌, map}
use Rattle.std.specs.Prelude.{◌<◌, ◌*◌, Option, Some, None, nat_eq, slice_get}
use Rattle.std.proofs.Common.{Global}
use Rattle.std.specs.HashMap.{get}
use Rattle.std.specs.declared.vec.Vec.{Vec}
use Rattle.qs_tree.specs.Lists.{◌∈◌}
use Rattle.qs_tree.specs.declared.cell.Label.{Label}
use Rattle.qs_pattern.specs.declared.pattern.Head.{Head}
use Rattle.qs_pattern.specs.declared.pattern.Head.TheVariants as head
use Rattle.qs_pattern.specs.Patterns.{Patterns, no_pattern, node_first, tree_var_first, forest_var_first, count}
use Rattle.qs_pattern.specs.Rules.{Rule, IsAccepted}
use Rattle.qs_join.specs.declared.lists.Lists.{Lists}
use Rattle.qs_join.specs.declared.heads.Heads.{Heads}

-- The root that each of these patterns asks of a tree: the label of a node with a label as head. A node with a label
-- variable as head asks for none, nor does a variable.
abbrev pub root_asked : Head → Option Label
root_asked (head.Label l) = Some l
root_asked (head.Var v) = None

abbrev pub roots_asked : Patterns → List (Option Label)
roots_asked no_pattern = []
roots_asked (node_first h kids behind) = root_asked h ∷ roots_asked behind
roots_asked (tree_var_first v behind) = None ∷ roots_asked behind
roots_asked (forest_var_first v behind) = None ∷ roots_asked behind

-- Both are the same label, or none.
abbrev pub is_same_root : Option Label → Option Label → Bool
is_same_root None None = true
is_same_root None (Some k) = false
is_same_root (Some l) None = false
is_same_root (Some l) (Some k) = k.0 == l.0

-- The places at which this root is asked for, ascending, where the first place has the number i.
abbrev pub places_from : Option Label → ℕ → List (Option Label) → List ℕ
places_from r i [] = []
places_from r i (asked ∷ more) =
    if is_same_root r asked then i ∷ places_from r (i + 1) more else places_from r (i + 1) more

-- The pairs of a rule and a place of its left side at which this root is asked for, ascending, where the first rule has
-- the number n.
abbrev pub asking_from : Option Label → ℕ → List Rule → List (ℕ × ℕ)
asking_from r n [] = []
asking_from r n (rule ∷ rules) =
    map (λ place. (n, place)) (places_from r 0 (roots_asked rule.left)) ++ asking_from r (n + 1) rules

-- The places at which a node with this label as head stands.
abbrev pub exact : List Rule → Label → List (ℕ × ℕ)
exact R l = asking_from (Some l) 0 R

-- The places at which a tree variable stands, or a node with a label variable as head.
abbrev pub wild : List Rule → List (ℕ × ℕ)
wild R = asking_from None 0 R

-- What is listed under a key.
abbrev pub listed : Option (Vec (ℕ × ℕ) Global) → List (ℕ × ℕ)
listed None = []
listed (Some pairs) = pairs.items

abbrev pub list_at : Lists → ℕ → List (ℕ × ℕ)
list_at lists key = listed (get nat_eq lists.lists key)

-- What the heads list for a root.
abbrev pub exact_of : Heads → Label → List (ℕ × ℕ)
exact_of heads l = list_at heads.exact l.0

abbrev pub wild_of : Heads → List (ℕ × ℕ)
wild_of heads = heads.wild.items

-- The root that the first of the patterns asks of a tree, if there is one.
abbrev pub first_asked : Patterns → Option Label
first_asked no_pattern = None
first_asked (node_first h kids behind) = root_asked h
first_asked (tree_var_first v behind) = None
first_asked (forest_var_first v behind) = None

-- The root that each of these patterns asks of the first subtree of a tree.
abbrev pub firsts_asked : Patterns → List (Option Label)
firsts_asked no_pattern = []
firsts_asked (node_first h kids behind) = first_asked kids ∷ firsts_asked behind
firsts_asked (tree_var_first v behind) = None ∷ firsts_asked behind
firsts_asked (forest_var_first v behind) = None ∷ firsts_asked behind

-- The key of two labels, each of which is below 2^32.
abbrev pub key_of : Label → Label → ℕ
key_of l k = l.0 * 4294967296 + k.0

-- What the heads list for a root and for what is asked of the first subtree's root.
abbrev pub below_of : Heads → Label → Option Label → List (ℕ × ℕ)
below_of heads l None = list_at heads.broad l.0
below_of heads l (Some k) = list_at heads.narrow (key_of l k)

-- The pair is a rule and a place of its left side.
abbrev pub IsPlace : List Rule → ℕ × ℕ → Type 0
IsPlace R pair = (rule : Rule) × (slice_get R pair.0 ≡ Some rule) × (pair.1 < count rule.left)

-- The pair is a rule and a place of its left side that asks for this root, and for this one of the first subtree.
abbrev pub IsAsking : List Rule → Label → Option Label → ℕ × ℕ → Type 0
IsAsking R l first pair =
    (rule : Rule) × (slice_get R pair.0 ≡ Some rule) × (slice_get (roots_asked rule.left) pair.1 ≡ Some (Some l))
    × (slice_get (firsts_asked rule.left) pair.1 ≡ Some first)

-- The heads list the places of these rules, each of which is an accepted rule. What they list by the root of the first
-- subtree too are places of the rules, and each place is listed for the two roots that it asks for.
pub record AreHeadsOf (R : List Rule) (heads : Heads) : Type 0 where
  pub exact : (l : Label) → exact_of heads l ≡ exact R l
  pub wild : wild_of heads ≡ wild R
  pub places : (l : Label) (first : Option Label) (pair : ℕ × ℕ) → pair ∈ below_of heads l first → IsPlace R pair
  pub asking : (l : Label) (first : Option Label) (pair : ℕ × ℕ) → IsAsking R l first pair
      → pair ∈ below_of heads l first
  pub accepted : (rule : Rule) → rule ∈ R → IsAccepted rule
