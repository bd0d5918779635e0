-- The places of left sides, by the roots that they ask for, as they are listed one after the other.
use Rattle.std.specs.Prelude.{ℕ, List, [], ◌∷◌, Option, Some, None}
use Rattle.qs_tree.specs.declared.cell.Label.{Label}
use Rattle.qs_pattern.specs.declared.pattern.Pattern.{Pattern, Node', Tree, Forest}
use Rattle.qs_join.specs.declared.heads.Heads.{Heads}
use Rattle.qs_tree.specs.Trees.{Tree as TreeOfLabels}
use Rattle.qs_pattern.specs.Patterns.{row_patterns}
use Rattle.qs_join.specs.Heads.{root_asked, first_asked, exact_of, wild_of, below_of}

-- The root that a pattern asks for.
abbrev pub root_of : Pattern → Option Label
root_of (Node' h shape kids) = root_asked h
root_of (Tree v) = None
root_of (Forest v) = None

-- The root that a pattern asks of the first subtree.
abbrev pub first_of : Pattern → Option Label
first_of (Node' h shape kids) = first_asked (row_patterns kids)
first_of (Tree v) = None
first_of (Forest v) = None

-- The root of the first of these trees, if there is one.
abbrev pub first_root_of : List TreeOfLabels → Option Label
first_root_of [] = None
first_root_of (t ∷ ts) = Some t.root

-- What the heads list for a root.
abbrev pub places_of : Heads → Option Label → List (ℕ × ℕ)
places_of heads (Some l) = exact_of heads l
places_of heads None = wild_of heads

-- What the heads list for a root and for that of the first subtree, if there is one.
abbrev pub narrow_of : Heads → Label → Option Label → List (ℕ × ℕ)
narrow_of heads l None = []
narrow_of heads l (Some k) = below_of heads l (Some k)
