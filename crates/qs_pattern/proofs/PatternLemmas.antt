-- The equations of patterns.
use Rattle.std.proofs.Common.{◌≡◌, ◌-◌, ◌≤◌, List, [], ◌∷◌, length, take, drop, get_or, map, sym, refl, ap, ◌∙◌, arith, Global}
use Rattle.std.proofs.lemmas.Grind.{common_steps}
use Rattle.std.specs.declared.vec.Vec.{Vec}
use mathlib.Core.Former.{Count}
use Rattle.qs_pattern.specs.declared.pattern.Head.{Head}
use Rattle.qs_pattern.specs.declared.pattern.Pattern.{Pattern, Node, Node', Tree, Forest, Row_of-Pattern, end_of-Pattern, more_of-Pattern, items-the_row-Pattern, items_hidden-the_row-Pattern-0}
use Rattle.qs_pattern.specs.declared.pattern.Pattern.TheBlock.{hidden-the_row-Pattern-0}
use Rattle.qs_pattern.specs.Patterns.{Patterns, no_pattern, node_first, tree_var_first, forest_var_first, pattern_before, row_patterns, patterns, count}
use Rattle.qs_pattern.specs.working.Patterns.{one_pattern}

row_patterns-is : {n : Count} (k : Row_of-Pattern n) → row_patterns k ≡ patterns (items-the_row-Pattern n k)
row_patterns-is end_of-Pattern = refl
row_patterns-is (more_of-Pattern p rest) = ap (pattern_before p) (row_patterns-is rest)

pub pattern-Node : (h : Head) (ks : Vec Pattern Global) (rest : Patterns) → pattern_before (Node h ks) rest ≡ node_first h (patterns ks.items) rest
pattern-Node h ks rest = ap (λ ts. node_first h ts rest) (row_patterns-is (hidden-the_row-Pattern-0 ks) ∙ ap patterns (items_hidden-the_row-Pattern-0 ks))

pub rest_is : (q : Pattern) (qs : List Pattern) → take (length (q ∷ qs) - 1) (drop 1 (q ∷ qs)) ≡ qs
rest_is q qs = grind (arith, common_steps)

-- as many patterns as there are in the list
pub count-patterns : (ps : List Pattern) → count (patterns ps) ≡ length ps
count-patterns [] = refl
count-patterns (Node' h shape kids ∷ ps) = omega (arith, count-patterns ps)
count-patterns (Tree v ∷ ps) = omega (arith, count-patterns ps)
count-patterns (Forest v ∷ ps) = omega (arith, count-patterns ps)

-- the first pattern of a list is a node
pub side_node : (ps : List Pattern) (p : Pattern) (h : Head) (ks : Vec Pattern Global) (kids : List Pattern) → 1 ≤ length ps → p ≡ get_or ps 0 p → p ≡ Node h ks → kids ≡ ks.items
    → patterns ps ≡ node_first h (patterns kids) (patterns (take (length ps - 1) (drop 1 ps)))
side_node [] p h ks kids some is node e = absurd (omega arith)
side_node (q ∷ qs) p h ks kids some is node e =
    let first : q ≡ Node h ks = sym is ∙ node in
    ap (λ (r : Pattern). pattern_before r (patterns qs)) first ∙ pattern-Node h ks (patterns qs)
    ∙ ap (λ (us : List Pattern). node_first h (patterns us) (patterns qs)) (sym e)
    ∙ ap (λ (us : List Pattern). node_first h (patterns kids) (patterns us)) (sym (rest_is q qs))

-- one list of patterns behind another
abbrev pub behind : Patterns → Patterns → Patterns
behind no_pattern us = us
behind (node_first h ks ts) us = node_first h ks (behind ts us)
behind (tree_var_first v ts) us = tree_var_first v (behind ts us)
behind (forest_var_first v ts) us = forest_var_first v (behind ts us)

-- a pattern before others is its own one_pattern with theirs behind
pattern_before-is : (p : Pattern) (us : Patterns) → pattern_before p us ≡ behind (one_pattern p) us
pattern_before-is (Node' h shape kids) us = refl
pattern_before-is (Tree v) us = refl
pattern_before-is (Forest v) us = refl

abbrev chained : List Patterns → Patterns
chained [] = no_pattern
chained (t ∷ ts) = behind t (chained ts)

patterns-is : (ps : List Pattern) → patterns ps ≡ chained (map one_pattern ps)
patterns-is [] = refl
patterns-is (p ∷ ps) = pattern_before-is p (patterns ps) ∙ ap (behind (one_pattern p)) (patterns-is ps)

-- lists of patterns with equal patterns, one by one, have equal patterns
pub patterns_from_map : (ps qs : List Pattern) → map one_pattern ps ≡ map one_pattern qs → patterns ps ≡ patterns qs
patterns_from_map ps qs e = patterns-is ps ∙ ap chained e ∙ sym (patterns-is qs)
