-- The first patterns of a side, and those behind them.
use Rattle.std.proofs.Common.{◌≡◌, ℕ, ◌<◌, List, [], ◌∷◌, ◌++◌, length, take, drop, refl, sym, ◌∙◌, ap, arith}
use Rattle.std.proofs.lemmas.Grind.{common_steps}
use Rattle.std.proofs.lemmas.List.{take-append-drop}
use Rattle.qs_pattern.specs.Limits.{most_patterns}
use Rattle.qs_pattern.specs.declared.pattern.Pattern.{Pattern, Node', Tree, Forest}
use Rattle.qs_pattern.specs.Patterns.{node_first, tree_var_first, forest_var_first, row_patterns, patterns}
use Rattle.qs_pattern.proofs.PatternLemmas.{count-patterns}
use Rattle.qs_check.specs.Cells.{written}
use Rattle.qs_ruletext.specs.Reading.{joined}
use Rattle.qs_check.specs.Causes.{Has17th}
use Rattle.qs_check.proofs.Written.{length-written}

patterns-append : (ps qs : List Pattern) → patterns (ps ++ qs) ≡ joined (patterns ps) (patterns qs)
patterns-append [] qs = refl
patterns-append (Node' h shape kids ∷ ps) qs = ap (λ us. node_first h (row_patterns kids) us) (patterns-append ps qs)
patterns-append (Tree v ∷ ps) qs = ap (λ us. tree_var_first v us) (patterns-append ps qs)
patterns-append (Forest v ∷ ps) qs = ap (λ us. forest_var_first v us) (patterns-append ps qs)

pub has_17th : (side : List Pattern) (n : ℕ) → most_patterns < length side → n ≡ length (written (patterns (take most_patterns side))) → Has17th (patterns side) n
has_17th side n long e = record {
  front = patterns (take most_patterns side);
  behind = patterns (drop most_patterns side);
  are = ap patterns (sym (take-append-drop most_patterns side)) ∙ patterns-append (take most_patterns side) (drop most_patterns side);
  sixteen = count-patterns (take most_patterns side) ∙ grind (arith, common_steps);
  more = let some : 0 < length (drop most_patterns side) = grind (arith, common_steps) in omega (arith, count-patterns (drop most_patterns side), some);
  cells_before = e ∙ length-written (patterns (take most_patterns side));
}
