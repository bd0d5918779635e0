-- How many trees patterns can stand for. The clauses of the search's own functions cite this; no public clause does, so
-- that nothing that a reader has to believe stands here.
use Rattle.std.specs.Prelude.{ℕ, ◌+◌, ◌≤◌, ◌≡◌}
use Rattle.qs_tree.specs.declared.cell.Label.{Label}
use Rattle.qs_pattern.specs.declared.pattern.Head.{Head}
use Rattle.qs_pattern.specs.declared.pattern.Head.TheVariants as head
use Rattle.qs_pattern.specs.Patterns.{Patterns, no_pattern, node_first, tree_var_first, forest_var_first, NoForestAtTop}

-- How many patterns of the list stand for one tree each: all but the forest variables.
abbrev pub singles : Patterns → ℕ
singles no_pattern = 0
singles (node_first h kids behind) = singles behind + 1
singles (tree_var_first v behind) = singles behind + 1
singles (forest_var_first v behind) = singles behind

-- The patterns can stand for n trees: n is at least their number without the forest variables, and just that number
-- where there is no forest variable.
pub record CanFit (side : Patterns) (n : ℕ) : Type 0 where
  pub least : singles side ≤ n
  pub exact : NoForestAtTop side → singles side ≡ n

-- The head can stand for this label, as far as the head alone says.
abbrev pub CanBeRoot : Head → Label → Type 0
CanBeRoot (head.Label l) root = l ≡ root
CanBeRoot (head.Var v) root = Unit {0}
