-- Level certificates, which bound the rounds of a grammar on every graph. (This project.)
use Rattle.std.specs.Prelude.{ℕ, ◌+◌, ◌<◌, ◌≤◌, ◌≡◌, max, List, [], ◌∷◌, map, Option, None, Some, slice_get}
use Rattle.qs_tree.specs.Lists.{◌∈◌}
use Rattle.qs_tree.specs.declared.cell.Label.{Label}
use Rattle.qs_pattern.specs.Rules.{Rule}
use Rattle.qs_graph.specs.Graphs.{QGraph}
use Rattle.qs_canon.specs.Rounds.{Stage, Closes}
use Rattle.qs_levels.specs.Tops.{HasLabelsAtTop, top_labels, rule_labels, labels_at_tops, each_once}

-- A number of levels, and labels with a level each.
pub record LevelCertificate : Type 0 where
  pub count : ℕ
  pub of : List (Label × ℕ)

-- The label has this level.
abbrev pub HasLevel : LevelCertificate → Label → ℕ → Type 0
HasLevel c l n = (l, n) ∈ c.of

-- A level certificate fits rules where it has at least one level; each of its levels is below their number; each label
-- stands in it at most once; every pattern at the top of either side of a rule is a node with a label as head; that
-- label has a level; and in each rule the level of each right root is greater than the level of each left root.
pub record Fits (rules : List Rule) (c : LevelCertificate) : Type 0 where
  pub some : 1 ≤ c.count
  pub below : (l : Label) (n : ℕ) → HasLevel c l n → n < c.count
  pub once : (i j : ℕ) (l : Label) (m n : ℕ) → slice_get c.of i ≡ Some (l, m) → slice_get c.of j ≡ Some (l, n) → i ≡ j
  pub left_tops : (rule : Rule) → rule ∈ rules → HasLabelsAtTop rule.left
  pub right_tops : (rule : Rule) → rule ∈ rules → HasLabelsAtTop rule.right
  pub levels : (rule : Rule) → rule ∈ rules → (l : Label) → l ∈ rule_labels rule → (n : ℕ) × HasLevel c l n
  pub rises : (rule : Rule) → rule ∈ rules → (l r : Label) → l ∈ top_labels rule.left → r ∈ top_labels rule.right
      → (m n : ℕ) → HasLevel c l m → HasLevel c r n → m < n

-- The greatest level of these, and 0 where there is none.
abbrev pub greatest_level : List (Label × ℕ) → ℕ
greatest_level [] = 0
greatest_level (p ∷ ps) = max p.1 (greatest_level ps)

-- The least certificate that fits the rules: it has the labels at their tops, in order of first occurrence, each with
-- the least level that it has in any certificate that fits; and its number of levels is one more than the greatest of
-- them, and 1 where there is no label.
pub record IsLeast (rules : List Rule) (c : LevelCertificate) : Type 0 where
  pub fits : Fits rules c
  pub labels : map (λ p. p.0) c.of ≡ each_once (labels_at_tops rules)
  pub least : (d : LevelCertificate) → Fits rules d → (l : Label) (m n : ℕ) → HasLevel c l m → HasLevel d l n → m ≤ n
  pub count : c.count ≡ greatest_level c.of + 1

-- What is to be found for rules: their least certificate, or that none fits them.
abbrev pub IsFound : List Rule → Option LevelCertificate → Type 0
IsFound rules None = (c : LevelCertificate) → Fits rules c → ⊥
IsFound rules (Some c) = IsLeast rules c

-- The rules close on the graph before the m-th round: fewer than m rounds reach the closure. So the m-th round is
-- empty, and each later one.
pub record ClosesBefore (rules : List Rule) (G : QGraph) (m : ℕ) : Type 0 where
  pub closure : Stage
  pub closes : Closes rules G closure
  pub early : closes.rounds < m
