-- Firings: what fires, and in which order.
use Rattle.std.specs.Prelude.{ℕ, ◌≡◌, List, [], ◌∷◌, length, slice_get, Some}
use Rattle.std.specs.Ordering.{nat_cmp}
use Rattle.std.specs.Cmp.Lexicographic.{slice_cmp}
use Rattle.std.specs.declared.cmp.Ordering.{Ordering}
use Rattle.std.specs.declared.cmp.Ordering.TheVariants.{Less}
use Rattle.qs_pattern.specs.Patterns.{count}
use Rattle.qs_pattern.specs.Substitutions.{Substitution, forest_lengths}
use Rattle.qs_pattern.specs.Instances.{IsMatch}
use Rattle.qs_pattern.specs.Conditions.{HoldsIfGiven}
use Rattle.qs_pattern.specs.Rules.{Rule}
use Rattle.qs_graph.specs.Graphs.{Arc, IsPath, trees_on}

-- A firing is a rule by its number, a path by the numbers of its arcs, and a substitution.
pub record Firing : Type 0 where
  pub rule : ℕ
  pub path : List ℕ
  pub values : Substitution

-- f is a firing of the rules over these arcs: its path is a path, as long as its rule's left side; its substitution
-- makes the left side the trees on the path; and the rule's condition holds.
pub record Fires (R : List Rule) (arcs : List Arc) (f : Firing) : Type 0 where
  pub rule : Rule
  pub is_rule : slice_get R f.rule ≡ Some rule
  pub from : ℕ
  pub to : ℕ
  pub path : IsPath arcs from f.path to
  pub long : length f.path ≡ count rule.left
  pub matches : IsMatch rule.left (trees_on arcs f.path) f.values
  pub holds : HoldsIfGiven rule.condition f.values

-- The key of a firing: its rule, its path, and the lengths of its forest variables' values in order of first
-- occurrence.
abbrev pub key : Firing → List (List ℕ)
key f = (f.rule ∷ []) ∷ f.path ∷ forest_lengths f.values ∷ []

-- Keys are compared in this order, lists in dictionary order.
abbrev pub order : Firing → Firing → Ordering
order f g = slice_cmp (slice_cmp nat_cmp) (key f) (key g)

abbrev pub Before : Firing → Firing → Type 0
Before f g = order f g ≡ Less
