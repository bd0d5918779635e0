-- What the search for the work of an arc has found: the middle of its proof.
use Rattle.std.specs.Prelude.{ℕ, ◌≤◌, ◌≡◌, List, [], ◌∷◌, ◌++◌, length, slice_get, Some}
use Rattle.qs_tree.specs.Lists.{◌∈◌}
use Rattle.qs_pattern.specs.Patterns.{count}
use Rattle.qs_pattern.specs.Instances.{IsMatch}
use Rattle.qs_pattern.specs.Conditions.{HoldsIfGiven}
use Rattle.qs_pattern.specs.Rules.{Rule}
use Rattle.qs_graph.specs.Graphs.{Arc, IsPath, trees_on}
use Rattle.qs_firing.specs.Firings.{Firing}
use Rattle.qs_join.specs.Heads.{IsPlace}

-- f is a firing of this rule, which has this number, over these arcs.
pub record FiresBy (number : ℕ) (rule : Rule) (arcs : List Arc) (f : Firing) : Type 0 where
  pub rule_is : f.rule ≡ number
  pub from : ℕ
  pub to : ℕ
  pub path : IsPath arcs from f.path to
  pub long : length f.path ≡ count rule.left
  pub matches : IsMatch rule.left (trees_on arcs f.path) f.values
  pub holds : HoldsIfGiven rule.condition f.values

-- No number is greater than m.
abbrev pub AreUpTo : ℕ → List ℕ → Type 0
AreUpTo m ks = (k : ℕ) → k ∈ ks → k ≤ m

-- f is a firing of the rule over arcs that aren't greater than m, and behind so many arcs its path goes on with these.
pub record Through (number : ℕ) (rule : Rule) (arcs : List Arc) (m before : ℕ) (part : List ℕ) (f : Firing)
    : Type 0 where
  pub by : FiresBy number rule arcs f
  pub few : AreUpTo m f.path
  pub front : List ℕ
  pub long : length front ≡ before
  pub rest : List ℕ
  pub path_is : f.path ≡ front ++ (part ++ rest)

-- f is such a firing of the rule of a pair, whose path has the arc m at the pair's place.
pub record ThroughPlace (R : List Rule) (arcs : List Arc) (m : ℕ) (pair : ℕ × ℕ) (f : Firing) : Type 0 where
  pub rule : Rule
  pub is_rule : slice_get R pair.0 ≡ Some rule
  pub through : Through pair.0 rule arcs m pair.1 (m ∷ []) f

-- f is such a firing for one of these pairs.
pub record ThroughOne (R : List Rule) (arcs : List Arc) (m : ℕ) (pairs : List (ℕ × ℕ)) (f : Firing) : Type 0 where
  pub pair : ℕ × ℕ
  pub among : pair ∈ pairs
  pub through : ThroughPlace R arcs m pair f

-- To the old list were appended firings: those of which P holds, and no others. Some may stand there more than once.
pub record Finds (P : Firing → Type 0) (old new : List Firing) : Type 0 where
  pub found : List Firing
  pub are : new ≡ old ++ found
  pub sound : (f : Firing) → f ∈ found → P f
  pub all : (f : Firing) → P f → f ∈ found

-- These pairs are places of left sides of the rules.
abbrev pub ArePlaces : List Rule → List (ℕ × ℕ) → Type 0
ArePlaces R pairs = (pair : ℕ × ℕ) → pair ∈ pairs → IsPlace R pair
