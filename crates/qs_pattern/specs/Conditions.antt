-- Conditions of rules. (Colmerauer's rules have them; their exact meaning here is this project's own.)
use Rattle.std.specs.Prelude.{◌≡◌, ℕ, ◌+◌, ◌≤◌, ◌⊎◌, List, [], ◌++◌, Option, Some, None}
use Rattle.qs_tree.specs.Lists.{◌∈◌}
use Rattle.qs_tree.specs.Trees.{Tree}
use Rattle.qs_pattern.specs.declared.variable.Var.{Var}
use Rattle.qs_pattern.specs.declared.condition.Cond.{Cond, Within, Outside, Same, Not', All', Any', Row_of-Cond}
use Rattle.qs_pattern.specs.declared.condition.Cond.{end_of-Cond, more_of-Cond}
use Rattle.qs_pattern.specs.Patterns.{Patterns, patterns, cells, variables_in, AreInClass}
use Rattle.qs_pattern.specs.Substitutions.{Substitution}
use Rattle.qs_pattern.specs.Instances.{inst, IsCovered}

-- How two lists of trees are compared: each tree of the first is in the second (`-DANS-`), or none is (`-HORS-`), or
-- the two are equal (`-EGAL-`). And how conditions are joined: all of them hold (`-ET-`), or any of them does (`-OU-`).
pub data Comparing : Type 0 where
  within : Comparing
  outside : Comparing
  same : Comparing

pub data Joining : Type 0 where
  all : Joining
  any : Joining

-- A condition: two lists of patterns compared; not (`-NON-`) another; several joined.
mutual
  pub data Condition : Type 0 where
    compared : (word : Comparing) (a b : Patterns) → Condition
    negated : (member : Condition) → Condition
    combined : (word : Joining) (members : Conditions) → Condition

  -- A list of conditions.
  pub data Conditions : Type 0 where
    no_condition : Conditions
    condition_first : (first : Condition) (behind : Conditions) → Conditions

-- The condition of the code as such a condition.
abbrev mutual
  pub condition_of : Cond → Condition
  condition_of (Within a b) = compared within (patterns a.items) (patterns b.items)
  condition_of (Outside a b) = compared outside (patterns a.items) (patterns b.items)
  condition_of (Same a b) = compared same (patterns a.items) (patterns b.items)
  condition_of (Not' place member) = negated (condition_of member)
  condition_of (All' shape members) = combined all (row_conditions members)
  condition_of (Any' shape members) = combined any (row_conditions members)

  pub row_conditions : {m : _} → Row_of-Cond m → Conditions
  row_conditions end_of-Cond = no_condition
  row_conditions (more_of-Cond c row) = condition_first (condition_of c) (row_conditions row)

-- When two lists of trees are as the word says.
abbrev pub Compares : Comparing → List Tree → List Tree → Type 0
Compares within ts us = (t : Tree) → t ∈ ts → t ∈ us
Compares outside ts us = (t : Tree) → t ∈ ts → t ∈ us → ⊥
Compares same ts us = ts ≡ us

-- When a condition holds under a substitution.
abbrev mutual
  pub Holds : Condition → Substitution → Type 0
  Holds (compared word a b) s = Compares word (inst s a) (inst s b)
  Holds (negated c) s = Holds c s → ⊥
  Holds (combined all cs) s = AllHold cs s
  Holds (combined any cs) s = SomeHolds cs s

  pub AllHold : Conditions → Substitution → Type 0
  AllHold no_condition s = Unit {0}
  AllHold (condition_first c cs) s = Holds c s × AllHold cs s

  pub SomeHolds : Conditions → Substitution → Type 0
  SomeHolds no_condition s = ⊥
  SomeHolds (condition_first c cs) s = Holds c s ⊎ SomeHolds cs s

-- A rule without a condition is not held back.
abbrev pub HoldsIfGiven : Option Condition → Substitution → Type 0
HoldsIfGiven None s = Unit {0}
HoldsIfGiven (Some c) s = Holds c s

-- What the lists that a condition compares make together, in the order of the text: `of` tells what each makes, `both`
-- puts two such things together, and `none` is what no list makes.
abbrev mutual
  pub over_lists {ℓ} : {A : Type ℓ} → A → (A → A → A) → (Patterns → A) → Condition → A
  over_lists none both of (compared word a b) = both (of a) (of b)
  over_lists none both of (negated c) = over_lists none both of c
  over_lists none both of (combined word cs) = over_all_lists none both of cs

  pub over_all_lists {ℓ} : {A : Type ℓ} → A → (A → A → A) → (Patterns → A) → Conditions → A
  over_all_lists none both of no_condition = none
  over_all_lists none both of (condition_first c cs) = both (over_lists none both of c) (over_all_lists none both of cs)

-- P is so of each list that a condition compares, or that several compare.
abbrev pub EachList : (Patterns → Type 0) → Condition → Type 0
EachList P c = over_lists (Unit {0}) (λ A B. A × B) P c

-- How many labels and variables are written in a condition.
abbrev pub condition_cells : Condition → ℕ
condition_cells c = over_lists 0 (λ m n. m + n) cells c

-- The variables of a condition, with repetitions.
abbrev pub condition_variables : Condition → List Var
condition_variables c = over_lists [] (λ vs ws. vs ++ ws) variables_in c

-- All patterns of a condition are in class.
abbrev pub IsConditionInClass : Condition → Type 0
IsConditionInClass c = EachList AreInClass c

-- Each variable of a condition, or of several, has a value of its class.
abbrev pub IsConditionCovered : Substitution → Condition → Type 0
IsConditionCovered s c = EachList (IsCovered s) c

-- How many conditions the list has.
abbrev pub count_conditions : Conditions → ℕ
count_conditions no_condition = 0
count_conditions (condition_first c cs) = count_conditions cs + 1

-- Where conditions are joined, at least two are: `-ET-` and `-OU-` stand between conditions.
abbrev mutual
  pub HasEnoughMembers : Condition → Type 0
  HasEnoughMembers (compared word a b) = Unit {0}
  HasEnoughMembers (negated c) = HasEnoughMembers c
  HasEnoughMembers (combined word cs) = (2 ≤ count_conditions cs) × HaveEnoughMembers cs

  pub HaveEnoughMembers : Conditions → Type 0
  HaveEnoughMembers no_condition = Unit {0}
  HaveEnoughMembers (condition_first c cs) = HasEnoughMembers c × HaveEnoughMembers cs
