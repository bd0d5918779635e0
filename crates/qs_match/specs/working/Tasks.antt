-- The middle of the proof: lists of patterns that are still to be matched, the solutions of such tasks, and what the
-- search does with them. Only clauses of the search's own functions cite this, and no public one, so that nothing that
-- a reader has to believe stands here.
use Rattle.std.specs.Prelude.{Bool, true, false, if◌then◌else◌, ◌≡◌, ◌⊎◌, List, [], ◌∷◌, ◌++◌, Some, None}
use Rattle.qs_tree.specs.Lists.{◌∈◌, Ascends}
use Rattle.qs_tree.specs.Trees.{Tree}
use Rattle.qs_pattern.specs.declared.variable.Var.{Var}
use Rattle.qs_pattern.specs.declared.pattern.Head.{Head}
use Rattle.qs_pattern.specs.declared.pattern.Head.TheVariants as head
use Rattle.qs_pattern.specs.declared.subst.Value.{Value}
use Rattle.qs_pattern.specs.declared.subst.Value.TheVariants as value
use Rattle.qs_pattern.specs.Variables.{same_var}
use Rattle.qs_pattern.specs.Patterns.{Patterns, no_pattern, node_first, tree_var_first, forest_var_first, AreInClass}
use Rattle.qs_pattern.specs.Substitutions.{Substitution, variables_of, value_of, IsOfClass}
use Rattle.qs_pattern.specs.Instances.{inst}
use Rattle.qs_match.specs.Order.{LengthsBefore}

-- A task is a list of patterns and the trees that it is to stand for.
abbrev pub Tasks : Type 0
Tasks = List (Patterns × List Tree)

-- The variables that were not seen before, each where it first occurs.
abbrev pub was_seen : Var → List Var → Bool
was_seen v [] = false
was_seen v (w ∷ ws) = if same_var w v then true else was_seen v ws

abbrev pub new_ones : List Var → List Var → List Var
new_ones seen [] = []
new_ones seen (v ∷ vs) = if was_seen v seen then new_ones seen vs else v ∷ new_ones (seen ++ v ∷ []) vs

-- The variables of a head, and of patterns, in the order in which they are written, and then these variables.
abbrev pub head_before : Head → List Var → List Var
head_before (head.Label l) vs = vs
head_before (head.Var v) vs = v ∷ vs

abbrev pub variables_before : Patterns → List Var → List Var
variables_before no_pattern vs = vs
variables_before (node_first h kids behind) vs = head_before h (variables_before kids (variables_before behind vs))
variables_before (tree_var_first v behind) vs = v ∷ variables_before behind vs
variables_before (forest_var_first v behind) vs = v ∷ variables_before behind vs

-- The variables of all tasks.
abbrev pub task_variables : Tasks → List Var
task_variables [] = []
task_variables (task ∷ tasks) = variables_before task.0 (task_variables tasks)

-- The patterns of all tasks are in class.
abbrev pub IsInClass : Tasks → Type 0
IsInClass [] = Unit {0}
IsInClass (task ∷ tasks) = AreInClass task.0 × IsInClass tasks

-- Under r the patterns of each task stand for its trees.
abbrev pub Fits : Tasks → Substitution → Type 0
Fits [] r = Unit {0}
Fits (task ∷ tasks) r = (inst r task.0 ≡ task.1) × Fits tasks r

-- Each value is of its variable's class.
abbrev pub AreOfClass : Substitution → Type 0
AreOfClass s = (p : Var × Value) → p ∈ s → IsOfClass p

-- r is s and then those of these variables that s doesn't have, each value of its variable's class.
pub record Extends (vs : List Var) (s r : Substitution) : Type 0 where
  pub more : Substitution
  pub are : r ≡ s ++ more
  pub variables : variables_of more ≡ new_ones (variables_of s) vs
  pub classes : AreOfClass r

-- r is a solution of the tasks: it extends s by their variables, and under it the patterns stand for the trees.
pub record Solves (tasks : Tasks) (s r : Substitution) : Type 0 where
  pub extends : Extends (task_variables tasks) s r
  pub fits : Fits tasks r

-- The list has exactly those of which the fact holds, in strictly ascending order.
pub record Lists (P : Substitution → Type 0) (found : List Substitution) : Type 0 where
  pub sound : (r : Substitution) → r ∈ found → P r
  pub all : (r : Substitution) → P r → r ∈ found
  pub ascends : Ascends LengthsBefore found

-- The solutions of the tasks that extend s were appended.
pub record Appends (tasks : Tasks) (s : Substitution) (old new : List Substitution) : Type 0 where
  pub found : List Substitution
  pub are : new ≡ old ++ found
  pub lists : Lists (Solves tasks s) found

-- t is s, in which the variable has this value, or s with this value of the variable, which had none.
abbrev pub Binds : Substitution → Var → Value → Substitution → Type 0
Binds s v x t = ((value_of s v ≡ Some x) × (t ≡ s)) ⊎ ((value_of s v ≡ None) × (t ≡ s ++ (v, x) ∷ []))

-- The variable has another value.
pub record HasOther (s : Substitution) (v : Var) (x : Value) : Type 0 where
  pub value : Value
  pub has : value_of s v ≡ Some value
  pub differs : value ≡ x → ⊥

-- The solutions in which the variable has this value were appended.
abbrev pub AppendsWith : Tasks → Substitution → Var → Value → List Substitution → List Substitution → Type 0
AppendsWith tasks s v x old new =
    ((t : Substitution) × Binds s v x t × Appends tasks t old new) ⊎ (HasOther s v x × (new ≡ old))

-- r gives the forest variable, which stands before these patterns, this list at the head of the trees.
pub record TakesFront (s : Substitution) (v : Var) (behind : Patterns) (ts : List Tree) (r : Substitution)
    (front : List Tree) : Type 0 where
  pub vs : List Var
  pub extends : Extends (v ∷ variables_before behind vs) s r
  pub is : value_of r v ≡ Some (value.Forest front)
  pub fits : front ++ inst r behind ≡ ts
