-- Substitutions: what variables stand for.
use Rattle.std.specs.Prelude.{ℕ, ◌≡◌, if◌then◌else◌, List, [], ◌∷◌, length, map, Option, Some, None}
use Rattle.std.specs.List.{filter_map}
use Rattle.qs_pattern.specs.declared.variable.Var.{Var}
use Rattle.qs_pattern.specs.declared.subst.Value.{Value}
use Rattle.qs_pattern.specs.declared.subst.Value.TheVariants as value
use Rattle.qs_pattern.specs.Variables.{IsLabelVar, IsTreeVar, IsForestVar, same_var}

-- A substitution is a list of pairs of a variable and its value.
abbrev pub Substitution : Type 0
Substitution = List (Var × Value)

-- The variables of a substitution, in its order.
abbrev pub variables_of : Substitution → List Var
variables_of s = map (λ p. p.0) s

-- What a variable stands for: the first value that it has.
abbrev pub value_of : Substitution → Var → Option Value
value_of [] v = None
value_of (p ∷ s) v = if same_var p.0 v then Some p.1 else value_of s v

-- The value is of its variable's class: a label, a tree or a list of trees.
abbrev pub IsOfClass : Var × Value → Type 0
IsOfClass (v, value.Label l) = IsLabelVar v
IsOfClass (v, value.Tree t) = IsTreeVar v
IsOfClass (v, value.Forest ts) = IsForestVar v

-- Each variable stands once, and each value is of its variable's class.
abbrev pub IsSubstitution : Substitution → Type 0
IsSubstitution [] = Unit {0}
IsSubstitution (p ∷ s) = IsOfClass p × (value_of s p.0 ≡ None) × IsSubstitution s

-- The lengths of the forest variables' values, in the order of the substitution.
abbrev pub forest_length : Var × Value → Option ℕ
forest_length (v, value.Forest ts) = Some (length ts)
forest_length _ = None

abbrev pub forest_lengths : Substitution → List ℕ
forest_lengths s = filter_map forest_length s
