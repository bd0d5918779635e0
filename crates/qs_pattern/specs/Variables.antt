-- Variables. A variable is a letter and a number; its letter says what it stands for.
use Rattle.std.specs.Prelude.{◌≤◌, Bool, ◌&&◌, ◌==◌, not, filter, List, [], ◌∷◌}
use Rattle.qs_pattern.specs.declared.variable.Var.{Var}

-- A label variable has a letter from A to F and stands for one label.
abbrev pub IsLabelVar : Var → Type 0
IsLabelVar v = (65 ≤ v.letter) × (v.letter ≤ 70)

-- A tree variable has a letter from I to N and stands for one tree.
abbrev pub IsTreeVar : Var → Type 0
IsTreeVar v = (73 ≤ v.letter) × (v.letter ≤ 78)

-- A forest variable has a letter from U to Z and stands for a list of trees, which may be empty.
abbrev pub IsForestVar : Var → Type 0
IsForestVar v = (85 ≤ v.letter) × (v.letter ≤ 90)

-- Two variables are the same where their letters and their numbers are: `U*` and `U*1` are two variables.
abbrev pub same_var : Var → Var → Bool
same_var v w = v.letter == w.letter && v.number == w.number

-- Each variable of a list once, where it first occurs.
abbrev pub firsts : List Var → List Var
firsts [] = []
firsts (v ∷ vs) = v ∷ filter (λ w. not (same_var v w)) (firsts vs)
