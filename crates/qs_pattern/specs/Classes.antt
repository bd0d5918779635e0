-- The class of a variable.
use Rattle.qs_pattern.specs.declared.variable.Var.{Var}
use Rattle.qs_pattern.specs.declared.variable.VarClass.{VarClass}
use Rattle.qs_pattern.specs.declared.variable.VarClass.TheVariants as class
use Rattle.qs_pattern.specs.Variables.{IsLabelVar, IsTreeVar, IsForestVar}

-- A variable is of the class that its letter says.
abbrev pub IsClassOf : Var → VarClass → Type 0
IsClassOf v class.Label = IsLabelVar v
IsClassOf v class.Tree = IsTreeVar v
IsClassOf v class.Forest = IsForestVar v
