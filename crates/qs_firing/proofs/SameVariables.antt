-- Lists of variables that are compared one by one.
use Rattle.std.proofs.Common.{◌≡◌, true, List, [], ◌∷◌, refl, ◌∙◌, ap}
use Rattle.std.specs.Prelude.{◌&&◌}
use Rattle.std.proofs.lemmas.Bool.{and_parts}
use lib.Pointwise.{pointwise}
use Rattle.qs_pattern.specs.declared.variable.Var.{Var}
use Rattle.qs_pattern.specs.Variables.{same_var}
use Rattle.qs_pattern.proofs.VariableLemmas.{same_var-true, same_var-refl}

pub same_variables : (vs ws : List Var) → pointwise same_var vs ws ≡ true → vs ≡ ws
same_variables [] [] e = refl
same_variables [] (w ∷ ws) e = absurd cc
same_variables (v ∷ vs) [] e = absurd cc
same_variables (v ∷ vs) (w ∷ ws) e =
    let b = and_parts (same_var v w) (pointwise same_var vs ws) e in
    let p : v ≡ w = same_var-true v w b.0 in
    let q : vs ≡ ws = same_variables vs ws b.1 in
    cc

pub equal_variables : (vs : List Var) → pointwise same_var vs vs ≡ true
equal_variables [] = refl
equal_variables (v ∷ vs) = ap (λ b. b && pointwise same_var vs vs) (same_var-refl v) ∙ equal_variables vs
