use Rattle.std.proofs.Common.{◌≡◌, List, sym, ◌∙◌, ap}
use lib.Pointwise.{pointwise}
use Rattle.qs_pattern.specs.declared.variable.Var.{Var}
use Rattle.qs_pattern.specs.Variables.{same_var}
use Rattle.qs_firing.proofs.SameVariables.{same_variables, equal_variables}
use Rattle.qs_firing.proofs.deciding.has_variables.Goals as goal

pub returns : goal.returns
returns c =
    let given = c.in_ok-given.given.items in
    let wanted = c.in_ok-variables.field-0.items in (
      λ t. sym c.in_ok-given.ensures ∙ same_variables given wanted (sym c.eq.ensures ∙ t) ∙ c.in_ok-variables.ensures,
      λ e. let same : given ≡ wanted = c.in_ok-given.ensures ∙ e ∙ sym c.in_ok-variables.ensures in
          c.eq.ensures ∙ ap (λ (vs : List Var). pointwise same_var vs wanted) same ∙ equal_variables wanted,
    )
