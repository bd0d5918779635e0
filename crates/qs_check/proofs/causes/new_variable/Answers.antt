use Rattle.std.proofs.Common.{sym, ◌∙◌, subst}
use Rattle.qs_tree.specs.Lists.{◌∈◌}
use Rattle.qs_pattern.specs.declared.variable.Var.{Var}
use Rattle.qs_tree.proofs.Decisions.{true_false}
use Rattle.qs_check.proofs.Among.{is_member, member_is, only_variable}
use Rattle.qs_check.proofs.causes.new_variable.Goals as goal

pub returns-then-contains : goal.returns-then-contains
returns-then-contains c = λ w i.
    subst (λ (u : Var). u ∈ c.args.known.now) (sym (only_variable c.args.cell c.in-Var.var w c.in-Var.is i))
    (is_member c.in-Var.var c.args.known.now (sym c.contains.ensures.value ∙ c.if-contains.true))

pub returns-else-contains : goal.returns-else-contains
returns-else-contains c = (c.in-Var.is, λ i. true_false c.if-contains.false (c.contains.ensures.value ∙ member_is c.in-Var.var c.args.known.now i))
