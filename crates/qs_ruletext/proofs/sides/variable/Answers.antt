use Rattle.std.proofs.Common.{rules}
use Rattle.qs_pattern.specs.Classes.{IsClassOf}
use Rattle.qs_ruletext.proofs.SideSteps.{good_next, variable_passed}
use Rattle.qs_ruletext.proofs.sides.variable.Goals as goal

pub variable_of-requires : goal.variable_of-requires
variable_of-requires c = good_next c.args.reader.now c.in_ok-peek.field-0 c.in_ok-peek.ensures.some

pub returns-clause-some : goal.returns-clause-some
returns-clause-some c =
    let is : IsClassOf c.in_ok-var.var c.args.class = search rules in
    variable_passed c.args.class c.in_ok-var.var c.args.reader.now c.take.new.self c.in_ok-peek.field-0 c.in_ok-peek.ensures.some c.in_ok-var.ensures.some is c.take.ensures.taken
