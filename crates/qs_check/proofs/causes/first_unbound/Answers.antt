use Rattle.std.proofs.Common.{List, Some, sym, ◌∙◌, ap, subst}
use Rattle.std.proofs.lemmas.List.{take_all}
use Rattle.qs_tree.specs.Lists.{◌∈◌}
use Rattle.qs_pattern.specs.declared.pattern.Head.{Head}
use Rattle.qs_check.specs.Cells.{variables_among}
use Rattle.qs_tree.proofs.Members.{at_place}
use Rattle.qs_check.proofs.Among.{each_more}
use Rattle.qs_check.proofs.causes.first_unbound.Goals as goal

pub returns-in-Some : goal.returns-in-Some
returns-in-Some c = record {
  var = c.in-Some.field-0;
  at = at_place c.args.cells.now c.loop-place.place c.index-cells-place.result c.loop-place-test.true c.index-cells-place.is ∙ ap (λ h. Some h) c.in-Some.ensures.0;
  unbound = c.in-Some.ensures.1;
  bound_before = c.loop-place.invariant;
}

pub loop-place-preserved : goal.loop-place-preserved
loop-place-preserved c =
    each_more c.args.cells.now c.loop-place.place c.index-cells-place.result c.loop-place-test.true c.index-cells-place.is c.args.bound.now c.loop-place.invariant c.in_default.ensures

pub returns : goal.returns
returns c = λ v i.
    c.loop-place.invariant v (subst (λ (cs : List Head). v ∈ variables_among cs) (sym (take_all c.loop-place.place c.args.cells.now c.loop-place-test.false)) i)
