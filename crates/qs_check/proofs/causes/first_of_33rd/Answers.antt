use Rattle.std.proofs.Common.{◌≡◌, ◌++◌, ◌∷◌, [], List, length, take, Some, sym, ◌∙◌, ap, subst, arith, length-append}
use Rattle.qs_tree.specs.Lists.{◌∈◌}
use Rattle.qs_pattern.specs.declared.variable.Var.{Var}
use Rattle.qs_pattern.specs.Variables.{firsts}
use Rattle.qs_pattern.proofs.VariableLemmas.{in_firsts}
use Rattle.qs_check.specs.Cells.{variables_among}
use Rattle.qs_tree.proofs.Members.{at_place}
use Rattle.qs_check.proofs.Among.{firsts_same, firsts_new}
use Rattle.qs_check.proofs.causes.first_of_33rd.Goals as goal

pub loop-place-preserved-in_default : goal.loop-place-preserved-in_default
loop-place-preserved-in_default c =
    let seen = c.deref.ensures.value ∙ c.loop-place.invariant.seen in
    record {
      seen = c.loop-place.invariant.seen
          ∙ sym (firsts_same c.args.cells.now c.loop-place.place c.index-cells-place.result c.loop-place-test.true c.index-cells-place.is
          (λ v i. subst (λ (vs : List Var). v ∈ vs) seen (c.in_default.ensures v i)));
      few = c.loop-place.invariant.few;
    }

pub returns-then-len-eq-MOST_VARIABLES : goal.returns-then-len-eq-MOST_VARIABLES
returns-then-len-eq-MOST_VARIABLES c =
    let seen = c.deref.ensures.value ∙ c.loop-place.invariant.seen in
    let before = variables_among (take c.loop-place.place c.args.cells.now) in
    let long : length (firsts before) ≡ length c.loop-place.seen.items = ap length (sym c.loop-place.invariant.seen) in
    record {
      var = c.in-Some.var;
      at = at_place c.args.cells.now c.loop-place.place c.index-cells-place.result c.loop-place-test.true c.index-cells-place.is ∙ ap (λ h. Some h) c.in-Some.ensures.0;
      new = λ i. c.in-Some.ensures.1 (subst (λ (vs : List Var). c.in-Some.var ∈ vs) (sym seen) (in_firsts before c.in-Some.var i));
      before = omega (arith, long, c.loop-place.seen.ok.0, c.len.ensures, c.if-len-eq-MOST_VARIABLES.true);
    }

pub loop-place-preserved : goal.loop-place-preserved
loop-place-preserved c =
    let seen = c.deref.ensures.value ∙ c.loop-place.invariant.seen in
    let v = c.in-Some.var in
    let longer : length c.push.new.self.items ≡ length (c.loop-place.seen.items ++ v ∷ []) = ap length c.in_ok-push.ensures.items in
    record {
      seen = c.in_ok-push.ensures.items
          ∙ ap (λ vs. vs ++ v ∷ []) c.loop-place.invariant.seen
          ∙ sym (firsts_new c.args.cells.now c.loop-place.place c.index-cells-place.result c.loop-place-test.true c.index-cells-place.is v c.in-Some.ensures.0
          (λ i. c.in-Some.ensures.1 (subst (λ (vs : List Var). v ∈ vs) (sym seen) i)));
      few = omega (arith, longer, length-append c.loop-place.seen.items (v ∷ []), c.loop-place.invariant.few, c.loop-place.seen.ok.0, c.len.ensures, c.if-len-eq-MOST_VARIABLES.false);
    }
