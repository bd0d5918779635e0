use Rattle.std.proofs.Common.{◌≡◌, ◌<◌, ◌≤◌, ◌+◌, List, length, sym, ◌∙◌, ap, subst, arith}
use Rattle.qs_tree.specs.Lists.{◌∈◌}
use Rattle.qs_tree.proofs.Members.{in_append_right}
use Rattle.qs_lex.specs.declared.refusal.Cause.TheVariants.{SideTooLong}
use Rattle.qs_pattern.specs.Limits.{most_patterns, most_variables}
use Rattle.qs_pattern.specs.declared.variable.Var.{Var}
use Rattle.qs_pattern.specs.declared.pattern.Head.{Head}
use Rattle.qs_pattern.specs.declared.pattern.Pattern.{Pattern}
use Rattle.qs_pattern.specs.Variables.{firsts}
use Rattle.qs_pattern.specs.Patterns.{Patterns, patterns, count, cells, variables_in}
use Rattle.qs_pattern.specs.Rules.{UnmarkedRule, rule_cells, rule_variables, variables_behind}
use Rattle.qs_check.specs.Cells.{written, written_rule, variables_among}
use Rattle.qs_check.specs.Causes.{Has17th, Has33rd, HasUnbound, IsFirstCause, left_too_long, right_too_long, too_many_cells, too_many_variables, unbound}
use Rattle.qs_ruletext.specs.WrittenRules.{WrittenRule}
use Rattle.qs_check.proofs.Written.{length-written, length-rule, variables-rule}
use Rattle.qs_check.proofs.Limits.{some_case, none_case, place_within}
use Rattle.qs_check.proofs.checking.first_cause.Goals as goal

pub returns-in-Some : goal.returns-in-Some
returns-in-Some c =
    let rule : UnmarkedRule = c.args.raw.now.rule in
    let left_is : patterns c.deref.result.now ≡ rule.left = ap patterns c.deref.ensures.value ∙ ap (λ (w : WrittenRule). w.rule.left) c.raw.view_is in
    left_too_long (subst (λ (ps : Patterns). Has17th ps c.in-Some.place) left_is (some_case _ _ _ c.in-Some.place c.in-Some.is c.in_ok-place.ensures))

pub overflow_add-result : goal.overflow_add-result
overflow_add-result c =
    let rule : UnmarkedRule = c.args.raw.now.rule in
    let left_is : patterns c.deref.result.now ≡ rule.left = ap patterns c.deref.ensures.value ∙ ap (λ (w : WrittenRule). w.rule.left) c.raw.view_is in
    let short : count rule.left ≤ most_patterns = subst (λ (ps : Patterns). count ps ≤ most_patterns) left_is (none_case _ _ _ c.in_default.is c.in_ok-place.ensures) in
    let right_is : patterns c.deref-2.result.now ≡ rule.right = ap patterns c.deref-2.ensures.value ∙ ap (λ (w : WrittenRule). w.rule.right) c.raw.view_is in
    let root = subst (λ (ps : Patterns). Has17th ps c.in-Some-2.place) right_is (some_case _ _ _ c.in-Some-2.place c.in-Some-2.is c.in_ok-place-2.ensures) in
    let within : cells rule.left + c.in-Some-2.place < rule_cells rule = place_within rule SideTooLong (cells rule.left + c.in-Some-2.place) (right_too_long short root) in
    let written_left = ap length c.in_ok-left.ensures in
    let here = ap (λ (ps : List Pattern). length (written (patterns ps))) c.deref-in-Some-2.ensures.value ∙ ap (λ (w : WrittenRule). length (written w.rule.left)) c.raw.view_is in
    omega (
      arith,
      within,
      c.requires.bytes,
      c.raw.inside.at.ok.0,
      c.raw.inside.at.ok.1,
      c.raw.inside.at.small,
      ap (λ (w : WrittenRule). length w.at) c.raw.view_is,
      written_left,
      here,
      length-written rule.left,
      c.len.ensures,
      c.in_ok-left.left.ok.0,
    )

pub returns-in-Some-2 : goal.returns-in-Some-2
returns-in-Some-2 c =
    let rule : UnmarkedRule = c.args.raw.now.rule in
    let left_is : patterns c.deref.result.now ≡ rule.left = ap patterns c.deref.ensures.value ∙ ap (λ (w : WrittenRule). w.rule.left) c.raw.view_is in
    let short : count rule.left ≤ most_patterns = subst (λ (ps : Patterns). count ps ≤ most_patterns) left_is (none_case _ _ _ c.in_default.is c.in_ok-place.ensures) in
    let right_is : patterns c.deref-2.result.now ≡ rule.right = ap patterns c.deref-2.ensures.value ∙ ap (λ (w : WrittenRule). w.rule.right) c.raw.view_is in
    let root = subst (λ (ps : Patterns). Has17th ps c.in-Some-2.place) right_is (some_case _ _ _ c.in-Some-2.place c.in-Some-2.is c.in_ok-place-2.ensures) in
    let written_left = ap length c.in_ok-left.ensures in
    let here = ap (λ (ps : List Pattern). length (written (patterns ps))) c.deref-in-Some-2.ensures.value ∙ ap (λ (w : WrittenRule). length (written w.rule.left)) c.raw.view_is in
    let left : cells rule.left ≡ c.len.result = omega (arith, written_left, here, length-written rule.left, c.len.ensures, c.in_ok-left.left.ok.0) in
    subst (λ n. IsFirstCause rule SideTooLong (n + c.in-Some-2.place)) left (right_too_long short root)

pub returns-then-len-gt-MOST_CELLS : goal.returns-then-len-gt-MOST_CELLS
returns-then-len-gt-MOST_CELLS c =
    let rule : UnmarkedRule = c.args.raw.now.rule in
    let left_is : patterns c.deref.result.now ≡ rule.left = ap patterns c.deref.ensures.value ∙ ap (λ (w : WrittenRule). w.rule.left) c.raw.view_is in
    let left : count rule.left ≤ most_patterns = subst (λ (ps : Patterns). count ps ≤ most_patterns) left_is (none_case _ _ _ c.in_default.is c.in_ok-place.ensures) in
    let right_is : patterns c.deref-2.result.now ≡ rule.right = ap patterns c.deref-2.ensures.value ∙ ap (λ (w : WrittenRule). w.rule.right) c.raw.view_is in
    let right : count rule.right ≤ most_patterns = subst (λ (ps : Patterns). count ps ≤ most_patterns) right_is (none_case _ _ _ c.in_default-2.is c.in_ok-place-2.ensures) in
    let long = ap length c.in_ok-cells.ensures in
    too_many_cells (record { left = left; right = right }) (omega (arith, long, length-rule rule, c.in_ok-cells.cells.ok.0, c.len-2.ensures, c.if-len-gt-MOST_CELLS.true))

pub returns-in-Some-3 : goal.returns-in-Some-3
returns-in-Some-3 c =
    let rule : UnmarkedRule = c.args.raw.now.rule in
    let left_is : patterns c.deref.result.now ≡ rule.left = ap patterns c.deref.ensures.value ∙ ap (λ (w : WrittenRule). w.rule.left) c.raw.view_is in
    let left : count rule.left ≤ most_patterns = subst (λ (ps : Patterns). count ps ≤ most_patterns) left_is (none_case _ _ _ c.in_default.is c.in_ok-place.ensures) in
    let right_is : patterns c.deref-2.result.now ≡ rule.right = ap patterns c.deref-2.ensures.value ∙ ap (λ (w : WrittenRule). w.rule.right) c.raw.view_is in
    let right : count rule.right ≤ most_patterns = subst (λ (ps : Patterns). count ps ≤ most_patterns) right_is (none_case _ _ _ c.in_default-2.is c.in_ok-place-2.ensures) in
    let long = ap length c.in_ok-cells.ensures in
    let all = c.deref-3.ensures.value ∙ c.in_ok-cells.ensures in
    too_many_variables (record { left = left; right = right }) (omega (arith, long, length-rule rule, c.in_ok-cells.cells.ok.0, c.len-2.ensures, c.if-len-gt-MOST_CELLS.false))
    (subst (λ (cs : List Head). Has33rd cs c.in-Some-3.place) all (some_case _ _ _ c.in-Some-3.place c.in-Some-3.is c.in_ok-place-3.ensures))

pub returns-in-Some-first_unbound : goal.returns-in-Some-first_unbound
returns-in-Some-first_unbound c =
    let rule : UnmarkedRule = c.args.raw.now.rule in
    let left_is : patterns c.deref.result.now ≡ rule.left = ap patterns c.deref.ensures.value ∙ ap (λ (w : WrittenRule). w.rule.left) c.raw.view_is in
    let left : count rule.left ≤ most_patterns = subst (λ (ps : Patterns). count ps ≤ most_patterns) left_is (none_case _ _ _ c.in_default.is c.in_ok-place.ensures) in
    let right_is : patterns c.deref-2.result.now ≡ rule.right = ap patterns c.deref-2.ensures.value ∙ ap (λ (w : WrittenRule). w.rule.right) c.raw.view_is in
    let right : count rule.right ≤ most_patterns = subst (λ (ps : Patterns). count ps ≤ most_patterns) right_is (none_case _ _ _ c.in_default-2.is c.in_ok-place-2.ensures) in
    let long = ap length c.in_ok-cells.ensures in
    let whole = ap variables_among (c.deref-3.ensures.value ∙ c.in_ok-cells.ensures) ∙ variables-rule rule in
    let few : length (firsts (rule_variables rule)) ≤ most_variables = subst (λ (vs : List Var). length (firsts vs) ≤ most_variables) whole (none_case _ _ _ c.in_default-3.is c.in_ok-place-3.ensures) in
    let all = c.deref-5.ensures.value ∙ c.in_ok-cells.ensures in
    let bound = c.deref-6.ensures.value ∙ c.in_ok-bound.ensures ∙ ap (λ (ps : List Pattern). variables_in (patterns ps)) c.deref-4.ensures.value ∙ ap (λ (w : WrittenRule). variables_in w.rule.left) c.raw.view_is in
    let u = subst (λ (cs : List Head). HasUnbound cs c.deref-6.result.now c.in-Some-first_unbound.place) all c.in-Some-first_unbound.ensures in
    unbound (record { left = left; right = right }) (omega (arith, long, length-rule rule, c.in_ok-cells.cells.ok.0, c.len-2.ensures, c.if-len-gt-MOST_CELLS.false)) few
    (subst (λ (vs : List Var). HasUnbound (written_rule rule) vs c.in-Some-first_unbound.place) bound u)

pub returns : goal.returns
returns c =
    let rule : UnmarkedRule = c.args.raw.now.rule in
    let left_is : patterns c.deref.result.now ≡ rule.left = ap patterns c.deref.ensures.value ∙ ap (λ (w : WrittenRule). w.rule.left) c.raw.view_is in
    let left : count rule.left ≤ most_patterns = subst (λ (ps : Patterns). count ps ≤ most_patterns) left_is (none_case _ _ _ c.in_default.is c.in_ok-place.ensures) in
    let right_is : patterns c.deref-2.result.now ≡ rule.right = ap patterns c.deref-2.ensures.value ∙ ap (λ (w : WrittenRule). w.rule.right) c.raw.view_is in
    let right : count rule.right ≤ most_patterns = subst (λ (ps : Patterns). count ps ≤ most_patterns) right_is (none_case _ _ _ c.in_default-2.is c.in_ok-place-2.ensures) in
    let long = ap length c.in_ok-cells.ensures in
    let whole = ap variables_among (c.deref-3.ensures.value ∙ c.in_ok-cells.ensures) ∙ variables-rule rule in
    let all = ap variables_among (c.deref-5.ensures.value ∙ c.in_ok-cells.ensures) ∙ variables-rule rule in
    let bound = c.deref-6.ensures.value ∙ c.in_ok-bound.ensures ∙ ap (λ (ps : List Pattern). variables_in (patterns ps)) c.deref-4.ensures.value ∙ ap (λ (w : WrittenRule). variables_in w.rule.left) c.raw.view_is in
    record {
      left = record { some = c.requires.left_some; at_most = left; no_forest_at_top = c.requires.left_top; in_class = c.requires.left_in_class };
      right = record { some = c.requires.right_some; at_most = right; no_forest_at_top = c.requires.right_top; in_class = c.requires.right_in_class };
      condition = c.requires.condition_in_class;
      members = c.requires.members;
      cells = omega (arith, long, length-rule rule, c.in_ok-cells.cells.ok.0, c.len-2.ensures, c.if-len-gt-MOST_CELLS.false);
      variables = subst (λ (vs : List Var). length (firsts vs) ≤ most_variables) whole (none_case _ _ _ c.in_default-3.is c.in_ok-place-3.ensures);
      bound = λ v i. subst (λ (vs : List Var). v ∈ vs) bound
          (c.in-None.ensures v (subst (λ (vs : List Var). v ∈ vs) (sym all) (in_append_right (variables_in rule.left) (variables_behind rule) v i)));
    }
