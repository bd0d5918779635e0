use Rattle.std.proofs.Common.{◌≤◌, ◌+◌, ℕ, List, false, length, map, take, get_or, nat_eq, refl, sym, ap, subst, arith}
use Rattle.std.proofs.lemmas.List.{take_all, length-take-le, length-map}
use Rattle.std.proofs.lemmas.Option.{slice_get_within}
use Rattle.std.specs.HashMap.{get}
use Rattle.qs_tree.specs.declared.cell.Label.{Label}
use Rattle.qs_levels.specs.declared.tops.Top.{Top}
use Rattle.qs_levels.specs.working.Steps.{AreStepsOf, AreNumbered}
use Rattle.qs_levels.proofs.Numbering.{few_labels, with_long, none_numbered}
use Rattle.qs_levels.proofs.Stepping.{no_steps, next_left, next_right}
use Rattle.qs_levels.proofs.steps.steps_of.Goals as goal
use Rattle.qs_levels.proofs.steps.steps_of.Goals.{then-top+in_ok-push+in_ok-push-2, else-top+in_ok-push-3+in_ok-push-4}

few : (rules : ℕ) (tops : List Top) (labels : List Label) (sources targets : List ℕ) → AreStepsOf rules tops labels sources targets → length labels ≤ length tops
few rules tops labels sources targets s =
    omega (arith, ap length s.labels_are, few_labels (map (λ (top : Top). top.label) tops), length-map {B = Label} tops (λ (top : Top). top.label))

pub loop-top-init : goal.loop-top-init
loop-top-init c = (
  no_steps c.args.rules c.new-labels.result.items c.in_ok-sources.sources.items c.in_ok-targets.targets.items c.new-labels.ensures.items c.in_ok-sources.ensures.items c.in_ok-targets.ensures.items,
  subst (λ (ls : List Label). AreNumbered ls (λ n. get nat_eq c.new-numbers.result n)) (sym c.new-labels.ensures.items) (none_numbered (λ n. get nat_eq c.new-numbers.result n) (λ n. rw c.new-numbers.ensures.empty)),
)

pub overflow_add-node : goal.overflow_add-node
overflow_add-node c =
    let d : Top = record { rule = 0; right = false; label = record { 0 = 0 } } in
    let within = slice_get_within c.number_of.new.labels.items c.in_ok-node.field-0 _ c.in_ok-node.ensures.number in
    let long = few c.args.rules (take c.loop-top.top-index c.args.tops.now) c.loop-top.labels.items c.loop-top.sources.items c.loop-top.targets.items c.loop-top.invariant.0 in
    let short = length-take-le c.loop-top.top-index c.args.tops.now (omega arith) in
    omega (arith, ap length c.in_ok-node.ensures.labels, with_long c.loop-top.labels.items (get_or c.args.tops.now c.loop-top.top-index d).label, c.requires)

pub loop-top-preserved : goal.loop-top-preserved
loop-top-preserved c =
    let d : Top = record { rule = 0; right = false; label = record { 0 = 0 } } in (
      elim c.if-top.branch [
        | then-top+in_ok-push+in_ok-push-2 w ↦
            next_right c.args.rules c.args.tops.now c.loop-top.top-index (get_or c.args.tops.now c.loop-top.top-index d) d c.loop-top-test.true refl c.loop-top.labels.items c.number_of.new.labels.items
            c.loop-top.sources.items c.loop-top.targets.items c.if-top.sources.items c.if-top.targets.items c.loop-top.invariant.0 c.in_ok-node.ensures.labels c.in_ok-node.field-0 (c.args.rules + c.in_ok-node.field-0)
            c.in_ok-node.ensures.number refl w.if-top.true (let p = w.sources-is in let q = w.in_ok-push.ensures.items in cc) (let p = w.targets-is in let q = w.in_ok-push-2.ensures.items in cc)
        | else-top+in_ok-push-3+in_ok-push-4 w ↦
            next_left c.args.rules c.args.tops.now c.loop-top.top-index (get_or c.args.tops.now c.loop-top.top-index d) d c.loop-top-test.true refl c.loop-top.labels.items c.number_of.new.labels.items
            c.loop-top.sources.items c.loop-top.targets.items c.if-top.sources.items c.if-top.targets.items c.loop-top.invariant.0 c.in_ok-node.ensures.labels c.in_ok-node.field-0 (c.args.rules + c.in_ok-node.field-0)
            c.in_ok-node.ensures.number refl w.if-top.false (let p = w.sources-is in let q = w.in_ok-push-3.ensures.items in cc) (let p = w.targets-is in let q = w.in_ok-push-4.ensures.items in cc)
      ],
      c.in_ok-node.ensures.numbered,
    )

pub returns : goal.returns
returns c =
    let all = take_all c.loop-top.top-index c.args.tops.now (omega arith) in
    let steps = subst (λ (tops : List Top). AreStepsOf c.args.rules tops c.loop-top.labels.items c.loop-top.sources.items c.loop-top.targets.items) (take_all c.loop-top.top-index c.args.tops.now (omega arith)) c.loop-top.invariant.0 in
    record { steps = steps; few = few c.args.rules c.args.tops.now c.loop-top.labels.items c.loop-top.sources.items c.loop-top.targets.items steps }
