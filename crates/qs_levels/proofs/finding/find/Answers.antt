use Rattle.std.proofs.Common.{◌≡◌, ◌+◌, ◌<◌, ◌/◌, ◌++◌, ◌∷◌, [], ℕ, List, length, take, get_or, slice_get, Some, sym, ap, ◌∙◌, subst, arith}
use Rattle.std.specs.Prelude.{MatchOption, IfSome}
use Rattle.std.proofs.lemmas.List.{take_all, take_more, length-take-le, get_or_read}
use Rattle.std.proofs.lemmas.Option.{slice_get-get_or}
use Rattle.qs_tree.specs.Lists.{◌∈◌}
use Rattle.qs_pattern.specs.Rules.{Rule, IsAccepted}
use Rattle.qs_levels.specs.Certificates.{greatest_level, IsLeast}
use Rattle.qs_levels.specs.working.Ordering.{AreSteps, AreDepths, IsStuck}
use Rattle.qs_levels.proofs.Bound.{closes}
use Rattle.qs_tree.specs.declared.cell.Label.{Label}
use Rattle.qs_levels.specs.declared.tops.Top.{Top}
use Rattle.qs_levels.specs.declared.ordering.Node.{Node}
use Rattle.qs_levels.specs.working.Tops.{tops_from, HaveLabelsAtTops}
use Rattle.qs_levels.specs.working.Steps.{AreStepsOf}
use Rattle.qs_levels.proofs.Least.{are_steps, no_certificate}
use Rattle.qs_levels.proofs.Levelled.{no_node, half, levelled, levelled-more, greatest-more, few_levels, is_least}
use Rattle.qs_levels.proofs.finding.find.Goals as goal

pub depths_of-requires : goal.depths_of-requires
depths_of-requires c =
    let s : AreStepsOf (length c.args.rules.now) (tops_from 0 c.args.rules.now) c.in_ok-steps.steps.labels.items c.in_ok-steps.steps.sources.items c.in_ok-steps.steps.targets.items =
    subst (λ (ts : List Top). AreStepsOf (length c.args.rules.now) ts c.in_ok-steps.steps.labels.items c.in_ok-steps.steps.sources.items c.in_ok-steps.steps.targets.items) (c.deref.ensures.value ∙ (subst (λ o. IfSome o (λ v. v.items ≡ tops_from 0 c.args.rules.now)) c.in-Some.is c.in_ok-tops.ensures.tops)) c.in_ok-steps.ensures.steps in
    let long : c.len.result ≡ length c.in_ok-steps.steps.labels.items = omega (arith, c.len.ensures, c.in_ok-steps.steps.labels.ok.0) in
    subst (λ n. AreSteps (length c.args.rules.now + n) c.in_ok-steps.steps.sources.items c.in_ok-steps.steps.targets.items) (sym long) (are_steps c.args.rules.now c.in_ok-steps.steps.labels.items c.in_ok-steps.steps.sources.items c.in_ok-steps.steps.targets.items s)

pub returns-in_default-2-clause-found : goal.returns-in_default-2-clause-found
returns-in_default-2-clause-found c =
    let s : AreStepsOf (length c.args.rules.now) (tops_from 0 c.args.rules.now) c.in_ok-steps.steps.labels.items c.in_ok-steps.steps.sources.items c.in_ok-steps.steps.targets.items =
    subst (λ (ts : List Top). AreStepsOf (length c.args.rules.now) ts c.in_ok-steps.steps.labels.items c.in_ok-steps.steps.sources.items c.in_ok-steps.steps.targets.items) (c.deref.ensures.value ∙ (subst (λ o. IfSome o (λ v. v.items ≡ tops_from 0 c.args.rules.now)) c.in-Some.is c.in_ok-tops.ensures.tops)) c.in_ok-steps.ensures.steps in
    let long : c.len.result ≡ length c.in_ok-steps.steps.labels.items = omega (arith, c.len.ensures, c.in_ok-steps.steps.labels.ok.0) in
    let stuck : IsStuck (length c.args.rules.now + length c.in_ok-steps.steps.labels.items) c.in_ok-steps.steps.sources.items c.in_ok-steps.steps.targets.items =
    subst (λ n. IsStuck (length c.args.rules.now + n) c.in_ok-steps.steps.sources.items c.in_ok-steps.steps.targets.items) long
    (subst (λ o. MatchOption o (IsStuck (length c.args.rules.now + c.len.result) c.in_ok-steps.steps.sources.items c.in_ok-steps.steps.targets.items) (λ nodes. AreDepths (length c.args.rules.now + c.len.result) c.in_ok-steps.steps.sources.items c.in_ok-steps.steps.targets.items nodes.items)) c.in_default-2.is c.in_ok-nodes.ensures) in
    λ d fits. no_certificate c.args.rules.now c.in_ok-steps.steps.labels.items c.in_ok-steps.steps.sources.items c.in_ok-steps.steps.targets.items s stuck d fits

pub overflow_cast-level : goal.overflow_cast-level
overflow_cast-level c =
    let s : AreStepsOf (length c.args.rules.now) (tops_from 0 c.args.rules.now) c.in_ok-steps.steps.labels.items c.in_ok-steps.steps.sources.items c.in_ok-steps.steps.targets.items =
    subst (λ (ts : List Top). AreStepsOf (length c.args.rules.now) ts c.in_ok-steps.steps.labels.items c.in_ok-steps.steps.sources.items c.in_ok-steps.steps.targets.items) (c.deref.ensures.value ∙ (subst (λ o. IfSome o (λ v. v.items ≡ tops_from 0 c.args.rules.now)) c.in-Some.is c.in_ok-tops.ensures.tops)) c.in_ok-steps.ensures.steps in
    let long : c.len.result ≡ length c.in_ok-steps.steps.labels.items = omega (arith, c.len.ensures, c.in_ok-steps.steps.labels.ok.0) in
    let d : AreDepths (length c.args.rules.now + length c.in_ok-steps.steps.labels.items) c.in_ok-steps.steps.sources.items c.in_ok-steps.steps.targets.items c.in-Some-2.nodes.items =
    subst (λ n. AreDepths (length c.args.rules.now + n) c.in_ok-steps.steps.sources.items c.in_ok-steps.steps.targets.items c.in-Some-2.nodes.items) long
    (subst (λ o. MatchOption o (IsStuck (length c.args.rules.now + c.len.result) c.in_ok-steps.steps.sources.items c.in_ok-steps.steps.targets.items) (λ nodes. AreDepths (length c.args.rules.now + c.len.result) c.in_ok-steps.steps.sources.items c.in_ok-steps.steps.targets.items nodes.items)) c.in-Some-2.is c.in_ok-nodes.ensures) in
    let same : c.deref-label-items.result.now ≡ c.in_ok-steps.steps.labels.items = c.deref-label-items.ensures.value in
    let here : c.loop-place.place < length c.in_ok-steps.steps.labels.items = omega (arith, c.loop-place-test.true, ap length same) in
    let at : slice_get c.in_ok-steps.steps.labels.items c.loop-place.place ≡ Some (get_or c.in_ok-steps.steps.labels.items c.loop-place.place (record { 0 = 0 })) = slice_get-get_or c.in_ok-steps.steps.labels.items c.loop-place.place (record { 0 = 0 }) here in
    let node : c.index.result.now ≡ get_or c.in-Some-2.nodes.items (length c.args.rules.now + c.loop-place.place) no_node = get_or_read c.in-Some-2.nodes.items (length c.args.rules.now + c.loop-place.place) c.index.result.now (omega (arith, d.long)) c.index.ensures no_node in
    let few = few_levels c.args.rules.now c.in_ok-steps.steps.labels.items c.in_ok-steps.steps.sources.items c.in_ok-steps.steps.targets.items s c.in-Some-2.nodes.items d c.loop-place.place (get_or c.in_ok-steps.steps.labels.items c.loop-place.place (record { 0 = 0 })) at in
    omega (arith, few, ap (λ (x : Node). x.depth) node, c.requires)

pub overflow_add-level : goal.overflow_add-level
overflow_add-level c =
    let s : AreStepsOf (length c.args.rules.now) (tops_from 0 c.args.rules.now) c.in_ok-steps.steps.labels.items c.in_ok-steps.steps.sources.items c.in_ok-steps.steps.targets.items =
    subst (λ (ts : List Top). AreStepsOf (length c.args.rules.now) ts c.in_ok-steps.steps.labels.items c.in_ok-steps.steps.sources.items c.in_ok-steps.steps.targets.items) (c.deref.ensures.value ∙ (subst (λ o. IfSome o (λ v. v.items ≡ tops_from 0 c.args.rules.now)) c.in-Some.is c.in_ok-tops.ensures.tops)) c.in_ok-steps.ensures.steps in
    let long : c.len.result ≡ length c.in_ok-steps.steps.labels.items = omega (arith, c.len.ensures, c.in_ok-steps.steps.labels.ok.0) in
    let d : AreDepths (length c.args.rules.now + length c.in_ok-steps.steps.labels.items) c.in_ok-steps.steps.sources.items c.in_ok-steps.steps.targets.items c.in-Some-2.nodes.items =
    subst (λ n. AreDepths (length c.args.rules.now + n) c.in_ok-steps.steps.sources.items c.in_ok-steps.steps.targets.items c.in-Some-2.nodes.items) long
    (subst (λ o. MatchOption o (IsStuck (length c.args.rules.now + c.len.result) c.in_ok-steps.steps.sources.items c.in_ok-steps.steps.targets.items) (λ nodes. AreDepths (length c.args.rules.now + c.len.result) c.in_ok-steps.steps.sources.items c.in_ok-steps.steps.targets.items nodes.items)) c.in-Some-2.is c.in_ok-nodes.ensures) in
    let same : c.deref-label-items.result.now ≡ c.in_ok-steps.steps.labels.items = c.deref-label-items.ensures.value in
    let here : c.loop-place.place < length c.in_ok-steps.steps.labels.items = omega (arith, c.loop-place-test.true, ap length same) in
    let at : slice_get c.in_ok-steps.steps.labels.items c.loop-place.place ≡ Some (get_or c.in_ok-steps.steps.labels.items c.loop-place.place (record { 0 = 0 })) = slice_get-get_or c.in_ok-steps.steps.labels.items c.loop-place.place (record { 0 = 0 }) here in
    let node : c.index.result.now ≡ get_or c.in-Some-2.nodes.items (length c.args.rules.now + c.loop-place.place) no_node = get_or_read c.in-Some-2.nodes.items (length c.args.rules.now + c.loop-place.place) c.index.result.now (omega (arith, d.long)) c.index.ensures no_node in
    let few = few_levels c.args.rules.now c.in_ok-steps.steps.labels.items c.in_ok-steps.steps.sources.items c.in_ok-steps.steps.targets.items s c.in-Some-2.nodes.items d c.loop-place.place (get_or c.in_ok-steps.steps.labels.items c.loop-place.place (record { 0 = 0 })) at in
    omega (arith, few, ap (λ (x : Node). x.depth) node, c.requires)

pub loop-place-preserved : goal.loop-place-preserved
loop-place-preserved c =
    let s : AreStepsOf (length c.args.rules.now) (tops_from 0 c.args.rules.now) c.in_ok-steps.steps.labels.items c.in_ok-steps.steps.sources.items c.in_ok-steps.steps.targets.items =
    subst (λ (ts : List Top). AreStepsOf (length c.args.rules.now) ts c.in_ok-steps.steps.labels.items c.in_ok-steps.steps.sources.items c.in_ok-steps.steps.targets.items) (c.deref.ensures.value ∙ (subst (λ o. IfSome o (λ v. v.items ≡ tops_from 0 c.args.rules.now)) c.in-Some.is c.in_ok-tops.ensures.tops)) c.in_ok-steps.ensures.steps in
    let long : c.len.result ≡ length c.in_ok-steps.steps.labels.items = omega (arith, c.len.ensures, c.in_ok-steps.steps.labels.ok.0) in
    let d : AreDepths (length c.args.rules.now + length c.in_ok-steps.steps.labels.items) c.in_ok-steps.steps.sources.items c.in_ok-steps.steps.targets.items c.in-Some-2.nodes.items =
    subst (λ n. AreDepths (length c.args.rules.now + n) c.in_ok-steps.steps.sources.items c.in_ok-steps.steps.targets.items c.in-Some-2.nodes.items) long
    (subst (λ o. MatchOption o (IsStuck (length c.args.rules.now + c.len.result) c.in_ok-steps.steps.sources.items c.in_ok-steps.steps.targets.items) (λ nodes. AreDepths (length c.args.rules.now + c.len.result) c.in_ok-steps.steps.sources.items c.in_ok-steps.steps.targets.items nodes.items)) c.in-Some-2.is c.in_ok-nodes.ensures) in
    let same : c.deref-label-items.result.now ≡ c.in_ok-steps.steps.labels.items = c.deref-label-items.ensures.value in
    let here : c.loop-place.place < length c.in_ok-steps.steps.labels.items = omega (arith, c.loop-place-test.true, ap length same) in
    let at : slice_get c.in_ok-steps.steps.labels.items c.loop-place.place ≡ Some (get_or c.in_ok-steps.steps.labels.items c.loop-place.place (record { 0 = 0 })) = slice_get-get_or c.in_ok-steps.steps.labels.items c.loop-place.place (record { 0 = 0 }) here in
    let node : c.index.result.now ≡ get_or c.in-Some-2.nodes.items (length c.args.rules.now + c.loop-place.place) no_node = get_or_read c.in-Some-2.nodes.items (length c.args.rules.now + c.loop-place.place) c.index.result.now (omega (arith, d.long)) c.index.ensures no_node in
    let few = few_levels c.args.rules.now c.in_ok-steps.steps.labels.items c.in_ok-steps.steps.sources.items c.in_ok-steps.steps.targets.items s c.in-Some-2.nodes.items d c.loop-place.place (get_or c.in_ok-steps.steps.labels.items c.loop-place.place (record { 0 = 0 })) at in
    let short : length (take c.loop-place.place c.deref-label-items.result.now) ≡ c.loop-place.place = length-take-le c.loop-place.place c.deref-label-items.result.now (omega (arith, c.loop-place-test.true)) in
    let level : c.index.result.now.depth / 2 ≡ half c.in-Some-2.nodes.items (length c.args.rules.now + length (take c.loop-place.place c.deref-label-items.result.now)) = ap (λ (x : Node). x.depth / 2) node ∙ ap (λ k. half c.in-Some-2.nodes.items (length c.args.rules.now + k)) (sym short) in
    let put : c.push.new.self.items ≡ c.loop-place.of.items ++ (get_or c.deref-label-items.result.now c.loop-place.place (record { 0 = 0 }), c.index.result.now.depth / 2) ∷ [] = c.in_ok-push.ensures.items in (
      put ∙ ap (λ ps. ps ++ (get_or c.deref-label-items.result.now c.loop-place.place (record { 0 = 0 }), c.index.result.now.depth / 2) ∷ []) c.loop-place.invariant.0
          ∙ ap (λ m. levelled c.in-Some-2.nodes.items (length c.args.rules.now) (take c.loop-place.place c.deref-label-items.result.now) ++ (get_or c.deref-label-items.result.now c.loop-place.place (record { 0 = 0 }), m) ∷ []) level
          ∙ sym (levelled-more c.in-Some-2.nodes.items (length c.args.rules.now) (take c.loop-place.place c.deref-label-items.result.now) (get_or c.deref-label-items.result.now c.loop-place.place (record { 0 = 0 })))
          ∙ ap (levelled c.in-Some-2.nodes.items (length c.args.rules.now)) (sym (take_more c.deref-label-items.result.now c.loop-place.place (record { 0 = 0 }) c.loop-place-test.true)),
      omega (arith, c.max-count.ensures, ap greatest_level put, greatest-more c.loop-place.of.items (get_or c.deref-label-items.result.now c.loop-place.place (record { 0 = 0 }), c.index.result.now.depth / 2), c.loop-place.invariant.1),
    )

pub returns-clause-found : goal.returns-clause-found
returns-clause-found c =
    let s : AreStepsOf (length c.args.rules.now) (tops_from 0 c.args.rules.now) c.in_ok-steps.steps.labels.items c.in_ok-steps.steps.sources.items c.in_ok-steps.steps.targets.items =
    subst (λ (ts : List Top). AreStepsOf (length c.args.rules.now) ts c.in_ok-steps.steps.labels.items c.in_ok-steps.steps.sources.items c.in_ok-steps.steps.targets.items) (c.deref.ensures.value ∙ (subst (λ o. IfSome o (λ v. v.items ≡ tops_from 0 c.args.rules.now)) c.in-Some.is c.in_ok-tops.ensures.tops)) c.in_ok-steps.ensures.steps in
    let long : c.len.result ≡ length c.in_ok-steps.steps.labels.items = omega (arith, c.len.ensures, c.in_ok-steps.steps.labels.ok.0) in
    let d : AreDepths (length c.args.rules.now + length c.in_ok-steps.steps.labels.items) c.in_ok-steps.steps.sources.items c.in_ok-steps.steps.targets.items c.in-Some-2.nodes.items =
    subst (λ n. AreDepths (length c.args.rules.now + n) c.in_ok-steps.steps.sources.items c.in_ok-steps.steps.targets.items c.in-Some-2.nodes.items) long
    (subst (λ o. MatchOption o (IsStuck (length c.args.rules.now + c.len.result) c.in_ok-steps.steps.sources.items c.in_ok-steps.steps.targets.items) (λ nodes. AreDepths (length c.args.rules.now + c.len.result) c.in_ok-steps.steps.sources.items c.in_ok-steps.steps.targets.items nodes.items)) c.in-Some-2.is c.in_ok-nodes.ensures) in
    let same : c.deref-label-items.result.now ≡ c.in_ok-steps.steps.labels.items = c.deref-label-items.ensures.value in
    let all : take c.loop-place.place c.deref-label-items.result.now ≡ c.in_ok-steps.steps.labels.items = take_all c.loop-place.place c.deref-label-items.result.now (omega (arith, c.loop-place-test.false)) ∙ same in
    let listed : c.loop-place.of.items ≡ levelled c.in-Some-2.nodes.items (length c.args.rules.now) c.in_ok-steps.steps.labels.items = c.loop-place.invariant.0 ∙ ap (levelled c.in-Some-2.nodes.items (length c.args.rules.now)) all in
    let tops : HaveLabelsAtTops c.args.rules.now = subst (λ o. MatchOption o (HaveLabelsAtTops c.args.rules.now → ⊥) (λ v. HaveLabelsAtTops c.args.rules.now)) c.in-Some.is c.in_ok-tops.ensures.none in
    let least : IsLeast c.args.rules.now (record { count = c.loop-place.count; of = c.loop-place.of.items }) =
    subst (λ (ps : List (Label × ℕ)). IsLeast c.args.rules.now (record { count = c.loop-place.count; of = ps })) (sym listed)
    (is_least c.args.rules.now c.in_ok-steps.steps.labels.items c.in_ok-steps.steps.sources.items c.in_ok-steps.steps.targets.items s c.in-Some-2.nodes.items d tops c.loop-place.count (c.loop-place.invariant.1 ∙ ap (λ ps. greatest_level ps + 1) listed)) in
    least

pub returns-clause-bound : goal.returns-clause-bound
returns-clause-bound c =
    let s : AreStepsOf (length c.args.rules.now) (tops_from 0 c.args.rules.now) c.in_ok-steps.steps.labels.items c.in_ok-steps.steps.sources.items c.in_ok-steps.steps.targets.items =
    subst (λ (ts : List Top). AreStepsOf (length c.args.rules.now) ts c.in_ok-steps.steps.labels.items c.in_ok-steps.steps.sources.items c.in_ok-steps.steps.targets.items) (c.deref.ensures.value ∙ (subst (λ o. IfSome o (λ v. v.items ≡ tops_from 0 c.args.rules.now)) c.in-Some.is c.in_ok-tops.ensures.tops)) c.in_ok-steps.ensures.steps in
    let long : c.len.result ≡ length c.in_ok-steps.steps.labels.items = omega (arith, c.len.ensures, c.in_ok-steps.steps.labels.ok.0) in
    let d : AreDepths (length c.args.rules.now + length c.in_ok-steps.steps.labels.items) c.in_ok-steps.steps.sources.items c.in_ok-steps.steps.targets.items c.in-Some-2.nodes.items =
    subst (λ n. AreDepths (length c.args.rules.now + n) c.in_ok-steps.steps.sources.items c.in_ok-steps.steps.targets.items c.in-Some-2.nodes.items) long
    (subst (λ o. MatchOption o (IsStuck (length c.args.rules.now + c.len.result) c.in_ok-steps.steps.sources.items c.in_ok-steps.steps.targets.items) (λ nodes. AreDepths (length c.args.rules.now + c.len.result) c.in_ok-steps.steps.sources.items c.in_ok-steps.steps.targets.items nodes.items)) c.in-Some-2.is c.in_ok-nodes.ensures) in
    let same : c.deref-label-items.result.now ≡ c.in_ok-steps.steps.labels.items = c.deref-label-items.ensures.value in
    let all : take c.loop-place.place c.deref-label-items.result.now ≡ c.in_ok-steps.steps.labels.items = take_all c.loop-place.place c.deref-label-items.result.now (omega (arith, c.loop-place-test.false)) ∙ same in
    let listed : c.loop-place.of.items ≡ levelled c.in-Some-2.nodes.items (length c.args.rules.now) c.in_ok-steps.steps.labels.items = c.loop-place.invariant.0 ∙ ap (levelled c.in-Some-2.nodes.items (length c.args.rules.now)) all in
    let tops : HaveLabelsAtTops c.args.rules.now = subst (λ o. MatchOption o (HaveLabelsAtTops c.args.rules.now → ⊥) (λ v. HaveLabelsAtTops c.args.rules.now)) c.in-Some.is c.in_ok-tops.ensures.none in
    let least : IsLeast c.args.rules.now (record { count = c.loop-place.count; of = c.loop-place.of.items }) =
    subst (λ (ps : List (Label × ℕ)). IsLeast c.args.rules.now (record { count = c.loop-place.count; of = ps })) (sym listed)
    (is_least c.args.rules.now c.in_ok-steps.steps.labels.items c.in_ok-steps.steps.sources.items c.in_ok-steps.steps.targets.items s c.in-Some-2.nodes.items d tops c.loop-place.count (c.loop-place.invariant.1 ∙ ap (λ ps. greatest_level ps + 1) listed)) in
    let accepted = subst (λ o. IfSome o (λ v. (rule : Rule) → rule ∈ c.args.rules.now → IsAccepted rule)) c.in-Some.is c.in_ok-tops.ensures.accepted in
    closes c.args.rules.now accepted (record { count = c.loop-place.count; of = c.loop-place.of.items }) least.fits
