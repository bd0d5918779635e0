use Rattle.std.proofs.Common.{◌≡◌, ℕ, ◌<◌, ◌↔◌, ◌⊎◌, get_or, length, set, true, ◌∙◌, ap, subst, refl, arith}
use Rattle.qs_tree.specs.Lists.{◌∈◌}
use Rattle.qs_firing.specs.Firings.{Firing}
use Rattle.qs_clean.specs.Marks.{IsMarked}
use Rattle.qs_tree.proofs.Members.{in_get_or}
use Rattle.qs_clean.proofs.ArcSteps.{path_more, path_all}
use Rattle.qs_clean.proofs.marks.mark_path.Goals as goal

pub bounds-marks-arc : goal.bounds-marks-arc
bounds-marks-arc c =
    let is : c.as_slice-path.result.now ≡ c.args.firing.now.path = c.as_slice-path.ensures.value ∙ ap (λ (f : Firing). f.path) c.firing.view_is in
    let k = get_or c.as_slice-path.result.now c.loop-arc.arc-index 0 in
    omega (arith, c.requires k (subst (λ ns. k ∈ ns) is (in_get_or c.as_slice-path.result.now c.loop-arc.arc-index 0 (omega arith))))

pub loop-arc-preserved : goal.loop-arc-preserved
loop-arc-preserved c =
    let is : c.as_slice-path.result.now ≡ c.args.firing.now.path = c.as_slice-path.ensures.value ∙ ap (λ (f : Firing). f.path) c.firing.view_is in
    let k = get_or c.as_slice-path.result.now c.loop-arc.arc-index 0 in
    let low = c.requires k (subst (λ ns. k ∈ ns) is (in_get_or c.as_slice-path.result.now c.loop-arc.arc-index 0 (omega arith))) in
    let within : k < length c.loop-arc.marks = omega arith in
    path_more c.as_slice-path.result.now c.loop-arc.arc-index k c.args.marks.now c.loop-arc.marks (set c.loop-arc.marks k true) (omega arith) refl within refl c.loop-arc.invariant

pub returns : goal.returns
returns c =
    let is : c.as_slice-path.result.now ≡ c.args.firing.now.path = c.as_slice-path.ensures.value ∙ ap (λ (f : Firing). f.path) c.firing.view_is in
    subst (λ ns. (k : ℕ) → IsMarked c.loop-arc.marks k ↔ (IsMarked c.args.marks.now k ⊎ (k ∈ ns))) is
    (path_all c.as_slice-path.result.now c.loop-arc.arc-index c.args.marks.now c.loop-arc.marks (omega arith) c.loop-arc.invariant)
