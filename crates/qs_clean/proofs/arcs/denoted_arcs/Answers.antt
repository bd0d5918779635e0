use Rattle.std.proofs.Common.{◌≡◌, ℕ, ◌↔◌, ◌⊎◌, ◌∙◌, ap, subst, replicate, false, length, arith}
use Rattle.std.proofs.lemmas.List.{length-replicate}
use Rattle.qs_tree.specs.Lists.{◌∈◌}
use Rattle.qs_firing.specs.Firings.{Firing}
use Rattle.qs_canon.specs.Rounds.{Done}
use Rattle.qs_clean.specs.Marks.{IsMarked}
use Rattle.qs_tree.proofs.Members.{in_read}
use Rattle.qs_clean.proofs.LinkSteps.{written_back}
use Rattle.qs_clean.proofs.ArcSteps.{firing_more, none_used}
use Rattle.qs_clean.proofs.arcs.denoted_arcs.Goals as goal

pub loop-placed-init : goal.loop-placed-init
loop-placed-init c =
    let none : c.in_ok-marks.marks.items ≡ replicate c.args.arcs false = c.in_ok-marks.ensures.items_if_clones_equal (λ y h. h) in
    (ap length none ∙ length-replicate c.args.arcs false, none_used c.args.arcs c.in_ok-marks.marks.items none)

pub mark_path-requires : goal.mark_path-requires
mark_path-requires c = λ k i.
    let used : k ∈ c.placed-item.result.firing.path = subst (λ (f : Firing). k ∈ f.path) (ap (λ (d : Done). d.firing) c.placed.view_is) i in
    let low = c.requires c.placed-item.result (in_read c.args.firings.now c.loop-placed.placed-index c.placed-item.result (omega arith) c.placed-item.is) k used in
    omega (arith, ap length c.deref_mut.ensures.value, c.loop-placed.invariant.0)

pub loop-placed-preserved : goal.loop-placed-preserved
loop-placed-preserved c =
    let long : length c.mark_path.new.marks ≡ c.loop-placed.marks.len = omega (arith, ap length c.deref_mut.ensures.value, c.loop-placed.marks.ok.0) in
    let whole = written_back c.mark_path.new.marks c.loop-placed.marks.items c.loop-placed.marks.len long in
    let marks : (k : ℕ) → IsMarked c.mark_path.new.marks k ↔ (IsMarked c.loop-placed.marks.items k ⊎ (k ∈ c.placed.inside.firing.path)) =
    subst (λ ms. (k : ℕ) → IsMarked c.mark_path.new.marks k ↔ (IsMarked ms k ⊎ (k ∈ c.placed.inside.firing.path))) c.deref_mut.ensures.value c.mark_path.ensures in
    rw whole (
      omega (arith, long, c.loop-placed.marks.ok.0, c.loop-placed.invariant.0),
      firing_more c.args.firings.now c.loop-placed.placed-index c.placed-item.result c.placed.inside.firing.path c.loop-placed.marks.items c.mark_path.new.marks (omega arith) c.placed-item.is
          (ap (λ (d : Done). d.firing.path) c.placed.view_is) c.loop-placed.invariant.1 marks,
    )
