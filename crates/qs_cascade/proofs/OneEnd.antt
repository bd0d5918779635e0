-- How a grammar ends is determined.
use Rattle.std.proofs.Common.{◌≡◌, ℕ, ◌<◌, List, [], length, refl, sym, ap, ◌∙◌, arith}
use Rattle.qs_pattern.specs.Rules.{Rule}
use Rattle.qs_graph.specs.Graphs.{QGraph}
use Rattle.qs_canon.specs.Rounds.{Stage, Needs}
use Rattle.qs_canon.proofs.Rounds.{not_both}
use Rattle.qs_clean.proofs.Outcomes.{same_both}
use Rattle.qs_cascade.specs.Stages.{LeavesGraph, IsStageEnd}
use Rattle.qs_cascade.specs.declared.stages.StageEnd.{StageEnd}
use Rattle.qs_cascade.specs.declared.stages.StageEnd.TheVariants as end

module _ (R : List Rule) (G : QGraph) (L : ℕ) where
  -- what is left, and behind how many firings
  same_left : {m n : ℕ} {H K : QGraph} → LeavesGraph R G L m H → LeavesGraph R G L n K → (m ≡ n) × (H ≡ K)
  same_left x y =
      let both = same_both x.closes y.closes x.cleans y.cleans in
      (x.firings_are ∙ ap (λ (S : Stage). length S.done) both.0 ∙ sym y.firings_are, both.1)

  -- no arc is left, or some
  not_left : {m n : ℕ} {H E : QGraph} → LeavesGraph R G L m H → 0 < length H.arcs → LeavesGraph R G L n E → E.arcs ≡ [] → ⊥
  not_left x some y none = omega (arith, some, ap length (ap (λ (K : QGraph). K.arcs) (same_left x y).1 ∙ none))

  -- something is left, or more firings are needed
  not_over : {m : ℕ} {H : QGraph} → LeavesGraph R G L m H → Needs R G L → ⊥
  not_over x needs = not_both R G L x.closure x.closes x.few needs

  pub one_end : (e d : StageEnd) → IsStageEnd R G L e → IsStageEnd R G L d → e ≡ d
  one_end (end.Left graph firings) (end.Left other more) (x, some) (y, too) =
      let same = same_left x y in
      λ i. end.Left (same.1 i) (same.0 i)
  one_end (end.Left graph firings) (end.Empty more) (x, some) (E, y, none) = absurd (not_left x some y none)
  one_end (end.Left graph firings) end.Over (x, some) needs = absurd (not_over x needs)
  one_end (end.Empty firings) (end.Left other more) (E, x, none) (y, some) = absurd (not_left y some x none)
  one_end (end.Empty firings) (end.Empty more) (E, x, none) (F, y, too) = ap (λ (n : ℕ). end.Empty n) (same_left x y).0
  one_end (end.Empty firings) end.Over (E, x, none) needs = absurd (not_over x needs)
  one_end end.Over (end.Left other more) needs (y, some) = absurd (not_over y needs)
  one_end end.Over (end.Empty more) needs (E, y, none) = absurd (not_over y needs)
  one_end end.Over end.Over needs too = refl
