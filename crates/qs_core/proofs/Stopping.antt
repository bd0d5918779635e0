-- A run that is stopped because more firings are needed than the limit.
use Rattle.std.proofs.Common.{◌≡◌, ℕ, ◌<◌, ◌≤◌, ◌∙◌, Bool, length, refl, sym, ap, subst, arith, None}
use Rattle.qs_tree.proofs.Elements.{exists_at}
use Rattle.qs_firing.specs.Work.{WorkWithTrees, IsRightFor}
use Rattle.qs_core.specs.declared.step.Stop.TheVariants as stop
use Rattle.qs_core.specs.Core.{HasClaim}
use Rattle.qs_core.specs.Runs.{Machine, with_stop, MayStopOver}
use Rattle.qs_core.specs.Machines.{IsSound}
use Rattle.qs_core.proofs.Machines.{sound_stop}
use Rattle.qs_core.proofs.Publishing.{next, done_few, claim_seated}

module _ (M now : Machine) (entry exit arcs : ℕ) (unique : Bool) (i k : ℕ) (work : WorkWithTrees) (same : M ≡ now) (sound : IsSound M entry exit arcs unique) (going : M.state.stop ≡ None)
    (claim : now.state.stop ≡ None → HasClaim now.state i work.arc k) (more : now.state.stop ≡ None → k < length work.made)
    (right : now.state.stop ≡ None → IsRightFor now.base.rules now.state.graph.arcs work) (many : M.base.limit ≤ length M.state.done) where
  none : now.state.stop ≡ None
  none = ap (λ (m : Machine). m.state.stop) (sym same) ∙ going

  pub full : length M.state.done ≡ M.base.limit
  full = omega (arith, many, done_few sound)

  pub over_sound : IsSound (with_stop M (stop.Over i)) entry exit arcs unique
  over_sound =
      let (made, at) = exists_at work.made k (more none) in
      let has : HasClaim M.state i work.arc k = subst (λ (m : Machine). HasClaim m.state i work.arc k) (sym same) (claim none) in
      let is : IsRightFor M.base.rules M.state.graph.arcs work = subst (λ (m : Machine). IsRightFor m.base.rules m.state.graph.arcs work) (sym same) (right none) in
      let may : MayStopOver M.base M.state i = record { going = going; seat = claim_seated sound i work.arc k has; next = next sound going i work k has is made at; full = full } in
      sound_stop sound going (stop.Over i) (may, refl)

  pub over_answers : (now.state.stop ≡ None) × (length now.state.done ≡ now.base.limit) × (with_stop M (stop.Over i) ≡ with_stop now (stop.Over i))
  over_answers = (none, subst (λ (m : Machine). length m.state.done ≡ m.base.limit) same full, ap (λ (m : Machine). with_stop m (stop.Over i)) same)
