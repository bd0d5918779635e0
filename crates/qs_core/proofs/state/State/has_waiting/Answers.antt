use Rattle.std.proofs.Common.{◌≡◌, ℕ, ◌∙◌, subst, Bool, true, false, not, Option, Some, None, refl, sym, ap}
use Rattle.std.specs.Prelude.{is_some}
use Rattle.qs_core.specs.declared.step.Stop.{Stop}
use Rattle.qs_core.specs.Core.{CoreState}
use Rattle.qs_core.specs.Answers.{HasWaiting}
use Rattle.qs_core.specs.Runs.{MachineWithRoom}
use Rattle.qs_core.specs.working.Tables.{IsWaiting}
use Rattle.qs_core.proofs.state.State.has_waiting.Goals as goal

seen : (S : CoreState) (found : Option ℕ) (some none : Bool) → IsWaiting S.status found → some ≡ is_some found → is_some S.stop ≡ not none → none ≡ true → (some ≡ true → HasWaiting S) × (HasWaiting S → some ≡ true)
seen S (Some m) some none waits is going set =
    ((λ t. (no_stop S.stop (going ∙ ap not set), (m, waits))), (λ h. is))
  where
    no_stop : (o : Option Stop) → is_some o ≡ false → o ≡ None
    no_stop None e = refl
    no_stop (Some s) e = cc
seen S None some none waits is going set =
    ((λ t. let never : true ≡ false = sym t ∙ is in cc), (λ (g, (m, at)). absurd (waits m at)))

pub returns-then-is_none-clause-value : goal.returns-then-is_none-clause-value
returns-then-is_none-clause-value c =
    let S = c.args.self.now.machine.state in
    let stop = ap (λ (x : MachineWithRoom). x.machine.state.stop) c.self.view_is in
    let list = ap (λ (x : MachineWithRoom). x.machine.state.status) c.self.view_is in
    seen S c.waiting.result c.is_some.result c.is_none.result
    (subst (λ xs. IsWaiting xs c.waiting.result) list c.waiting.ensures.found)
    c.is_some.ensures (ap is_some (sym stop) ∙ c.is_none.ensures) c.if-is_none.true
