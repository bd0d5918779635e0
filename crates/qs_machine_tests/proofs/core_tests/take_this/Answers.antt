use Rattle.std.proofs.Common.{rules, ◌≡◌, Bool, Some, None, slice_get}
use Rattle.std.specs.Prelude.{IsTrue, if◌then◌else◌, ◌↔◌}
use Rattle.std.proofs.lemmas.Result.{IfOk-at_ok}
use Rattle.qs_core.specs.declared.step.Step.TheVariants as step
use Rattle.qs_core.specs.declared.step.Status.TheVariants as status
use Rattle.qs_core.specs.Core.{after_claim}
use Rattle.qs_core.specs.Runs.{with_step}
use Rattle.qs_machine_tests.proofs.Claims.{held_took_this}
use Rattle.qs_machine_tests.proofs.core_tests.take_this.Goals as goal

pub returns : goal.returns
returns g c =
    let tells = IfOk-at_ok (λ (took : Bool). IsTrue took ↔ ((c.args.run.now.state.machine.state.stop ≡ None) × (slice_get c.args.run.now.state.machine.state.status c.args.arc ≡ Some status.Waiting))) c.expect-took.ensures c.claim_this.ensures.took in
    let is = IfOk-at_ok (λ (took : Bool). c.claim_this.new.self.machine ≡ (if took then with_step c.args.run.now.state.machine (step.Claim c.args.seat c.args.arc) (after_claim c.args.run.now.state.machine.state c.args.seat c.args.arc) else c.args.run.now.state.machine)) c.expect-took.ensures c.claim_this.ensures.step in
    held_took_this c.args.run.now.state.machine c.claim_this.new.self.machine c.args.run.now.held.items c.args.seat c.args.arc c.expect-took.result (search rules) c.see_free.ensures.held c.requires tells is
