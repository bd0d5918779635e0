use Rattle.std.proofs.Common.{rules, ◌≡◌, Bool}
use Rattle.std.specs.Prelude.{if◌then◌else◌}
use Rattle.std.proofs.lemmas.Result.{IfOk-at_ok}
use Rattle.qs_core.specs.declared.step.Step.TheVariants as step
use Rattle.qs_core.specs.Core.{after_claim}
use Rattle.qs_core.specs.Runs.{with_step}
use Rattle.qs_machine_tests.proofs.Claims.{held_missed}
use Rattle.qs_machine_tests.proofs.core_tests.miss_this.Goals as goal

pub returns : goal.returns
returns g c =
    let is = IfOk-at_ok (λ (took : Bool). c.claim_this.new.self.machine ≡ (if took then with_step c.args.run.now.state.machine (step.Claim c.args.seat c.args.arc) (after_claim c.args.run.now.state.machine.state c.args.seat c.args.arc) else c.args.run.now.state.machine)) c.expect-took.ensures c.claim_this.ensures.step in
    held_missed c.args.run.now.state.machine c.claim_this.new.self.machine (with_step c.args.run.now.state.machine (step.Claim c.args.seat c.args.arc) (after_claim c.args.run.now.state.machine.state c.args.seat c.args.arc)) c.args.run.now.held.items c.expect-took.result (search rules) c.requires is
