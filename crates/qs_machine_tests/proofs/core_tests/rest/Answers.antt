use Rattle.std.proofs.Common.{rules, ◌≡◌, Bool}
use Rattle.std.specs.Prelude.{if◌then◌else◌}
use Rattle.std.proofs.lemmas.Result.{IfOk-at_ok}
use Rattle.qs_core.specs.declared.step.Step.TheVariants as step
use Rattle.qs_core.specs.Core.{after_rest}
use Rattle.qs_core.specs.Runs.{with_step}
use Rattle.qs_machine_tests.proofs.Claims.{held_rested}
use Rattle.qs_machine_tests.proofs.core_tests.rest.Goals as goal

pub returns : goal.returns
returns g c =
    let is = IfOk-at_ok (λ (rested : Bool). c.rest.new.self.machine ≡ (if rested then with_step c.args.run.now.state.machine (step.Rest c.args.seat) (after_rest c.args.run.now.state.machine.state c.args.seat) else c.args.run.now.state.machine)) c.expect-rested.ensures c.rest.ensures.step in
    held_rested c.args.run.now.state.machine c.rest.new.self.machine c.args.run.now.held.items c.args.seat c.expect-rested.result (search rules) c.requires is
