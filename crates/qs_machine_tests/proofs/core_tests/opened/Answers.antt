use Rattle.std.proofs.Common.{rules, ◌≡◌}
use Rattle.std.proofs.lemmas.Result.{IfOk-at_ok}
use Rattle.qs_core.specs.Core.{Base}
use Rattle.qs_core.specs.Runs.{MachineWithRoom}
use Rattle.qs_core.specs.Answers.{opened}
use Rattle.qs_machine_tests.proofs.Claims.{held_opened}
use Rattle.qs_machine_tests.proofs.core_tests.opened.Goals as goal

pub returns : goal.returns
returns g c =
    let B : Base = record { rules = c.args.rules.now; start = c.args.start.now; limit = c.args.limit; seats = 2 } in
    let is = IfOk-at_ok (λ (s : MachineWithRoom). s.machine ≡ opened B) c.expect-state.ensures c.open.ensures in
    held_opened c.expect-state.result.machine B c.push-2.new.self.items is (search rules)
