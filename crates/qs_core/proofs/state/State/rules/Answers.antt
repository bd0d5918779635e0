use Rattle.std.proofs.Common.{subst}
use Rattle.qs_tree.specs.Lists.{◌∈◌}
use Rattle.qs_pattern.specs.Rules.{Rule, IsAccepted}
use Rattle.qs_core.specs.Runs.{MachineWithRoom}
use Rattle.qs_core.proofs.state.State.rules.Goals as goal

pub returns-clause-accepted : goal.returns-clause-accepted
returns-clause-accepted c = subst (λ (m : MachineWithRoom). (rule : Rule) → rule ∈ m.machine.base.rules → IsAccepted rule) c.self.view_is c.self.invariant.accepted
