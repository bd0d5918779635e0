-- How the logic tells machines apart. Nothing that a reader has to believe stands here.
use Rattle.std.specs.Prelude.{ℕ, Bool, List, Option, refl}
use Rattle.std.specs.Coded.{Coded, code_by, coded×, coded_list, coded_bool, coded_ℕ, coded_option}
use Rattle.qs_pattern.specs.Rules.{Rule}
use Rattle.qs_pattern.specs.working.Codes.{rule_code}
use Rattle.qs_graph.specs.Graphs.{QGraph}
use Rattle.qs_graph.specs.working.Codes.{graph_code}
use Rattle.qs_firing.specs.Firings.{Firing}
use Rattle.qs_firing.specs.working.Codes.{firing_code}
use Rattle.qs_core.specs.declared.step.Step.{Step}
use Rattle.qs_core.specs.declared.step.Stop.{Stop}
use Rattle.qs_core.specs.declared.step.Status.{Status}
use Rattle.qs_core.specs.contracts.step.Step as step
use Rattle.qs_core.specs.contracts.step.Stop as stop
use Rattle.qs_core.specs.contracts.step.Status as status
use Rattle.qs_core.specs.Core.{Base, Fired, CoreState}
use Rattle.qs_core.specs.Runs.{MachineWithRoom}
use Rattle.qs_core.specs.Machines.{StatusTable}

abbrev pub base_code : Coded Base
base_code =
    code_by (List Rule × (QGraph × (ℕ × ℕ)))
    (coded× (coded_list rule_code) (coded× graph_code (coded× coded_ℕ coded_ℕ)))
    (λ b. (b.rules, (b.start, (b.limit, b.seats))))
    (λ p. record { rules = p.0; start = p.1.0; limit = p.1.1.0; seats = p.1.1.1 }) (λ _. refl)

abbrev pub fired_code : Coded Fired
fired_code =
    code_by (Firing × (ℕ × Bool)) (coded× firing_code (coded× coded_ℕ coded_bool))
    (λ f. (f.firing, (f.first, f.met))) (λ p. record { firing = p.0; first = p.1.0; met = p.1.1 }) (λ _. refl)

abbrev pub core_code : Coded CoreState
core_code =
    code_by (QGraph × (List Fired × (List Status × Option Stop)))
    (coded× graph_code
    (coded× (coded_list fired_code) (coded× (coded_list status.the_row.coded) (coded_option stop.the_row.coded))))
    (λ s. (s.graph, (s.done, (s.status, s.stop))))
    (λ p. record { graph = p.0; done = p.1.0; status = p.1.1.0; stop = p.1.1.1 }) (λ _. refl)

abbrev pub machine_code : Coded MachineWithRoom
machine_code =
    code_by (Base × (List Step × (CoreState × ℕ)))
    (coded× base_code (coded× (coded_list step.the_row.coded) (coded× core_code coded_ℕ)))
    (λ m. (m.machine.base, (m.machine.journal, (m.machine.state, m.room))))
    (λ p. record { machine = record { base = p.0; journal = p.1.0; state = p.1.1.0 }; room = p.1.1.1 }) (λ _. refl)

abbrev pub table_code : Coded StatusTable
table_code =
    code_by (List Status × ℕ) (coded× (coded_list status.the_row.coded) coded_ℕ)
    (λ t. (t.list, t.seats)) (λ p. record { list = p.0; seats = p.1 }) (λ _. refl)
