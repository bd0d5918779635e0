-- How the logic tells stages and closures apart. Nothing that a reader has to believe stands here.
use Rattle.std.specs.Prelude.{ℕ, Bool, List, refl}
use Rattle.std.specs.Coded.{Coded, code_by, coded×, coded_list, coded_bool, coded_ℕ}
use Rattle.qs_graph.specs.Graphs.{QGraph}
use Rattle.qs_graph.specs.working.Codes.{graph_code}
use Rattle.qs_firing.specs.Firings.{Firing}
use Rattle.qs_firing.specs.working.Codes.{firing_code}
use Rattle.qs_canon.specs.Rounds.{Done, Stage}
use Rattle.qs_canon.specs.Closures.{ClosureOf}

abbrev pub done_code : Coded Done
done_code =
    code_by (Firing × (ℕ × (ℕ × Bool))) (coded× firing_code (coded× coded_ℕ (coded× coded_ℕ coded_bool)))
    (λ d. (d.firing, (d.first, (d.round, d.met))))
    (λ p. record { firing = p.0; first = p.1.0; round = p.1.1.0; met = p.1.1.1 }) (λ _. refl)

abbrev pub stage_code : Coded Stage
stage_code = code_by (QGraph × List Done) (coded× graph_code (coded_list done_code)) (λ s. (s.graph, s.done))
    (λ p. record { graph = p.0; done = p.1 }) (λ _. refl)

abbrev pub closure_code : Coded ClosureOf
closure_code =
    code_by (Stage × (ℕ × (ℕ × ℕ))) (coded× stage_code (coded× coded_ℕ (coded× coded_ℕ coded_ℕ)))
    (λ c. (c.stage, (c.entry, (c.exit, c.start))))
    (λ p. record { stage = p.0; entry = p.1.0; exit = p.1.1.0; start = p.1.1.1 }) (λ _. refl)
