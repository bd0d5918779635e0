use Rattle.std.proofs.Common.{◌≡◌, ◌==◌, ◌+◌, ◌≤◌}
use Rattle.std.specs.Prelude.{count_by}
use Rattle.qs_turn.specs.Passes.{IsPassOf, HoldsNoTurn, number_of, seen_of}
use Rattle.qs_edge_tests.proofs.turn_tests.add_thousand.Given as goal

abbrev pub invariant-loop : goal.invariant-loop
invariant-loop g l =
    (IsPassOf l.turns l.pass × HoldsNoTurn l.pass)
    × (number_of l.pass ≡ number_of l.initial.pass)
    × (count_by (λ e. e == number_of l.initial.pass) (seen_of l.pass) ≡ count_by (λ e. e == number_of l.initial.pass) (seen_of l.initial.pass) + l.added)
    × (l.added ≤ l.counter)
