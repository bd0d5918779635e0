use Rattle.std.proofs.Common.{rules, ◌==◌, ◌∙◌, ◌+◌, ap}
use Rattle.std.specs.Prelude.{count_by}
use Rattle.qs_turn.specs.Passes.{passes_of, number_of, seen_of}
use Rattle.qs_edge_tests.proofs.Counting.{entries_by_others, one_more_entry}
use Rattle.qs_edge_tests.proofs.turn_tests.add_number.Goals as goal

pub returns-then-is_ok-clause-count : goal.returns-then-is_ok-clause-count
returns-then-is_ok-clause-count g c =
    let k = number_of c.args.pass.now in
    let passes = passes_of c.args.turns.now in
    let more = one_more_entry (λ e. e) passes k (seen_of c.enter-held.new.pass) c.number-number.result c.number-number.ensures in
    let same = entries_by_others (λ e. e) passes k _ _ c.enter-held.ensures.others in
    ap (count_by (λ e. e == k)) c.leave.ensures.seen ∙ (more ∙ ap (λ n. n + 1) same)

pub returns-else-is_ok-clause-count : goal.returns-else-is_ok-clause-count
returns-else-is_ok-clause-count g c =
    let k = number_of c.args.pass.now in
    let same = entries_by_others (λ e. e) (passes_of c.args.turns.now) k _ _ c.enter-held.ensures.others in
    search (rules, ap (count_by (λ e. e == k)) c.leave-else-is_ok.ensures.seen ∙ same)
