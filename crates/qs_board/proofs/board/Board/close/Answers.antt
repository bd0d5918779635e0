use Rattle.std.proofs.Common.{◌<◌, ℕ, List, length, ap, ◌∙◌, sym, subst, rules, slice_index_or}
use Rattle.qs_turn.specs.History.{ContinuedByOthers}
use Rattle.qs_turn.specs.Passes.{number_of, seen_of, base_of}
use Rattle.qs_board.specs.declared.entry.Entry.{Entry}
use Rattle.qs_board.specs.History.{kept_base, kept_history, entry_seat}
use Rattle.qs_board.proofs.Turns.{one_of, ended_by}
use Rattle.qs_board.proofs.board.Board.close.Goals as goal

pub returns-clause-base : goal.returns-clause-base
returns-clause-base c =
    let some : 0 < length c.args.passes.items = search rules in
    ap kept_base (c.into_inner-state.ensures ∙ c.state.view_is) ∙ one_of (base_of kept_base) c.args.passes.items _ _ (λ k d l. (c.requires.own k d l).2) c.close.ensures.base some

pub returns-clause-history : goal.returns-clause-history
returns-clause-history c k d l = let p = slice_index_or c.args.passes.items k d in
    subst (λ (z : ℕ × List Entry). ContinuedByOthers entry_seat z.0 (number_of p) (seen_of p) z.1) (λ i. (c.args.self.seats i, kept_history (sym (c.into_inner-state.ensures ∙ c.state.view_is) i))) (c.close.ensures.history k d l)

pub returns-clause-ended : goal.returns-clause-ended
returns-clause-ended c =
    ended_by c.args.self c.args.passes.items c.into_inner-state.result.machine (returns-clause-base c) c.journal-replayed.ensures.replayed (returns-clause-history c)
