use Rattle.std.proofs.Common.{◌<◌, ◌∙◌, ap, sym, rules, arith, slice_index_or, Some}
use Rattle.qs_core.specs.Runs.{Machine, MachineWithRoom}
use Rattle.qs_board.specs.History.{kept_base, history_of}
use Rattle.qs_board.proofs.Turns.{get_some}
use Rattle.qs_board.proofs.board.Board.open_shared.Goals as goal

pub returns-clause-own : goal.returns-clause-own
returns-clause-own c k d in_it =
    let items = c.in_ok-turns.passes.items in
    let new = c.in_ok-turns.ensures.each k (slice_index_or items k d) (get_some items k d in_it) in
    let below : k < c.args.workers = search rules in
    let machine = ap (λ (m : MachineWithRoom). m.machine) c.in_ok-new.ensures.ok ∙ c.in_ok-state.ensures in
    let seats = ap (λ (m : MachineWithRoom). (kept_base m).seats) c.in_ok-turns.ensures.opened ∙ ap (λ (m : Machine). m.base.seats) machine in (
      (new.own, new.idle, new.base_known ∙ ap (λ (m : MachineWithRoom). Some (kept_base m)) (sym c.in_ok-turns.ensures.opened), (let number = new.number in omega (arith, below, number, seats))),
      new.seen ∙ ap history_of machine,
      new.turns,
    )

pub returns-clause-numbers : goal.returns-clause-numbers
returns-clause-numbers c = λ i p at. (c.in_ok-turns.ensures.each i p at).number
