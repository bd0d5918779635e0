use Rattle.std.proofs.Common.{◌∙◌, ap, sym, slice_get}
use Rattle.qs_tree.proofs.Decisions.{true_false}
use Rattle.qs_core.specs.Runs.{MachineWithRoom}
use Rattle.qs_core.proofs.Machines.{answers_closed, answers_not_yet}
use Rattle.qs_core.proofs.state.State.rest_at_end.Goals.{then-all_done, else-all_done}
use Rattle.qs_core.proofs.state.State.rest_at_end.Goals as goal

pub returns : goal.returns
returns c =
    let M = c.args.self.now.machine in
    let N = c.rest_if_claimed.new.self.machine in
    let list = ap (λ (x : MachineWithRoom). x.machine.state.status) c.self.view_is in
    elim c.if-all_done.branch [
      | then-all_done w ↦ rw w.result-is (answers_closed M c.args.seat c.requires.going c.requires.none_waits N c.rest_if_claimed.result c.rest_if_claimed.ensures.had c.rest_if_claimed.ensures.step
          (λ m s e. c.all_done.ensures.0 w.if-all_done.true m s (ap (λ xs. slice_get xs m) list ∙ e)))
      | else-all_done w ↦ rw w.result-is (answers_not_yet M c.args.seat c.requires.going c.requires.none_waits N c.rest_if_claimed.result c.rest_if_claimed.ensures.had c.rest_if_claimed.ensures.step
          (λ all. true_false w.if-all_done.false (c.all_done.ensures.1 (λ m s e. all m s (ap (λ xs. slice_get xs m) (sym list) ∙ e)))))
    ]
