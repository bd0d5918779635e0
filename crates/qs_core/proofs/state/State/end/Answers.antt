use Rattle.std.proofs.Common.{◌∙◌, ap, sym, ⊎_elim, slice_get}
use Rattle.qs_tree.proofs.Decisions.{true_false}
use Rattle.qs_core.specs.Runs.{MachineWithRoom}
use Rattle.qs_core.proofs.state.State.end.Goals as goal

pub returns-in-None-2 : goal.returns-in-None-2
returns-in-None-2 c =
    let stop = sym (ap (λ (x : MachineWithRoom). x.machine.state.stop) c.self.view_is) in
    let list = ap (λ (x : MachineWithRoom). x.machine.state.status) c.self.view_is in
    λ ended. ⊎_elim
    (λ closed. true_false c.if-all_done.false (c.all_done.ensures.1 (λ m s e. closed.all m s (ap (λ xs. slice_get xs m) (sym list) ∙ e))))
    (λ stopped. stopped (stop ∙ c.in-None.is))
    ended
