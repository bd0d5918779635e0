use Rattle.std.proofs.Common.{◌∙◌, sym, ap, slice_get, eqb-true, eq-eqb}
use Rattle.qs_core.specs.Machines.{StatusTable}
use Rattle.qs_core.proofs.Tables.{none_undone, all_are_done}
use Rattle.qs_core.proofs.statuses.Statuses.all_done.Goals as goal

pub returns : goal.returns
returns c =
    let t = c.self.invariant in
    let list = sym (ap (λ (x : StatusTable). x.list) c.self.view_is) in (
      (λ zero m s e. none_undone c.self.inside.list.items (sym t.left_is ∙ eqb-true c.self.inside.left 0 zero) m s (ap (λ xs. slice_get xs m) (sym list) ∙ e)),
      λ all. eq-eqb c.self.inside.left 0 (t.left_is ∙ all_are_done c.self.inside.list.items (λ m s e. all m s (ap (λ xs. slice_get xs m) list ∙ e))),
    )
