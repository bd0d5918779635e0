use Rattle.std.proofs.Common.{ap, sym, subst, List, Some}
use Rattle.qs_core.specs.declared.step.Status.{Status}
use Rattle.qs_core.specs.Machines.{StatusTable}
use Rattle.qs_core.specs.working.Tables.{IsClaimOf}
use Rattle.qs_core.proofs.Tables.{with_published}
use Rattle.qs_core.proofs.statuses.Statuses.publish.Goals as goal

pub invariant_of-self : goal.invariant_of-self
invariant_of-self c =
    let list = sym (ap (λ (x : StatusTable). x.list) c.self.view_is) in
    with_published c.self.invariant c.args.seat c.args.arc c.args.published (subst (λ (xs : List Status). IsClaimOf xs c.args.seat (Some c.args.arc)) list c.requires)
