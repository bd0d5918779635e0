use Rattle.std.proofs.Common.{◌∙◌, ap, sym, subst, List, None, slice_get, arith}
use Rattle.qs_core.specs.declared.step.Status.{Status}
use Rattle.qs_core.specs.Machines.{StatusTable}
use Rattle.qs_core.specs.working.Tables.{IsClaimOf}
use Rattle.qs_core.proofs.Tables.{with_claim}
use Rattle.qs_core.proofs.statuses.Statuses.claim.Goals as goal

pub invariant_of-self : goal.invariant_of-self
invariant_of-self c =
    let list = sym (ap (λ (x : StatusTable). x.list) c.self.view_is) in
    let seats = ap (λ (x : StatusTable). x.seats) c.self.view_is in
    with_claim c.self.invariant c.args.seat c.args.arc (omega (arith, c.requires.seat, seats))
    (ap (λ xs. slice_get xs c.args.arc) (sym list) ∙ c.requires.waits)
    (subst (λ (xs : List Status). IsClaimOf xs c.args.seat None) list c.requires.free)
