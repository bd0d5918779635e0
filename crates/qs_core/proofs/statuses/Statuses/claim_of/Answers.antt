use Rattle.std.proofs.Common.{ap, sym, subst, List, arith}
use Rattle.qs_tree.proofs.Members.{at_place}
use Rattle.qs_core.specs.declared.step.Status.{Status}
use Rattle.qs_core.specs.Machines.{StatusTable}
use Rattle.qs_core.specs.working.Tables.{IsClaimOf}
use Rattle.qs_core.proofs.Tables.{claim_read}
use Rattle.qs_core.proofs.statuses.Statuses.claim_of.Goals as goal

pub returns : goal.returns
returns c =
    let list = sym (ap (λ (x : StatusTable). x.list) c.self.view_is) in
    let seats = ap (λ (x : StatusTable). x.seats) c.self.view_is in
    subst (λ (xs : List Status). IsClaimOf xs c.args.seat c.index.result.now) (sym list)
    (claim_read c.self.invariant c.args.seat c.index.result.now (at_place c.self.inside.claims.items c.args.seat c.index.result.now (omega (arith, c.requires, seats)) c.index.ensures))
