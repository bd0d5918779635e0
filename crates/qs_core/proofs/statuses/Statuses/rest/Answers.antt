use Rattle.std.proofs.Common.{◌∙◌, refl, ap, sym, subst, List, Some, None, slice_get, arith}
use Rattle.qs_tree.proofs.Members.{at_place}
use Rattle.qs_core.specs.declared.step.Status.{Status}
use Rattle.qs_core.specs.Machines.{StatusTable}
use Rattle.qs_core.specs.working.Tables.{IsClaimOf}
use Rattle.qs_core.proofs.Tables.{claim_read, claimed_low, claimed_left, read_at, rested, with_done, none_rests}
use Rattle.qs_core.proofs.statuses.Statuses.rest.Goals.{In_default}
use Rattle.qs_core.proofs.statuses.Statuses.rest.Goals as goal

-- the seat has no claim
none : (c : In_default) → IsClaimOf c.args.self.now.list c.args.seat None
none c =
    let list = sym (ap (λ (x : StatusTable). x.list) c.self.view_is) in
    let seats = ap (λ (x : StatusTable). x.seats) c.self.view_is in
    let at = at_place c.self.inside.claims.items c.args.seat c.index.result.now (omega (arith, c.requires, seats)) c.index.ensures in
    subst (λ (xs : List Status). IsClaimOf xs c.args.seat None) (sym list) (claim_read c.self.invariant c.args.seat None (at ∙ ap Some c.in_default.is))

pub returns-in_default-clause-list : goal.returns-in_default-clause-list
returns-in_default-clause-list c =
    let same = none_rests c.args.seat c.args.self.now.list (none c) in
    λ j. record { list = sym same j; seats = c.args.self.now.seats }

pub returns-in_default-clause-had : goal.returns-in_default-clause-had
returns-in_default-clause-had c = ((λ e. absurd cc), λ (m, k, e). absurd (none c m k e))

pub index_mut-requires : goal.index_mut-requires
index_mut-requires c = omega (
  arith,
  claimed_low c.self.invariant c.args.seat c.in-Some.arc (read_at c.self.invariant c.args.self.now c.self.view_is c.args.seat c.index.result.now c.requires c.index.ensures ∙ ap Some c.in-Some.is),
  c.self.inside.list.ok.0,
)

pub overflow_sub-self : goal.overflow_sub-self
overflow_sub-self c = claimed_left c.self.invariant c.args.seat c.in-Some.arc (read_at c.self.invariant c.args.self.now c.self.view_is c.args.seat c.index.result.now c.requires c.index.ensures ∙ ap Some c.in-Some.is)

pub invariant_of-self : goal.invariant_of-self
invariant_of-self c = with_done c.self.invariant c.args.seat c.in-Some.arc (read_at c.self.invariant c.args.self.now c.self.view_is c.args.seat c.index.result.now c.requires c.index.ensures ∙ ap Some c.in-Some.is)

pub returns-clause-list : goal.returns-clause-list
returns-clause-list c = rested c.self.invariant c.args.self.now c.self.view_is c.args.seat c.in-Some.arc (read_at c.self.invariant c.args.self.now c.self.view_is c.args.seat c.index.result.now c.requires c.index.ensures ∙ ap Some c.in-Some.is)

pub returns-clause-had : goal.returns-clause-had
returns-clause-had c =
    let list = sym (ap (λ (x : StatusTable). x.list) c.self.view_is) in
    let (k, e) = claim_read c.self.invariant c.args.seat (Some c.in-Some.arc) (read_at c.self.invariant c.args.self.now c.self.view_is c.args.seat c.index.result.now c.requires c.index.ensures ∙ ap Some c.in-Some.is) in
    ((λ x. (c.in-Some.arc, k, ap (λ xs. slice_get xs c.in-Some.arc) list ∙ e)), λ x. refl)
