use Rattle.std.proofs.Common.{refl, inl, inr, subst, Some}
use Rattle.qs_core.specs.declared.answers.End.{End}
use Rattle.qs_core.specs.Answers.{IsEnd}
use Rattle.qs_worker.proofs.Saturating.{saturated}
use Rattle.qs_worker.proofs.several.unless_halted.Goals as goal

pub returns-in-Some-Closed : goal.returns-in-Some-Closed
returns-in-Some-Closed c =
    let M = c.args.state.machine in
    let closed = subst (λ (e : End). IsEnd M.state (Some e)) c.in-Some-Closed.field-0-is c.in-Some-Closed.ensures in
    saturated M.base.rules M.base.start M.base.limit M.base.seats M refl c.rules-accepted.ensures.accepted c.entry-valid.ensures.valid c.journal-replayed.ensures.replayed (inl closed)

pub returns-in-Some-Over : goal.returns-in-Some-Over
returns-in-Some-Over c =
    let M = c.args.state.machine in
    let over = subst (λ (e : End). IsEnd M.state (Some e)) c.in-Some-Over.field-0-is c.in-Some-Over.ensures in
    saturated M.base.rules M.base.start M.base.limit M.base.seats M refl c.rules-accepted.ensures.accepted c.entry-valid.ensures.valid c.journal-replayed.ensures.replayed (inr over)
