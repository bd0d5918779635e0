use Rattle.std.proofs.Common.{List, subst}
use Rattle.qs_pattern.specs.Rules.{Rule}
use Rattle.qs_firing.specs.Work.{IsRightFor}
use Rattle.qs_core.specs.Core.{Base}
use Rattle.qs_worker.specs.working.Turns.{IsBetween}
use Rattle.qs_worker.proofs.Turns.{between_opened}
use Rattle.qs_worker.proofs.Saturating.{newest, starts_work, still_accepted, smaller, goes_on, ends_over, ends_closed}
use Rattle.qs_worker.proofs.alone.run_alone.Goals as goal

pub arcs-init : goal.arcs-init
arcs-init c =
    let opened_with : List Rule → Base = λ R. record { rules = R; start = c.args.start.now; limit = c.args.limit; seats = 1 } in
    subst (λ (R : List Rule). IsBetween (opened_with R) c.in_ok-state.state.machine) c.in_ok-shared_rules.ensures.0
    (between_opened (opened_with _) c.in_ok-state.state.machine c.in_ok-state.ensures)

pub joined_by-requires-clause-newest : goal.joined_by-requires-clause-newest
joined_by-requires-clause-newest c =
    newest c.args.grammar.now c.args.start.now c.args.limit c.arcs.state.machine c.claim_next.new.state.machine c.in_ok-arc.field-0 c.in-Some.arc c.in-Some.is c.arcs.invariant c.in_ok-arc.ensures c.view.result.now c.view.ensures

pub publish_all-requires-clause-claimed : goal.publish_all-requires-clause-claimed
publish_all-requires-clause-claimed c =
    starts_work c.args.grammar.now c.args.start.now c.args.limit c.arcs.state.machine c.claim_next.new.state.machine c.in_ok-arc.field-0 c.in-Some.arc c.in-Some.is c.arcs.invariant c.in_ok-arc.ensures c.view.result.now
    c.in_ok-work.work c.view.ensures c.in_ok-work.ensures.arc (subst (λ (R : List Rule). IsRightFor R c.view.result.now c.in_ok-work.work) c.rules-rules.ensures.value c.in_ok-work.ensures.right)

pub publish_all-requires-clause-accepted : goal.publish_all-requires-clause-accepted
publish_all-requires-clause-accepted c =
    still_accepted c.args.grammar.now c.args.start.now c.args.limit c.arcs.state.machine c.claim_next.new.state.machine c.in_ok-arc.field-0 c.in-Some.arc c.in-Some.is c.arcs.invariant c.in_ok-arc.ensures
    c.heads-heads.ensures.accepted

pub returns-then-not-branch : goal.returns-then-not-branch
returns-then-not-branch c =
    ends_over c.args.grammar.now c.args.start.now c.args.limit c.arcs.state.machine c.claim_next.new.state.machine c.in_ok-arc.field-0 c.in-Some.arc c.in-Some.is c.arcs.invariant c.in_ok-arc.ensures
    c.publish_all.new.state.machine c.in_ok-publish_all.field-0 c.in_ok-publish_all.ensures c.if-not-branch.true c.heads-heads.ensures.accepted c.edges-valid.ensures.valid

pub arcs-smaller : goal.arcs-smaller
arcs-smaller c =
    smaller c.args.grammar.now c.args.start.now c.args.limit c.arcs.state.machine c.claim_next.new.state.machine c.in_ok-arc.field-0 c.in-Some.arc c.in-Some.is c.arcs.invariant c.in_ok-arc.ensures
    c.publish_all.new.state.machine c.in_ok-publish_all.field-0 c.in_ok-publish_all.ensures

pub arcs-preserved : goal.arcs-preserved
arcs-preserved c =
    goes_on c.args.grammar.now c.args.start.now c.args.limit c.arcs.state.machine c.claim_next.new.state.machine c.in_ok-arc.field-0 c.in-Some.arc c.in-Some.is c.arcs.invariant c.in_ok-arc.ensures
    c.publish_all.new.state.machine c.in_ok-publish_all.field-0 c.in_ok-publish_all.ensures c.if-not-branch.false

pub returns : goal.returns
returns c =
    ends_closed c.args.grammar.now c.args.start.now c.args.limit c.arcs.state.machine c.claim_next.new.state.machine c.in_ok-arc.field-0 c.in_default.is c.arcs.invariant c.in_ok-arc.ensures c.heads-heads.ensures.accepted
    c.edges-valid.ensures.valid
