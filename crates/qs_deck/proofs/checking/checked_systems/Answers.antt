use Rattle.std.proofs.Common.{map}
use Rattle.qs_graphtext.proofs.GraphsOfChains.{err_is}
use Rattle.qs_deck.specs.WrittenDecks.{rules_of}
use Rattle.qs_deck.specs.Decks.{grammar_of}
use Rattle.qs_deck.specs.working.Checked.{IsFirstRefused}
use Rattle.qs_deck.proofs.CheckSteps.{systems_first, systems_next, can_system, refused_system}
use Rattle.qs_deck.proofs.checking.checked_systems.Goals as goal

pub loop-system-init : goal.loop-system-init
loop-system-init c =
    systems_first c.args.systems.items c.new-checked.result.items c.into_iter-system-iterator.result.rest.items c.new-checked.ensures.items c.into_iter-system-iterator.ensures.into_iter_gives.0 c.requires.can c.requires.few

pub checked_system-requires-clause-can : goal.checked_system-requires-clause-can
checked_system-requires-clause-can c =
    (can_system c.args.systems.items (map grammar_of c.loop-system.checked.items) c.loop-system.system-iterator.rest.items c.next.new.self.rest.items c.in-Some.system c.in-Some.ensures.steps.0 c.loop-system.invariant).0

pub checked_system-requires-clause-few : goal.checked_system-requires-clause-few
checked_system-requires-clause-few c =
    (can_system c.args.systems.items (map grammar_of c.loop-system.checked.items) c.loop-system.system-iterator.rest.items c.next.new.self.rest.items c.in-Some.system c.in-Some.ensures.steps.0 c.loop-system.invariant).1

pub loop-system-preserved : goal.loop-system-preserved
loop-system-preserved c =
    systems_next c.args.systems.items c.loop-system.checked.items c.push.new.self.items c.loop-system.system-iterator.rest.items c.next.new.self.rest.items c.in-Some.system c.in_ok-next.next
    c.in-Some.ensures.steps.0 c.in_ok-next.ensures.system c.in_ok-next.ensures.accepted c.in_ok-push.ensures.items c.loop-system.invariant

pub returns-in_err-next-clause-refused : goal.returns-in_err-next-clause-refused
returns-in_err-next-clause-refused c =
    err_is (IsFirstRefused (rules_of c.args.systems.items)) c.in_err-next.field-0.0 c.from_residual.result c.from_residual.ensures.1
    (refused_system c.args.systems.items (map grammar_of c.loop-system.checked.items) c.loop-system.system-iterator.rest.items c.next.new.self.rest.items c.in-Some.system c.in_err-next.field-0.0 c.in-Some.ensures.steps.0 c.loop-system.invariant c.in_err-next.ensures.refused)
