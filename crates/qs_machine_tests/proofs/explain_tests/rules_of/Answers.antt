use Rattle.std.proofs.Common.{◌≡◌, Some, slice_get, sym, ◌∙◌, ap, subst}
use Rattle.qs_tree.specs.Lists.{◌∈◌}
use Rattle.qs_tree.proofs.Members.{in_at}
use Rattle.qs_machine_tests.proofs.explain_tests.rules_of.Goals as goal

pub returns-in-Some : goal.returns-in-Some
returns-in-Some c = λ rule i.
    let is : slice_get c.args.deck.now.systems.items 0 ≡ Some c.in-Some.system.now = ap (λ ss. slice_get ss 0) (sym c.deref.ensures.value) ∙ sym c.in-Some.ensures.value in
    let named = c.args.deck.now.systems_named c.in-Some.system.now (in_at c.args.deck.now.systems.items 0 c.in-Some.system.now is) in
    (named.rules rule (subst (λ rs. rule ∈ rs) c.deref-in-Some.ensures.value i)).right
