use Rattle.std.proofs.Common.{subst}
use Rattle.qs_tree.specs.Lists.{◌∈◌}
use Rattle.qs_deck.proofs.writing.append_deck.Goals as goal

pub append_systems-requires : goal.append_systems-requires
append_systems-requires c = λ system i. c.args.deck.now.systems_named system (subst (λ systems. system ∈ systems) c.deref.ensures.value i)
