use Rattle.std.proofs.Common.{◌↔◌, ◌∙◌, IsTrue, List, subst}
use Rattle.qs_tree.specs.Lists.{◌∈◌}
use Rattle.qs_tree.specs.Trees.{Tree}
use Rattle.qs_pattern.proofs.holding.is_outside.Goals as goal

pub returns : goal.returns
returns c =
    let P : List Tree × List Tree → Type 0 = λ l. IsTrue c.are_none_in.result ↔ ((t : Tree) → t ∈ l.0 → t ∈ l.1 → ⊥) in
    subst P (λ i. ((c.view.ensures ∙ c.in_ok-some.ensures) i, (c.view-2.ensures ∙ c.in_ok-list.ensures) i)) c.are_none_in.ensures
