use Rattle.std.proofs.Common.{◌≡◌, ◌↔◌, ◌∙◌, IsTrue, List, subst}
use Rattle.qs_tree.specs.Trees.{Tree}
use Rattle.qs_pattern.proofs.holding.is_same.Goals as goal

pub returns : goal.returns
returns c =
    let P : List Tree × List Tree → Type 0 = λ l. IsTrue c.same_forest.result ↔ (l.0 ≡ l.1) in
    subst P (λ i. ((c.view.ensures ∙ c.in_ok-some.ensures) i, (c.view-2.ensures ∙ c.in_ok-list.ensures) i)) c.same_forest.ensures
