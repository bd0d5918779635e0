use Rattle.std.proofs.Common.{◌∷◌, [], ap, ◌∙◌, sym}
use Rattle.qs_tree.proofs.Under.{alone}
use Rattle.qs_tree.proofs.owned.Forest.into_tree.Goals as goal

pub invariant_of-result : goal.invariant_of-result
invariant_of-result c = (alone _ c.requires.0 c.self.invariant (c.self.view_is ∙ c.requires.1)).cells

pub returns : goal.returns
returns c =
    ap (λ t. t ∷ []) (alone _ c.requires.0 c.self.invariant (c.self.view_is ∙ c.requires.1)).is ∙ sym c.requires.1
