use Rattle.std.proofs.Common.{ap, arith}
use Rattle.qs_tree.specs.Trees.{forest, size}
use Rattle.qs_tree.proofs.Under.{counted}
use Rattle.qs_tree.proofs.owned.Forest.nodes.Goals as goal

pub returns : goal.returns
returns c =
    omega (arith, c.len.ensures, counted _ c.self.invariant, ap (λ ts. size (forest ts)) c.self.view_is)
