use Rattle.std.specs.String.{string_bytes}
use Rattle.qs_tree.proofs.NamesLemmas.{one_place}
use Rattle.qs_tree.proofs.names.Names.len.Goals as goal

pub returns-clause-distinct : goal.returns-clause-distinct
returns-clause-distinct c i j text at_i at_j =
    one_place string_bytes c.self.inside.texts.keys text i j c.self.invariant.1 (rw c.self.view_is at_i) (rw c.self.view_is at_j)
