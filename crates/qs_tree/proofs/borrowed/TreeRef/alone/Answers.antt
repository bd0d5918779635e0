use Rattle.std.proofs.Common.{[], refl}
use Rattle.qs_tree.proofs.Joined.{joined_tree}
use Rattle.qs_tree.proofs.borrowed.TreeRef.alone.Goals as goal

pub invariant_of-result : goal.invariant_of-result
invariant_of-result c = record { trees = (joined_tree [] c.args.self.cells.now refl c.args.self.one_tree).cells }

pub returns : goal.returns
returns c = (joined_tree [] c.args.self.cells.now refl c.args.self.one_tree).are
