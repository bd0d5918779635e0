use Rattle.std.proofs.Common.{ap, subst, arith}
use Rattle.qs_tree.specs.Lists.{◌∈◌}
use Rattle.qs_firing.specs.Firings.{Firing}
use Rattle.qs_canon.specs.Rounds.{Done}
use Rattle.qs_explain.proofs.marks.mark_firing.Goals as goal

pub mark_path-requires : goal.mark_path-requires
mark_path-requires c = λ k i. omega (arith, c.requires.path k (subst (λ (f : Firing). k ∈ f.path) (ap (λ (d : Done). d.firing) c.placed.view_is) i), c.mark_range.auto.marks)
