use Rattle.std.proofs.Common.{◌≡◌, ◌++◌, List}
use Rattle.qs_firing.specs.Firings.{Firing}
use Rattle.qs_join.specs.working.Sorting.{AreMade}
use Rattle.qs_join.proofs.joining.made_of.Given as goal

abbrev pub invariant-loop-firing : goal.invariant-loop-firing
invariant-loop-firing l = record {
  seen : List Firing;
  all : l.fn.firings.items ≡ seen ++ l.firing-iterator.rest.items;
  made : AreMade l.rules seen l.made.items;
}
