use Rattle.std.proofs.Common.{◌≡◌, ◌++◌, length}
use Rattle.qs_tree.specs.Cells.{trees_of}
use Rattle.qs_tree.specs.Splits.{front_of, behind_of}
use Rattle.qs_match.proofs.counts.split_behind.Given as goal

abbrev pub invariant-loop : goal.invariant-loop
invariant-loop l =
    record {
      joins : front_of l.split ++ behind_of l.split ≡ trees_of l.fn.trees.cells.now;
      long : length (front_of l.split) ≡ l.counter;
    }
