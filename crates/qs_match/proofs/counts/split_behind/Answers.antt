use Rattle.std.proofs.Common.{refl, ap, length, ◌∙◌, ◌+◌, arith}
use Rattle.qs_tree.specs.Cells.{trees_of}
use Rattle.qs_tree.specs.Splits.{front_of, behind_of}
use Rattle.qs_match.proofs.Splits.{passes_joins, passes_length, whole_front}
use Rattle.qs_match.proofs.counts.split_behind.Goals as goal

pub returns-in_err-split-clause-none : goal.returns-in_err-split-clause-none
returns-in_err-split-clause-none c _ =
    let whole = whole_front (front_of c.loop.split) (behind_of c.loop.split) (trees_of c.args.trees.cells.now) c.loop.invariant.joins (c.in_err-split.ensures.none.0 refl) in
    omega (arith, ap length whole, c.loop.invariant.long, c.loop-test.true)

pub loop-preserved : goal.loop-preserved
loop-preserved c =
    record {
      joins = passes_joins (trees_of c.args.trees.cells.now) c.in_ok-split.ensures.some c.loop.invariant.joins;
      long = passes_length c.in_ok-split.ensures.some ∙ ap (λ k. k + 1) c.loop.invariant.long;
    }
