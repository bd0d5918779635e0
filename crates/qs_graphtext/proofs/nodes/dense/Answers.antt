use Rattle.std.proofs.Common.{rules}
use Rattle.std.specs.Prelude.{nat_le}
use Rattle.std.proofs.lemmas.List.Sorted.{IsPartitionPoint-from_clause, IsPartitionedBy-leb}
use Rattle.qs_graphtext.proofs.Numbering.{non_decreasing, count_from_point}
use Rattle.qs_graphtext.proofs.nodes.dense.Goals as goal

pub returns : goal.returns
returns c =
    count_from_point (λ m. nat_le m c.args.written) c.args.nodes.now c.partition_point.result c.partition_point.ensures.bound
    (IsPartitionPoint-from_clause (λ m. nat_le m c.args.written) c.args.nodes.now c.partition_point.result c.partition_point.ensures.partitioned
    (IsPartitionedBy-leb (λ m. m) c.args.nodes.now c.args.written (non_decreasing c.args.nodes.now c.requires.rises))
    (λ a r k s. search rules))
