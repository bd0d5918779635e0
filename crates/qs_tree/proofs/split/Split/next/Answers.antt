use Rattle.std.proofs.Common.{arith}
use Rattle.qs_tree.proofs.Places.{next_place}
use Rattle.qs_tree.proofs.split.Split.next.Goals as goal

pub overflow_add-result : goal.overflow_add-result
overflow_add-result c = let within = (next_place c.args.self _ c.in_ok-first.ensures.value).within in omega arith

pub invariant_of-result : goal.invariant_of-result
invariant_of-result c =
    let next = next_place c.args.self _ c.in_ok-first.ensures.value in
    record { within = next.within; front_trees = next.front_trees; trees_behind = next.trees_behind }

pub returns-clause-some : goal.returns-clause-some
returns-clause-some c = (next_place c.args.self _ c.in_ok-first.ensures.value).passes
