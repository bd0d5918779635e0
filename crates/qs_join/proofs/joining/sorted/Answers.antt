use Rattle.std.proofs.Common.{rules}
use Rattle.std.proofs.lemmas.List.MinMax.{ranks_by}
use Rattle.std.proofs.lemmas.List.Sorted.{answers_always}
use Rattle.qs_firing.specs.Firings.{Firing}
use Rattle.qs_firing.proofs.Orders.{order_total}
use Rattle.qs_join.proofs.Sorting.{is_before, from_sorted, same_members}
use Rattle.qs_join.proofs.joining.sorted.Goals as goal

pub returns-clause-rises : goal.returns-clause-rises
returns-clause-rises c =
    from_sorted _ (c.in_ok-sort_by.ensures.sorted is_before (ranks_by order_total (λ (f : Firing). f)) (answers_always _ _ _ (λ f a r g k. search rules)))

pub returns-clause-members : goal.returns-clause-members
returns-clause-members c = same_members _ _ c.in_ok-sort_by.ensures.permutation
