use Rattle.std.proofs.Common.{rules}
use Rattle.std.proofs.lemmas.List.MinMax.{ranks_by}
use Rattle.std.proofs.lemmas.List.Sorted.{answers_always}
use Rattle.qs_firing.proofs.Orders.{order_total}
use Rattle.qs_canon.specs.declared.numbers.Next.{Next}
use Rattle.qs_canon.proofs.CanonNumbers.{is_before, from_sorted}
use Rattle.qs_canon.proofs.numbers.sorted.Goals as goal

pub returns-clause-rises : goal.returns-clause-rises
returns-clause-rises c =
    from_sorted _ (c.in_ok-sort_by.ensures.sorted is_before (ranks_by order_total (λ (n : Next). n.firing)) (answers_always _ _ _ (λ f a r g k. search rules)))
