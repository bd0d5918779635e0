use Rattle.std.proofs.Common.{length, get_or, ◌∙◌, ap}
use Rattle.qs_graph.specs.working.Orders.{IsOutside}
use Rattle.qs_graph.proofs.Numbers.{zeros_outside, only_is}
use Rattle.qs_graph.proofs.ends.only_node_without.Goals as goal

pub returns : goal.returns
returns c =
    let same = c.deref.ensures.value in
    let outside = zeros_outside c.args.nodes c.args.ends.now c.deref.result.now c.in_ok-numbers.numbers.items (ap length same ∙ c.in_ok-counts.ensures.len)
    (λ n. ap (λ ns. get_or ns n 0) same ∙ c.in_ok-counts.ensures.counts n) c.in_ok-numbers.ensures.are in
    only_is (IsOutside c.args.nodes c.args.ends.now) c.in_ok-numbers.numbers.items c.deref-2.result.now c.deref-2.ensures.value c.in_ok-numbers.ensures.apart outside c.only.result c.only.ensures.some c.only.ensures.none
