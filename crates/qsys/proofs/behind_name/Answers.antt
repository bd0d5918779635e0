-- What is collected is all that the iterator gives, behind the first of it.
use Rattle.std.proofs.Common.{◌∙◌, ap, rules}
use Rattle.std.specs.Vec.Iter.{into_iter_items, into_iter_len}
use Rattle.std.proofs.lemmas.Iterator.{items_from_collect}
use Rattle.std.proofs.lemmas.Iterator.Adapters.{YieldsList-from_vec, YieldsList-from_skip}
use Rattle.qsys.proofs.behind_name.Goals as goal

pub returns : goal.returns
returns c =
    let items = ap into_iter_items c.skip.ensures.source in
    let amount = ap into_iter_len c.skip.ensures.source ∙ search rules in
    items_from_collect c.collect.result c.collect.ensures.ran
    (YieldsList-from_skip 1 (YieldsList-from_vec (into_iter_items c.args.arguments) items amount) c.skip.ensures.count)
