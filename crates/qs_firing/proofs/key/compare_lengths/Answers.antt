use Rattle.std.proofs.Common.{◌≡◌, refl, rules, tests}
use Rattle.std.specs.Ordering.{nat_cmp}
use Rattle.std.proofs.lemmas.Iterator.{YieldsList-from_slice}
use Rattle.std.proofs.lemmas.Iterator.Consumers.{YieldsList-from_filter_map}
use Rattle.std.proofs.lemmas.Iterator.Search.{cmp_from_yields_List}
use Rattle.qs_pattern.specs.Substitutions.{forest_length}
use Rattle.qs_firing.proofs.key.compare_lengths.Goals as goal

pub returns : goal.returns
returns c =
    cmp_from_yields_List (λ x y. y ≡ x) _ nat_cmp _ c.cmp.ensures.ran
    (YieldsList-from_filter_map _ forest_length (YieldsList-from_slice c.args.a.now cc) c.filter_map.ensures.closure (λ x r q k. search (rules, tests)))
    (λ it e. YieldsList-from_filter_map _ forest_length (YieldsList-from_slice c.args.b.now cc) refl (λ x r q k. search (rules, tests)))
    (λ x y. refl)
