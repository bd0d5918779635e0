use Rattle.std.proofs.Common.{◌≡◌, Some, option_map, sym, ◌∙◌, ap}
use Rattle.std.specs.Option.{option_copied}
use Rattle.qs_pattern.specs.Conditions.{condition_of}
use Rattle.qs_pattern.proofs.Covering.{given_covered}
use Rattle.qs_firing.proofs.deciding.is_allowed.Goals as goal

pub holds-requires : goal.holds-requires
holds-requires c =
    let rule = c.args.rule.now in
    let given : rule.condition ≡ Some (condition_of c.in-Some.condition.now) = sym c.cond.ensures.value ∙ ap (λ o. option_map condition_of (option_copied o)) c.in-Some.is in
    given_covered rule c.cond.ensures.accepted c.requires.0 c.args.subst.now c.requires.1 (condition_of c.in-Some.condition.now) given
