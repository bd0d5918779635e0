use Rattle.std.proofs.Common.{length, slice_get, sym, ◌∙◌, ap, arith}
use Rattle.qs_pattern.specs.Rules.{UnmarkedRule}
use Rattle.qs_ruletext.specs.WrittenRules.{WrittenRule}
use Rattle.qs_check.specs.Causes.{IsFirstCause}
use Rattle.qs_tree.proofs.Members.{at_place}
use Rattle.qs_check.proofs.Limits.{some_case, place_within}
use Rattle.qs_check.proofs.checking.check.Goals as goal

pub index-requires : goal.index-requires
index-requires c =
    let rule : UnmarkedRule = c.args.raw.rule in
    let first : IsFirstCause rule c.in-Some.cause c.in-Some.place = some_case _ _ _ _ c.in-Some.is c.in_ok-cause.ensures in
    omega (arith, place_within rule c.in-Some.cause c.in-Some.place first, c.requires.bytes, c.raw.inside.at.ok.0, ap (λ (w : WrittenRule). length w.at) c.raw.view_is)

pub returns-in-Some-clause-refused : goal.returns-in-Some-clause-refused
returns-in-Some-clause-refused c =
    let rule : UnmarkedRule = c.args.raw.rule in
    let first : IsFirstCause rule c.in-Some.cause c.in-Some.place = some_case _ _ _ _ c.in-Some.is c.in_ok-cause.ensures in
    let within = place_within rule c.in-Some.cause c.in-Some.place first in
    let long = ap (λ (w : WrittenRule). length w.at) c.raw.view_is in
    let here = at_place c.raw.inside.at.items c.in-Some.place c.index.result.now (omega (arith, within, c.requires.bytes, long)) c.index.ensures in
    (c.in-Some.place, first, ap (λ (w : WrittenRule). slice_get w.at c.in-Some.place) (sym c.raw.view_is) ∙ here)
