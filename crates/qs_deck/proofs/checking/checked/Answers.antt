use Rattle.std.proofs.Common.{◌≡◌, refl, sym, ◌∙◌, ap, inl, subst, Some}
use Rattle.std.specs.Prelude.{slice_get}
use Rattle.std.proofs.lemmas.Option.{slice_get-get_or}
use Rattle.qs_deck.specs.Limits.{most_systems}
use Rattle.qs_deck.specs.WrittenDecks.{WrittenSystem}
use Rattle.qs_deck.proofs.checking.checked.Goals as goal

pub returns-in-Some-clause-refused : goal.returns-in-Some-clause-refused
returns-in-Some-clause-refused c =
    let e = c.in-Some.ensures.lookup in
    let found = slice_get-get_or c.deref.result.now most_systems c.in-Some.system.now e.3.0 ∙ ap Some (sym e.1) in
    inl (c.in-Some.system.now, subst (λ xs. slice_get xs most_systems ≡ Some c.in-Some.system.now) c.deref.ensures.value found, refl, ap (λ (s : WrittenSystem). s.at) c.system.view_is)
