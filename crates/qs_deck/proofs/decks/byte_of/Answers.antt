use Rattle.std.proofs.Common.{sym, ap, ◌∙◌, Some}
use Rattle.std.proofs.lemmas.Option.{slice_get-get_or, slice_get_past}
use Rattle.qs_tree.proofs.Members.{in_at}
use Rattle.qs_deck.specs.Refusals.{start_of}
use Rattle.qs_deck.proofs.Borders.{span_border}
use Rattle.qs_deck.proofs.decks.byte_of.Goals as goal

pub returns-in-Some-clause-border : goal.returns-in-Some-clause-border
returns-in-Some-clause-border c =
    let e = c.in-Some.ensures.lookup in
    span_border c.args.text.now 0 c.args.tokens.now c.in-Some.token.now c.requires.spans
    (in_at c.args.tokens.now c.args.index c.in-Some.token.now (slice_get-get_or c.args.tokens.now c.args.index c.in-Some.token.now e.3.0 ∙ ap Some (sym e.1)))

pub returns-in-Some-clause-value : goal.returns-in-Some-clause-value
returns-in-Some-clause-value c =
    let e = c.in-Some.ensures.lookup in
    sym (ap (start_of c.args.text.now) (slice_get-get_or c.args.tokens.now c.args.index c.in-Some.token.now e.3.0 ∙ ap Some (sym e.1)))

pub returns-in-None-clause-value : goal.returns-in-None-clause-value
returns-in-None-clause-value c = sym (ap (start_of c.args.text.now) (slice_get_past c.args.tokens.now c.args.index c.in-None.ensures.lookup.3))
