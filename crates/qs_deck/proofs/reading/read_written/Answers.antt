use Rattle.std.proofs.Common.{ap, ◌∙◌, subst}
use Rattle.qs_lex.specs.Grammar.{part}
use Rattle.qs_deck.specs.Grammar.{deck}
use Rattle.qs_reader.proofs.Steps.{hands_on}
use Rattle.qs_reader.specs.Readers.{Reading}
use Rattle.qs_deck.specs.working.Versions.{IsReadAs, EndsAt}
use Rattle.qs_deck.proofs.VersionSteps.{ends_behind_line, ends_behind_form, deck_read}
use Rattle.qs_deck.proofs.Steps.{shallow_on}
use Rattle.qs_deck.proofs.reading.read_written.Goals as goal

pub deck-requires-clause-shallow : goal.deck-requires-clause-shallow
deck-requires-clause-shallow c = shallow_on (c.in_ok-version.ensures.passes.goes_on.tokens ∙ ap (λ r. r.tokens) c.new-reader.ensures) c.requires.shallow

pub returns-in_err-version-clause-ends : goal.returns-in_err-version-clause-ends
returns-in_err-version-clause-ends c =
    hands_on c.from_residual.result (EndsAt c.args.text.now c.args.tokens.now) c.from_residual.ensures.1
    (subst (λ (r : Reading). EndsAt r.text r.tokens c.in_err-version.field-0.0) c.new-reader.ensures (c.in_err-version.ensures.ends (part deck)))

pub returns-in_err-deck-clause-ends : goal.returns-in_err-deck-clause-ends
returns-in_err-deck-clause-ends c =
    hands_on c.from_residual-in_err-deck.result (EndsAt c.args.text.now c.args.tokens.now) c.from_residual-in_err-deck.ensures.1
    (subst (λ (r : Reading). EndsAt r.text r.tokens c.in_err-deck.field-0.0) c.new-reader.ensures
    (ends_behind_line (part deck) tt (ap (λ r. r.place) c.new-reader.ensures) c.in_ok-version.ensures.passes c.in_err-deck.ensures.ends))

pub returns-in-Some-clause-ends : goal.returns-in-Some-clause-ends
returns-in-Some-clause-ends c =
    subst (λ (r : Reading). EndsAt r.text r.tokens c.fault.result) c.new-reader.ensures
    (ends_behind_form (part deck) tt (ap (λ r. r.place) c.new-reader.ensures) c.in_ok-version.ensures.passes c.in_ok-deck.ensures.read c.in-Some.ensures.some c.fault.ensures.place)

pub returns-clause-read : goal.returns-clause-read
returns-clause-read c =
    subst (λ (r : Reading). IsReadAs r.text r.tokens c.in_ok-version.version c.in_ok-deck.deck c.args.names.now c.deck.new.names) c.new-reader.ensures
    (deck_read (ap (λ r. r.place) c.new-reader.ensures) c.in_ok-version.ensures.passes c.in_ok-deck.ensures.read c.in_default.ensures.none)
