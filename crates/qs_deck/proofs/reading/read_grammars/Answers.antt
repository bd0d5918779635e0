use Rattle.std.proofs.Common.{ap, ◌∙◌, subst, length, arith}
use Rattle.qs_reader.proofs.Steps.{hands_on}
use Rattle.qs_reader.specs.Readers.{Reading}
use Rattle.qs_deck.specs.Grammar.{grammars}
use Rattle.qs_deck.specs.working.Versions.{AreReadAs, EndsIn}
use Rattle.qs_deck.proofs.VersionSteps.{ends_behind_line, ends_behind_form, systems_read, few_read}
use Rattle.qs_deck.proofs.Tables.{grammars_good}
use Rattle.qs_deck.proofs.Steps.{shallow_on}
use Rattle.qs_deck.proofs.reading.read_grammars.Goals as goal

pub systems-requires-clause-shallow : goal.systems-requires-clause-shallow
systems-requires-clause-shallow c = shallow_on (c.in_ok-version.ensures.passes.goes_on.tokens ∙ ap (λ r. r.tokens) c.new-reader.ensures) c.requires.shallow

pub returns-in_err-version-clause-ends : goal.returns-in_err-version-clause-ends
returns-in_err-version-clause-ends c =
    hands_on c.from_residual.result (EndsIn grammars c.args.text.now c.args.tokens.now) c.from_residual.ensures.1
    (subst (λ (r : Reading). EndsIn grammars r.text r.tokens c.in_err-version.field-0.0) c.new-reader.ensures (c.in_err-version.ensures.ends grammars))

pub returns-in_err-systems-clause-ends : goal.returns-in_err-systems-clause-ends
returns-in_err-systems-clause-ends c =
    hands_on c.from_residual-in_err-systems.result (EndsIn grammars c.args.text.now c.args.tokens.now) c.from_residual-in_err-systems.ensures.1
    (subst (λ (r : Reading). EndsIn grammars r.text r.tokens c.in_err-systems.field-0.0) c.new-reader.ensures
    (ends_behind_line grammars grammars_good (ap (λ r. r.place) c.new-reader.ensures) c.in_ok-version.ensures.passes c.in_err-systems.ensures.ends))

pub returns-in-Some-clause-ends : goal.returns-in-Some-clause-ends
returns-in-Some-clause-ends c =
    subst (λ (r : Reading). EndsIn grammars r.text r.tokens c.fault.result) c.new-reader.ensures
    (ends_behind_form grammars grammars_good (ap (λ r. r.place) c.new-reader.ensures) c.in_ok-version.ensures.passes c.in_ok-systems.ensures.read c.in-Some.ensures.some c.fault.ensures.place)

pub returns-in-None-clause-read : goal.returns-in-None-clause-read
returns-in-None-clause-read c =
    subst (λ (r : Reading). AreReadAs r.text r.tokens c.in_ok-version.version c.in_ok-systems.systems.items c.args.names.now c.systems.new.names) c.new-reader.ensures
    (systems_read (ap (λ r. r.place) c.new-reader.ensures) c.in_ok-version.ensures.passes c.in_ok-systems.ensures.read c.in-None.ensures.none)

pub returns-in-None-clause-few : goal.returns-in-None-clause-few
returns-in-None-clause-few c =
    omega (arith, few_read c.in_ok-version.ensures.passes c.in_ok-systems.ensures.read, ap (λ (r : Reading). length r.tokens) c.new-reader.ensures)
