use Rattle.qs_deck.specs.working.Answers.{IsEndOfGrammars}
use Rattle.qs_deck.proofs.Meanings as meaning
use Rattle.qs_reader.proofs.Steps.{hands_on}
use Rattle.qs_deck.proofs.grammar_lists.systems_of_tokens.Goals as goal

pub checked-requires-clause-can : goal.checked-requires-clause-can
checked-requires-clause-can c = meaning.list_can c.args.text.now c.in_ok-version.version c.in_ok-version.names c.in_ok-version.raws.items c.in_ok-version.ensures.written

pub checked-requires-clause-few : goal.checked-requires-clause-few
checked-requires-clause-few c = meaning.list_few c.args.text.now c.in_ok-version.version c.in_ok-version.names c.in_ok-version.raws.items c.in_ok-version.ensures.written c.requires.short

pub returns-in_err-version-clause-end : goal.returns-in_err-version-clause-end
returns-in_err-version-clause-end c =
    hands_on c.from_residual.result (IsEndOfGrammars c.args.text.now) c.from_residual.ensures.1
    (meaning.list_end c.args.text.now c.requires.utf8 c.in_err-version.field-0.0 c.in_err-version.ensures.end)

pub returns-in_err-systems-clause-end : goal.returns-in_err-systems-clause-end
returns-in_err-systems-clause-end c =
    hands_on c.from_residual-in_err-systems.result (IsEndOfGrammars c.args.text.now) c.from_residual-in_err-systems.ensures.1
    (meaning.list_end_of c.args.text.now c.in_ok-version.version c.in_ok-version.names c.in_ok-version.raws.items c.in_ok-version.ensures.written c.in_err-systems.field-0.0 c.in_err-systems.ensures.refused)

pub returns-clause-systems : goal.returns-clause-systems
returns-clause-systems c = record {
  written = c.in_ok-version.raws.items;
  are_written = c.in_ok-version.ensures.written;
  checked = record { few = c.in_ok-systems.ensures.few; accepted = c.in_ok-systems.ensures.accepted };
  grammars_are = c.in_ok-systems.ensures.systems;
}

pub returns-clause-named : goal.returns-clause-named
returns-clause-named c = meaning.list_named c.args.text.now c.in_ok-version.version c.in_ok-version.names c.in_ok-version.raws.items c.in_ok-version.ensures.written c.in_ok-systems.systems.items c.in_ok-systems.ensures.systems
