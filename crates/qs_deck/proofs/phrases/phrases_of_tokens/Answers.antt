use Rattle.std.proofs.Common.{map, length, sym, ◌∙◌, arith, ap}
use Rattle.qs_deck.specs.Decks.{grammar_of}
use Rattle.qs_deck.specs.PhraseTexts.{lines_behind, words_of, lines_with_words}
use Rattle.std.specs.List.{flat_map}
use Rattle.qs_deck.specs.working.Answers.{IsEndOfPhrases}
use Rattle.qs_reader.proofs.Steps.{hands_on}
use Rattle.qs_deck.proofs.BorderLines.{part_short}
use Rattle.qs_deck.proofs.Meanings as list
use Rattle.qs_deck.proofs.NamedWords.{words_longer, lines_named}
use Rattle.qs_deck.proofs.PhraseMeanings as meaning
use Rattle.qs_deck.proofs.StillNamed.{still_systems_named}
use Rattle.qs_deck.proofs.phrases.phrases_of_tokens.Goals as goal

pub returns-in_err-version-clause-end : goal.returns-in_err-version-clause-end
returns-in_err-version-clause-end c =
    hands_on c.from_residual.result (IsEndOfPhrases c.args.text.now) c.from_residual.ensures.1
    (meaning.list_end_of_phrases c.args.text.now c.args.part.now c.requires.utf8 c.requires.part c.in_err-version.field-0.0 c.in_err-version.ensures.end)

pub returns-in_default-clause-end : goal.returns-in_default-clause-end
returns-in_default-clause-end c =
    meaning.no_border_end c.args.text.now c.args.part.now c.in_ok-version.version c.in_ok-version.names c.in_ok-version.raws.items c.requires.utf8 c.requires.part c.in_ok-version.ensures.written
    c.args.border c.requires.border c.in_default.not-Some

pub checked-requires-clause-can : goal.checked-requires-clause-can
checked-requires-clause-can c = list.list_can c.args.part.now c.in_ok-version.version c.in_ok-version.names c.in_ok-version.raws.items c.in_ok-version.ensures.written

pub checked-requires-clause-few : goal.checked-requires-clause-few
checked-requires-clause-few c =
    list.list_few c.args.part.now c.in_ok-version.version c.in_ok-version.names c.in_ok-version.raws.items c.in_ok-version.ensures.written
    (omega (arith, ap length c.requires.part, part_short c.args.text.now, c.requires.short))

pub returns-in_err-systems-clause-end : goal.returns-in_err-systems-clause-end
returns-in_err-systems-clause-end c =
    hands_on c.from_residual-in_err-systems.result (IsEndOfPhrases c.args.text.now) c.from_residual-in_err-systems.ensures.1
    (meaning.check_end_of_phrases c.args.text.now c.args.part.now c.in_ok-version.version c.in_ok-version.names c.in_ok-version.raws.items c.requires.utf8 c.requires.part c.in_ok-version.ensures.written
    c.in-Some.at (sym c.requires.border ∙ c.in-Some.is) c.in_err-systems.field-0.0 c.in_err-systems.ensures.refused)

pub returns-in_err-lines-clause-end : goal.returns-in_err-lines-clause-end
returns-in_err-lines-clause-end c =
    let of =
    meaning.grammars_of_part c.args.text.now c.args.part.now c.in_ok-version.version c.in_ok-version.names c.in_ok-version.raws.items c.requires.utf8 c.requires.part c.in_ok-version.ensures.written
    c.in_ok-systems.systems.items c.in_ok-systems.ensures.few c.in_ok-systems.ensures.accepted c.in_ok-systems.ensures.systems
    in
    hands_on c.from_residual-in_err-lines.result (IsEndOfPhrases c.args.text.now) c.from_residual-in_err-lines.ensures.1
    (meaning.lines_end_of_phrases c.args.text.now c.in-Some.at c.in_ok-version.version c.in_ok-version.names (map grammar_of c.in_ok-systems.systems.items) c.requires.utf8 (sym c.requires.border ∙ c.in-Some.is) of
    c.in_err-lines.field-0.0 c.in_err-lines.ensures.end)

pub invariant_of-result : goal.invariant_of-result
invariant_of-result c =
    let reads = c.in_ok-lines.ensures.ok in
    record {
      systems_named =
          still_systems_named (length c.in_ok-version.names) (length c.read_lines.new.names) (words_longer (flat_map words_of (lines_behind c.args.text.now c.in-Some.at)) c.in_ok-version.names c.read_lines.new.names reads.adds) c.in_ok-systems.systems.items
          (list.list_named c.args.part.now c.in_ok-version.version c.in_ok-version.names c.in_ok-version.raws.items c.in_ok-version.ensures.written c.in_ok-systems.systems.items c.in_ok-systems.ensures.systems);
      lines_named = lines_named c.read_lines.new.names c.in_ok-lines.lines (lines_with_words (lines_behind c.args.text.now c.in-Some.at)) reads.lines_are;
    }

pub returns-clause-phrases : goal.returns-clause-phrases
returns-clause-phrases c =
    let reads = c.in_ok-lines.ensures.ok in
    record {
      utf8 = c.requires.utf8;
      border = c.in-Some.at;
      border_is = sym c.requires.border ∙ c.in-Some.is;
      grammar_names = c.in_ok-version.names;
      are_grammars = meaning.grammars_of_part c.args.text.now c.args.part.now c.in_ok-version.version c.in_ok-version.names c.in_ok-version.raws.items c.requires.utf8 c.requires.part c.in_ok-version.ensures.written
          c.in_ok-systems.systems.items c.in_ok-systems.ensures.few c.in_ok-systems.ensures.accepted c.in_ok-systems.ensures.systems;
      short = reads.short;
      names_are = reads.adds;
      lines_are = reads.lines_are;
    }
