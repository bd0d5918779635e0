use Rattle.qs_deck.specs.GrammarLists.{EndsForGrammars}
use Rattle.qs_reader.proofs.Steps.{hands_on}
use Rattle.qs_deck.proofs.Meanings.{tokens_end_of_list}
use Rattle.qs_deck.proofs.grammar_lists.systems_of_text.Goals as goal

pub returns-in_err-tokens-clause-end : goal.returns-in_err-tokens-clause-end
returns-in_err-tokens-clause-end c =
    hands_on c.from_residual.result (EndsForGrammars c.args.text.now) c.from_residual.ensures.1
    (tokens_end_of_list c.args.text.now c.requires.utf8 c.in_err-tokens.field-0.0 c.in_err-tokens.ensures.end)
