use Rattle.qs_deck.specs.PhraseTexts.{EndsForPhrases}
use Rattle.qs_reader.proofs.Steps.{hands_on}
use Rattle.qs_deck.proofs.PhraseMeanings.{tokens_end_of_phrases}
use Rattle.qs_deck.proofs.phrases.phrases_of_text.Goals as goal

pub returns-in_err-tokens-clause-end : goal.returns-in_err-tokens-clause-end
returns-in_err-tokens-clause-end c =
    hands_on c.from_residual.result (EndsForPhrases c.args.text.now) c.from_residual.ensures.1
    (tokens_end_of_phrases c.args.text.now c.part_of-part.result.now c.requires.utf8 c.part_of-part.ensures c.in_err-tokens.field-0.0 c.in_err-tokens.ensures.end)
