use Rattle.std.proofs.Common.{map}
use Rattle.qs_deck.specs.Decks.{grammar_of}
use Rattle.qs_deck.proofs.Meanings.{never_ok}
use Rattle.qs_deck.proofs.PhraseMeanings.{only_memory_of_phrases}
use Rattle.qs_deck.proofs.phrases.read_phrases.Goals as goal

pub returns-clause-accepted : goal.returns-clause-accepted
returns-clause-accepted c = λ version names grammars lines is.
    only_memory_of_phrases c.args.bytes.now c.phrases_of_bytes.result c.phrases_of_bytes.ensures.end (λ refusal refused. c.one_phrase_text.ensures.not_both c.args.bytes.now version names grammars lines refusal is refused)

pub returns-clause-faulty : goal.returns-clause-faulty
returns-clause-faulty c = λ refusal refused.
    never_ok _ c.phrases_of_bytes.result c.phrases_of_bytes.ensures.phrases
    (λ found is. c.one_phrase_text.ensures.not_both c.args.bytes.now found.version found.names (map grammar_of found.systems.items) found.lines refusal is refused)
