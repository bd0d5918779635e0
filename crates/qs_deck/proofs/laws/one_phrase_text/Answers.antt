use Rattle.qs_deck.proofs.OnePhraseText as one
use Rattle.qs_deck.proofs.EachPhraseText.{each_phrase_text}
use Rattle.qs_deck.proofs.laws.one_phrase_text.Goals as goal

pub returns-clause-phrases : goal.returns-clause-phrases
returns-clause-phrases c = λ text v w names others grammars more lines further a b. one.one_meaning a b

pub returns-clause-refusal : goal.returns-clause-refusal
returns-clause-refusal c = λ text r s a b. one.one_refusal a b

pub returns-clause-not_both : goal.returns-clause-not_both
returns-clause-not_both c = λ text version names grammars lines r a b. one.not_both a b

pub returns-clause-some : goal.returns-clause-some
returns-clause-some c = each_phrase_text
