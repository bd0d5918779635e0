use Rattle.qs_deck.proofs.OneFault as one
use Rattle.qs_deck.proofs.EachText.{each_text}
use Rattle.qs_deck.proofs.laws.one_answer.Goals as goal

pub returns-clause-deck : goal.returns-clause-deck
returns-clause-deck c = λ text v w names others grammars more G H a b. one.one_meaning a b

pub returns-clause-refusal : goal.returns-clause-refusal
returns-clause-refusal c = λ text r s a b. one.one_refusal a b

pub returns-clause-not_both : goal.returns-clause-not_both
returns-clause-not_both c = λ text version names grammars G r a b. one.not_both a b

pub returns-clause-some : goal.returns-clause-some
returns-clause-some c = each_text
