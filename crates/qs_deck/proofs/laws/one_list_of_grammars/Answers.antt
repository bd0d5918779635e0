use Rattle.qs_deck.proofs.OneList as one
use Rattle.qs_deck.proofs.EachList.{each_list}
use Rattle.qs_deck.proofs.laws.one_list_of_grammars.Goals as goal

pub returns-clause-grammars : goal.returns-clause-grammars
returns-clause-grammars c = λ text v w names others grammars more a b. one.one_meaning a b

pub returns-clause-refusal : goal.returns-clause-refusal
returns-clause-refusal c = λ text r s a b. one.one_refusal a b

pub returns-clause-not_both : goal.returns-clause-not_both
returns-clause-not_both c = λ text version names grammars r a b. one.not_both a b

pub returns-clause-some : goal.returns-clause-some
returns-clause-some c = each_list
