use Rattle.std.proofs.Common.{refl}
use Rattle.qs_deck.proofs.examples.a_line_of_phrases_may_stand_alone.Goals as goal

pub returns-clause-border : goal.returns-clause-border
returns-clause-border c = refl

pub returns-clause-part : goal.returns-clause-part
returns-clause-part c = refl

pub returns-clause-lines : goal.returns-clause-lines
returns-clause-lines c = refl
