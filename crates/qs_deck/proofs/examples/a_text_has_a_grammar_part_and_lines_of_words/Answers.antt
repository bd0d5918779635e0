use Rattle.std.proofs.Common.{refl}
use Rattle.qs_deck.proofs.examples.a_text_has_a_grammar_part_and_lines_of_words.Goals as goal

pub returns-clause-border : goal.returns-clause-border
returns-clause-border c = refl

pub returns-clause-part : goal.returns-clause-part
returns-clause-part c = refl

pub returns-clause-words : goal.returns-clause-words
returns-clause-words c = refl

pub returns-clause-places : goal.returns-clause-places
returns-clause-places c = refl
