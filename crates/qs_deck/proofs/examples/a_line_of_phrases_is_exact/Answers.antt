use Rattle.std.proofs.Common.{refl}
use Rattle.qs_deck.proofs.examples.a_line_of_phrases_is_exact.Goals as goal

pub returns-clause-space : goal.returns-clause-space
returns-clause-space c = refl

pub returns-clause-carriage_return : goal.returns-clause-carriage_return
returns-clause-carriage_return c = refl

pub returns-clause-comment : goal.returns-clause-comment
returns-clause-comment c = refl
