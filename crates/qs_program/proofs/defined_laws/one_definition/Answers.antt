use Rattle.qs_program.proofs.OneDefinition.{same_definition}
use Rattle.qs_program.proofs.EachDefinition.{some_definition}
use Rattle.qs_program.proofs.defined_laws.one_definition.Goals as goal

pub returns-clause-some : goal.returns-clause-some
returns-clause-some c = some_definition c.one_answer.ensures.some c.one_phrase_text.ensures.some

pub returns-clause-one : goal.returns-clause-one
returns-clause-one c =
    same_definition c.one_outcome.ensures c.one_cascade.ensures (record { deck = c.one_answer.ensures.deck; refusal = c.one_answer.ensures.refusal; not_both = c.one_answer.ensures.not_both })
    (record { phrases = c.one_phrase_text.ensures.phrases; refusal = c.one_phrase_text.ensures.refusal; not_both = c.one_phrase_text.ensures.not_both })
