use Rattle.qs_lex.proofs.Readings as readings
use Rattle.qs_lex.proofs.Refusing.{one_refusal}
use Rattle.qs_lex.proofs.Totality.{a_reading}
use Rattle.qs_lex.proofs.laws.one_reading.Goals as goal

pub returns-clause-tokens : goal.returns-clause-tokens
returns-clause-tokens c = readings.one_list

pub returns-clause-place : goal.returns-clause-place
returns-clause-place c = λ text p q a b f g. (readings.one_fault f g).0

pub returns-clause-cause : goal.returns-clause-cause
returns-clause-cause c = λ text p q a b f g. (readings.one_fault f g).1

pub returns-clause-not_both : goal.returns-clause-not_both
returns-clause-not_both c = λ text ts p a are f. readings.not_both text ts are f

pub returns-clause-some : goal.returns-clause-some
returns-clause-some c = a_reading

pub returns-clause-refusal : goal.returns-clause-refusal
returns-clause-refusal c = λ text r s a b. one_refusal (λ p q b d f g. readings.one_fault f g) a b
