use Rattle.qs_lex.proofs.Standing.{has_byte}
use Rattle.qs_lex.proofs.Readings.{token_stands, token_placed}
use Rattle.qs_lex.proofs.laws.each_token.Goals as goal

pub returns-clause-stands : goal.returns-clause-stands
returns-clause-stands c = λ text t of. token_stands of

pub returns-clause-some : goal.returns-clause-some
returns-clause-some c = λ text t of. has_byte (token_stands of)

pub returns-clause-from : goal.returns-clause-from
returns-clause-from c = λ text t utf8 of. (token_placed utf8 of).from

pub returns-clause-to : goal.returns-clause-to
returns-clause-to c = λ text t utf8 of. (token_placed utf8 of).to
