use Rattle.qs_lex.specs.Tokens.{bytes_of}
use Rattle.qs_lex.proofs.Quotes as quotes
use Rattle.qs_lex.proofs.laws.one_label_text.Goals as goal

pub returns-clause-quoted : goal.returns-clause-quoted
returns-clause-quoted c = quotes.one_text

pub returns-clause-label : goal.returns-clause-label
returns-clause-label c = λ text t a b. quotes.one_label_text t.kind (bytes_of text t) a b
