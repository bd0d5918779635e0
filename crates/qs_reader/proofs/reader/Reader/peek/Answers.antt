use Rattle.std.proofs.Common.{subst}
use Rattle.qs_reader.specs.Readers.{IsNext}
use Rattle.qs_reader.proofs.Tokens.{next_token}
use Rattle.qs_reader.proofs.reader.Reader.peek.Goals as goal

pub returns-clause-some : goal.returns-clause-some
returns-clause-some c =
    let at = c.in_ok-next.ensures.lookup in
    subst (λ r. IsNext c.in_ok-next.next.now r) c.self.view_is
    (next_token (record { text = c.self.inside.text.now; tokens = c.self.inside.tokens.now; place = c.self.inside.place }) c.in_ok-next.next.now c.self.invariant.0 at.3.0 at.1)
