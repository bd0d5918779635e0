use Rattle.std.proofs.Common.{refl}
use Rattle.qs_reader.proofs.Tokens.{passed}
use Rattle.qs_reader.proofs.reader.Reader.pass.Goals as goal

pub returns-clause-yes : goal.returns-clause-yes
returns-clause-yes c = λ yes.
    let n = c.if-not-is_at.ensures.yes refl in
    record { token = n.token; passed = passed c.args.self.now c.take.new.self n.token n.next c.take.ensures.taken; of_sort = n.of_sort }
