-- What was given and is left of the bytes, behind one piece more.
use Rattle.std.proofs.Common.{rules}
use Rattle.std.proofs.Math.Seq.{take-add}
use Rattle.std.proofs.lemmas.List.{drop-drop}
use Rattle.qs_io.proofs.memory_source.MemSourceSource.read.Goals as goal

pub returns-clause-ok : goal.returns-clause-ok
returns-clause-ok c =
    let bytes = c.self.inside.bytes.items in
    rw (← c.self.view_is, take-add c.self.inside.taken c.copy_front-amount.result bytes, ← drop-drop c.copy_front-amount.result c.self.inside.taken bytes)
    (search rules)
