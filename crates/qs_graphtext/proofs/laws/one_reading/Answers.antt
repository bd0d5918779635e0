use Rattle.qs_graphtext.proofs.OneReading.{one_graph}
use Rattle.qs_graphtext.proofs.laws.one_reading.Goals as goal

pub returns : goal.returns
returns c = λ names text tokens rest end chains others distinct reads also. one_graph names text distinct reads also
