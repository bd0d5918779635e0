use Rattle.std.proofs.Common.{length, drop}
use Rattle.qs_telling.specs.working.Cascading.{CanGoOn}
use Rattle.qs_telling.proofs.PhraseRuns.{GoesOn}
use Rattle.qs_telling.proofs.phrasing.PhraseTeller.run.Given as goal

abbrev pub invariant-loop-grammar : goal.invariant-loop-grammar
invariant-loop-grammar g l =
    GoesOn l.self.limit l.self.systems.now l.grammar-index l.initial.graph l.graph × CanGoOn l.self.names.now l.graph (length (drop l.grammar-index l.self.systems.now))
