use Rattle.std.proofs.Common.{length, Option, subst}
use Rattle.std.proofs.lemmas.Result.{IfOk-at_ok}
use Rattle.qs_canon.specs.Closures.{ClosureOf}
use Rattle.qs_cascade.specs.ClosureEnds.{IsAnswerOfClosure}
use Rattle.qs_machine_tests.proofs.explain_tests.explains.Goals as goal

pub write_support-requires-clause-names : goal.write_support-requires-clause-names
write_support-requires-clause-names g c =
    let Answers : Option ClosureOf → Type 0 = λ o. IsAnswerOfClosure c.rules_of-rules.result.now c.expect-deck.result.graph 20 o in
    let answer = subst Answers c.expect-closure.ensures (IfOk-at_ok Answers c.expect-end.ensures c.closure_alone.ensures) in
    answer.labels (length c.expect-deck.result.names) c.rules_of-rules.ensures c.expect-deck.result.graph_named
