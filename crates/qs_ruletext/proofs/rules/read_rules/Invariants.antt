use Rattle.std.proofs.Common.{length}
use Rattle.qs_lex.specs.Grammar.{part, repeated}
use Rattle.qs_reader.specs.Readers.{rest_of}
use Rattle.qs_ruletext.specs.Grammar.{rule}
use Rattle.qs_ruletext.specs.working.Readers.{IsReadSoFar}
use Rattle.qs_ruletext.proofs.RuleSteps.{CompletesRules}
use Rattle.qs_ruletext.proofs.rules.read_rules.Given as goal

abbrev pub invariant-loop-reader : goal.invariant-loop-reader
invariant-loop-reader l =
    IsReadSoFar (repeated (part rule)) (part rule) (CompletesRules l.rules.items) (record { text = l.text; tokens = l.tokens; place = l.from }) l.reader l.fn.names l.names

abbrev pub decreases-loop-reader : goal.decreases-loop-reader
decreases-loop-reader l = length (rest_of l.reader)
