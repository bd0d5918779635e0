use Rattle.std.proofs.Common.{◌+◌, ◌*◌, length}
use Rattle.qs_lex.specs.declared.token.Word.TheVariants.{Et, Ou}
use Rattle.qs_lex.specs.Grammar.{the_word, one, part, ◌·◌}
use Rattle.qs_pattern.specs.Conditions.{condition_of}
use Rattle.qs_pattern.specs.working.Conditions.{conditions}
use Rattle.qs_reader.specs.Readers.{rest_of}
use Rattle.qs_ruletext.specs.Grammar.{cond, conj, neg, line}
use Rattle.qs_ruletext.specs.working.Readers.{IsReadSoFar}
use Rattle.qs_ruletext.proofs.ConditionSteps.{CompletesCond, CompletesConj}
use Rattle.qs_ruletext.proofs.conditions.+conditions.Given as goal

abbrev pub decreases-condition : goal.decreases-condition
decreases-condition l = 4 * length (rest_of l.reader.now) + 3

abbrev pub decreases-conjunction : goal.decreases-conjunction
decreases-conjunction l = 4 * length (rest_of l.reader.now) + 2

abbrev pub decreases-negation : goal.decreases-negation
decreases-negation l = 4 * length (rest_of l.reader.now) + 1

abbrev pub decreases-primary : goal.decreases-primary
decreases-primary l = 4 * length (rest_of l.reader.now)

abbrev pub invariant-condition-loop-reader : goal.invariant-condition-loop-reader
invariant-condition-loop-reader l =
    IsReadSoFar (line cond) (one (the_word Ou) · part conj) (CompletesCond (condition_of l.first) (conditions l.more.items)) l.fn.reader l.reader l.fn.names l.names

abbrev pub decreases-condition-loop-reader : goal.decreases-condition-loop-reader
decreases-condition-loop-reader l = length (rest_of l.reader)

abbrev pub invariant-conjunction-loop-reader : goal.invariant-conjunction-loop-reader
invariant-conjunction-loop-reader l =
    IsReadSoFar (line conj) (one (the_word Et) · part neg) (CompletesConj (condition_of l.first) (conditions l.more.items)) l.fn.reader l.reader l.fn.names l.names

abbrev pub decreases-conjunction-loop-reader : goal.decreases-conjunction-loop-reader
decreases-conjunction-loop-reader l = length (rest_of l.reader)
