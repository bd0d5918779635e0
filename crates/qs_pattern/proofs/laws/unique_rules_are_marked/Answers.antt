use Rattle.qs_pattern.proofs.Marks.{all_unique-true, true-all_unique}
use Rattle.qs_pattern.proofs.laws.unique_rules_are_marked.Goals as goal

pub returns : goal.returns
returns c = λ rules. (all_unique-true rules, true-all_unique rules)
