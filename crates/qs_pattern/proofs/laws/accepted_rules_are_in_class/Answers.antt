use Rattle.qs_pattern.proofs.laws.accepted_rules_are_in_class.Goals as goal

pub returns : goal.returns
returns c = λ rules accepted rule i. (accepted rule i).left.in_class
