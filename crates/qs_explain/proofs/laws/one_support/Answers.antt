use Rattle.qs_explain.proofs.Grounded as grounded
use Rattle.qs_explain.proofs.laws.one_support.Goals as goal

pub returns : goal.returns
returns c = λ S s t a b. grounded.one_support S s t a b
