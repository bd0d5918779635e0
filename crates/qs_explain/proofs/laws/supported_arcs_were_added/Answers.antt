use Rattle.qs_explain.proofs.Grounded as grounded
use Rattle.qs_explain.proofs.laws.supported_arcs_were_added.Goals as goal

pub returns : goal.returns
returns c = λ C is k a low. grounded.supported_added C is k a low
