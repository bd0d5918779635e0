use Rattle.qs_clean.proofs.CascadeExistence as existence
use Rattle.qs_clean.proofs.laws.each_cascade_ends.Goals as goal

pub returns : goal.returns
returns c = λ L G Rs valid accepted. existence.has_outcome L Rs accepted G valid
