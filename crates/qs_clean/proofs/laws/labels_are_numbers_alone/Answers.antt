use Rattle.qs_clean.proofs.RenamedCascades as renamed
use Rattle.qs_clean.proofs.laws.labels_are_numbers_alone.Goals as goal

pub returns : goal.returns
returns c = λ f g is L G Rs lefts end accepted o. renamed.cascade_renamed f g is L accepted o
