use Rattle.qs_canon.proofs.Naming as naming
use Rattle.qs_canon.proofs.laws.rounds_make_no_labels.Goals as goal

pub returns : goal.returns
returns c = λ n R accepted right G named m S s. naming.rounds_named n R accepted right G named m S s
