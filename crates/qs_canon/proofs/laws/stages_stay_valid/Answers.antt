use Rattle.qs_canon.proofs.Keeping as keeping
use Rattle.qs_canon.proofs.laws.stages_stay_valid.Goals as goal

pub returns-clause-valid : goal.returns-clause-valid
returns-clause-valid c = λ R accepted G valid n S s. (keeping.keeps_rounds R accepted G valid n S s).valid

pub returns-clause-entry : goal.returns-clause-entry
returns-clause-entry c = λ R accepted G valid n S s. (keeping.keeps_rounds R accepted G valid n S s).entry

pub returns-clause-exit : goal.returns-clause-exit
returns-clause-exit c = λ R accepted G valid n S s. (keeping.keeps_rounds R accepted G valid n S s).exit

pub returns-clause-paths : goal.returns-clause-paths
returns-clause-paths c = λ R accepted G valid n S s f i. let h = (keeping.keeps_rounds R accepted G valid n S s).paths f i in (h.from, (h.to, h.is))
