use Rattle.qs_canon.proofs.Rounds as rounds
use Rattle.qs_canon.proofs.Existence as existence
use Rattle.qs_canon.proofs.Progress as progress
use Rattle.qs_canon.proofs.laws.one_closure.Goals as goal

pub returns-clause-one : goal.returns-clause-one
returns-clause-one c = rounds.one_closure

pub returns-clause-some : goal.returns-clause-some
returns-clause-some c = λ R ok. progress.closes_or_needs R (existence.has_rounds R ok)

pub returns-clause-not_both : goal.returns-clause-not_both
returns-clause-not_both c = λ R G L few more. rounds.not_both R G L few.closure few.closes few.few more
