use Rattle.qs_firing.proofs.Works as works
use Rattle.qs_firing.proofs.laws.work_of_an_arc.Goals as goal

pub returns-clause-one : goal.returns-clause-one
returns-clause-one c = λ R arcs m E F e f. works.one_work R e f

pub returns-clause-older : goal.returns-clause-older
returns-clause-older c = λ R arcs more m F low. works.work_older R arcs more m F low

pub returns-clause-some : goal.returns-clause-some
returns-clause-some c = λ R ok arcs m. works.some_work R ok arcs m

pub returns-clause-placed : goal.returns-clause-placed
returns-clause-placed c = λ R arcs f. ((λ r. works.work_of R arcs f r), λ (m, w). works.fires_of_work R w)
