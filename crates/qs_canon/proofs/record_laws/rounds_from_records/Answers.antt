use Rattle.qs_canon.specs.Rounds.{firings}
use Rattle.qs_canon.proofs.Stages.{rounds_grown, rounds_apart}
use Rattle.qs_canon.proofs.Canonical as canonical
use Rattle.qs_canon.proofs.record_laws.rounds_from_records.Goals as goal

pub returns-clause-opening : goal.returns-clause-opening
returns-clause-opening c = λ R G fs H. (canonical.table_opening R G fs H, canonical.nodes_opening R G fs H)

pub returns-clause-round : goal.returns-clause-round
returns-clause-round c = canonical.next_by

pub returns-clause-first : goal.returns-clause-first
returns-clause-first c = canonical.first_round

pub returns-clause-few : goal.returns-clause-few
returns-clause-few c = λ R G fs H X n S s. canonical.few R G fs H X (firings S) S.graph (rounds_grown R G n S s) (rounds_apart R G n S s)

pub returns-clause-closes : goal.returns-clause-closes
returns-clause-closes c = canonical.closes_by

pub returns-clause-maps : goal.returns-clause-maps
returns-clause-maps c = λ R G fs H X C closes T N table nodes. canonical.maps R G fs H X closes.rounds C closes.reached T table N nodes closes
