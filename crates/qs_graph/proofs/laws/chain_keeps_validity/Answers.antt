use Rattle.qs_graph.proofs.Adding as adding
use Rattle.qs_graph.proofs.laws.chain_keeps_validity.Goals as goal

pub returns-clause-valid : goal.returns-clause-valid
returns-clause-valid c = λ G a b path ts valid p some. adding.adding_valid G valid a b path p ts some

pub returns-clause-entry : goal.returns-clause-entry
returns-clause-entry c = λ G a b path ts valid p some. adding.same_entry G valid a b path p ts some

pub returns-clause-exit : goal.returns-clause-exit
returns-clause-exit c = λ G a b path ts valid p some. adding.same_exit G valid a b path p ts some
