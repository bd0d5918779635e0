use Rattle.qs_graphtext.proofs.Bytes.{byte_of_graph, whole_graph, some_chain}
use Rattle.qs_graphtext.proofs.laws.what_is_read_makes_chains.Goals as goal

pub returns-clause-some : goal.returns-clause-some
returns-clause-some c = λ names text tokens chains rest reads. some_chain reads

pub returns-clause-whole : goal.returns-clause-whole
returns-clause-whole c = λ names text tokens chains rest reads. whole_graph reads

pub returns-clause-bytes : goal.returns-clause-bytes
returns-clause-bytes c = λ names text tokens chains rest reads. byte_of_graph reads
