use Rattle.std.proofs.Common.{◌≡◌}
use Rattle.qs_reader.specs.declared.text_end.TextEnd.TheVariants.{Memory}
use Rattle.qs_reader.proofs.Steps.{hands_on}
use Rattle.qs_reader.proofs.Between.{reads_up_to, names_between}
use Rattle.qs_graphtext.specs.Refusals.{EndsFrom}
use Rattle.qs_graphtext.proofs.Places.{graph_named}
use Rattle.qs_graphtext.proofs.Whole.{graph_whole}
use Rattle.qs_graphtext.proofs.ChainSteps.{graph_ends}
use Rattle.qs_graphtext.proofs.GraphEnd.{not_both_ends, only_memory}
use Rattle.qs_graphtext.proofs.reading.read_chains.Goals as goal

pub returns-in_err-chains-clause-ends : goal.returns-in_err-chains-clause-ends
returns-in_err-chains-clause-ends c =
    hands_on c.from_residual.result (EndsFrom c.args.tokens.now c.args.from) c.from_residual.ensures.1 (graph_ends c.new-reader.ensures c.in_err-chains.ensures.ends)

pub returns-in_err-chains-clause-faultless : goal.returns-in_err-chains-clause-faultless
returns-in_err-chains-clause-faultless c = λ rest whole.
    hands_on c.from_residual.result (λ end. end ≡ Memory) c.from_residual.ensures.1
    (only_memory c.args.tokens.now c.args.from c.in_err-chains.field-0.0 (graph_ends c.new-reader.ensures c.in_err-chains.ensures.ends) (λ at stops. not_both_ends c.args.tokens.now rest c.args.from at whole stops))

pub returns-clause-read : goal.returns-clause-read
returns-clause-read c = reads_up_to c.new-reader.ensures c.place.ensures.place c.in_ok-chains.ensures.read

pub returns-clause-named : goal.returns-clause-named
returns-clause-named c = graph_named (returns-clause-read c c.graph.new.names (λ k text e. e))

pub returns-clause-names : goal.returns-clause-names
returns-clause-names c = names_between c.new-reader.ensures c.place.ensures.place c.in_ok-chains.ensures.read

pub returns-clause-faulty : goal.returns-clause-faulty
returns-clause-faulty c = λ at stops. absurd (not_both_ends c.args.tokens.now _ c.args.from at (graph_whole (returns-clause-read c c.graph.new.names (λ k text e. e))) stops)
