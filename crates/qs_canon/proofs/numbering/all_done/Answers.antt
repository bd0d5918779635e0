use Rattle.std.proofs.Common.{arith}
use Rattle.qs_core.proofs.Runs.{keeps, closed_all}
use Rattle.qs_canon.proofs.numbering.all_done.Goals as goal

pub returns-clause-finished : goal.returns-clause-finished
returns-clause-finished c =
    let M = c.args.end.now.machine in
    let K = keeps M.base M.journal M.state.stop M.state c.journal-journal.ensures.replayed in
    record {
      recorded = record { valid = c.entry-entry.ensures.valid; grown = K.grown; once = K.once; closed = closed_all M.base M.state K c.requires };
      accepted = c.rules-rules.ensures.accepted;
      results = K.results;
      few = omega (arith, K.few, c.start_arcs-start_arcs.ensures.fit);
      arcs_fit = omega (arith, c.arcs-arcs.ensures, c.arcs-arcs.type_inv);
      nodes_fit = omega (arith, c.nodes-nodes.ensures, c.nodes-nodes.type_inv);
    }
