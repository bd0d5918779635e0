use Rattle.std.proofs.Common.{◌++◌, ap, sym}
use Rattle.qs_machine_tests.proofs.core_tests.work_of.Goals as goal

pub catch_up-requires : goal.catch_up-requires
catch_up-requires g c =
    let arcs = c.args.state.now.machine.state.graph.arcs in (arcs, sym (ap (λ xs. xs ++ arcs) c.empty-view.ensures))
