use Rattle.std.proofs.Common.{rules}
use Rattle.qs_machine_tests.proofs.Claims.{held_at, free_of_none, free_of_some}
use Rattle.qs_machine_tests.proofs.core_tests.see_free.Goals as goal

pub returns-in-Some-clause-free : goal.returns-in-Some-clause-free
returns-in-Some-clause-free g c =
    let at = held_at c.args.run.now.held.items c.args.seat c.index.result.now _ (search rules) c.index.ensures c.in-Some.is in
    free_of_some c.args.run.now.state.machine c.args.run.now.held.items c.args.seat c.in-Some.arc c.in-Some.done c.work_of-work.result c.journal-journal.ensures.replayed c.requires at
    c.work_of-work.ensures.arc c.work_of-work.ensures.right (search rules)

pub returns-in_default-clause-free : goal.returns-in_default-clause-free
returns-in_default-clause-free g c =
    free_of_none c.args.run.now.state.machine.base c.args.run.now.state.machine.state c.args.run.now.held.items c.args.seat c.requires
    (held_at c.args.run.now.held.items c.args.seat c.index.result.now _ (search rules) c.index.ensures c.in_default.is)
