use Rattle.qs_machine_tests.proofs.Accepted.{one_for_one}
use Rattle.qs_machine_tests.proofs.merging_tests.beside.Goals as goal

pub new-requires : goal.new-requires
new-requires c = one_for_one c.args.from c.args.to _ _ c.in_ok-left.ensures c.in_ok-right.ensures
