use Rattle.qs_machine_tests.proofs.Accepted.{two_for_one}
use Rattle.qs_machine_tests.proofs.merging_tests.two_beside.Goals as goal

pub new-requires : goal.new-requires
new-requires c = two_for_one c.args.from c.args.first c.args.second _ _ c.in_ok-left.ensures c.in_ok-right.ensures
