use Rattle.qs_worker.proofs.Turns.{next_none}
use Rattle.qs_worker.proofs.alone.claim_next.Goals as goal

pub returns-in_default : goal.returns-in_default
returns-in_default c =
    next_none c.args.state.now.machine c.reserve_step.new.self.machine c.claim.new.self.machine c.claim.result c.in_default.not-Took c.requires.between c.requires.alone c.reserve_step.ensures.same c.claim.ensures
