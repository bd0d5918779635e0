use Rattle.std.proofs.Common.{rules}
use Rattle.std.proofs.lemmas.Result.{IfOk-at_ok}
use Rattle.qs_core.specs.declared.answers.Put.{Put}
use Rattle.qs_core.specs.Answers.{IsPublished}
use Rattle.qs_machine_tests.proofs.Claims.{held_at, claim_of_work, held_published}
use Rattle.qs_machine_tests.proofs.core_tests.publish.Goals as goal

pub publish-requires-clause-claim : goal.publish-requires-clause-claim
publish-requires-clause-claim g c = λ going.
    claim_of_work c.args.run.now.state.machine.state c.args.run.now.held.items c.args.seat c.in-Some.arc c.in-Some.done c.work_of-work.result c.requires
    (held_at c.args.run.now.held.items c.args.seat c.index.result.now _ (search rules) c.index.ensures c.in-Some.is) c.work_of-work.ensures.arc

pub returns : goal.returns
returns g c =
    let at = held_at c.args.run.now.held.items c.args.seat c.index.result.now _ (search rules) c.index.ensures c.in-Some.is in
    let published = IfOk-at_ok (λ (a : Put). IsPublished c.args.run.now.state.machine c.args.seat c.work_of-work.result c.in-Some.done a c.publish.new.self.machine) c.expect-put.ensures c.publish.ensures.answer in
    held_published c.args.run.now.state.machine c.publish.new.self.machine c.args.run.now.held.items c.args.seat c.in-Some.arc c.in-Some.done c.work_of-work.result c.in-Published.number c.expect-put.result c.in-Published.is at c.work_of-work.ensures.arc c.requires published
