use Rattle.std.proofs.Common.{List, length, ap, arith}
use Rattle.qs_firing.specs.Work.{WithTrees}
use Rattle.qs_worker.proofs.Turns.{worked, published, over}
use Rattle.qs_worker.proofs.alone.publish_all.Goals as goal

pub returns-in_default : goal.returns-in_default
returns-in_default c =
    over c.args.state.now.machine c.loop-k.state.machine c.publish.new.self.machine c.args.work.now c.loop-k.k c.in_ok-publish.field-0 c.in_default.not-Published
    (omega (arith, c.loop-k-test.true, ap (λ (xs : List WithTrees). length xs) c.made.ensures)) c.loop-k.invariant c.in_ok-publish.ensures.answer

pub loop-k-preserved : goal.loop-k-preserved
loop-k-preserved c =
    published c.args.state.now.machine c.loop-k.state.machine c.publish.new.self.machine c.args.work.now c.loop-k.k c.in_ok-publish.field-0 c.in-Published.field-0 c.in-Published.is c.requires.accepted c.loop-k.invariant
    c.in_ok-publish.ensures.answer

pub returns : goal.returns
returns c =
    worked c.args.state.now.machine c.loop-k.state.machine c.args.work.now c.loop-k.k c.loop-k.invariant
    (omega (arith, c.loop-k-test.false, ap (λ (xs : List WithTrees). length xs) c.made.ensures))
