use Rattle.std.proofs.Common.{false, get_or, None}
use Rattle.std.proofs.lemmas.Option.{slice_get-get_or}
use Rattle.qs_levels.proofs.Visiting.{visited_waiting, visited_new}
use Rattle.qs_levels.proofs.ordering.visit.Goals as goal

pub returns-in_ok-push : goal.returns-in_ok-push
returns-in_ok-push c =
    visited_new c.args.steps.now.sources.items c.args.steps.now.targets.items c.args.nodes.now c.args.order.now.items c.requires.going c.args.number (get_or c.args.nodes.now c.args.number (record { depth = 0; unpassed = None; done = false })) (slice_get-get_or c.args.nodes.now c.args.number (record { depth = 0; unpassed = None; done = false }) c.requires.number) c.if-nodes-number.false c.pass-node.result c.pass-node.ensures.passed
    c.if-node.true (c.pass-node.ensures.done c.if-node.true) c.push.new.self.items c.in_ok-push.ensures.items

pub returns-else-node : goal.returns-else-node
returns-else-node c =
    visited_waiting c.args.steps.now.sources.items c.args.steps.now.targets.items c.args.nodes.now c.args.order.now.items c.requires.going c.args.number (get_or c.args.nodes.now c.args.number (record { depth = 0; unpassed = None; done = false })) (slice_get-get_or c.args.nodes.now c.args.number (record { depth = 0; unpassed = None; done = false }) c.requires.number) c.if-nodes-number.false c.pass-node.result c.pass-node.ensures.passed
    c.if-node.false (c.pass-node.ensures.held_up c.if-node.false)
