use Rattle.std.proofs.Common.{arith}
use Rattle.qs_cascade.proofs.Closings.{Closes, needs, ends_closed, closes}
use Rattle.qs_cascade.proofs.closing.closure_by.Goals as goal

pub returns-then-ne : goal.returns-then-ne
returns-then-ne g c = record {
  end = needs c.args.grammar.now c.args.start.now c.args.limit c.in_ok-state.ensures.0 c.in_ok-state.state.machine c.in_ok-state.ensures.1 c.end.result c.ne.result c.if-ne.true c.ne.ensures c.end.ensures;
  valid = tt;
  grows = tt;
  labels = tt;
}

pub canon-requires : goal.canon-requires
canon-requires g c = ends_closed c.in_ok-state.state.machine c.end.result c.ne.result c.if-ne.false c.ne.ensures c.end.ensures

pub returns : goal.returns
returns g c =
    let numbering = c.in_ok-canon.field-0 in
    let soon : Closes c.args.grammar.now c.args.start.now c.args.limit numbering.closure =
    closes c.args.grammar.now c.args.start.now c.args.limit c.in_ok-state.ensures.0 c.in_ok-state.state.machine c.in_ok-state.ensures.1
    (ends_closed c.in_ok-state.state.machine c.end.result c.ne.result c.if-ne.false c.ne.ensures c.end.ensures)
    numbering.closure numbering.arcs.items numbering.nodes.items c.in_ok-canon.ensures c.requires.can_run.some (omega (arith, c.requires.can_run.arcs)) in
    record { end = (soon.closure, soon.few); valid = soon.valid; grows = soon.grown; labels = soon.no_labels }
