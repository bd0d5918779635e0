use Rattle.std.proofs.Common.{◌≡◌, ◌+◌, set, sym, ap, ◌∙◌, subst, arith, Some}
use Rattle.qs_graph.specs.Graphs.{Arc}
use Rattle.qs_canon.specs.working.CanonNumbers.{table_of}
use Rattle.qs_canon.proofs.CanonNumbers.{is_there, some_read}
use Rattle.qs_canon.proofs.CanonChains.{some_of, none_of, to_within, from_has, room, end_named, start_named, added_last, chain_left}
use Rattle.qs_canon.proofs.numbers.Numbers.add_result.Goals as goal

pub loop-arc-init : goal.loop-arc-init
loop-arc-init c = λ d x. (d, x, λ n y. y)

pub index-requires : goal.index-requires
index-requires c =
    let (c0, x0) = c.requires in
    let (d, x, k) = c.loop-arc.invariant c0 x0 in
    let to = ap (λ (a : Arc). a.to) c.edge.view_is in
    omega (arith, to, to_within c.args.end.now.machine.state.graph c.loop-arc.self c.loop-arc.arc d x c.edge-edge.result.now c.edge-edge.ensures, c.loop-arc.self.nodes.ok.0)

pub add_arc-requires-clause-from : goal.add_arc-requires-clause-from
add_arc-requires-clause-from c =
    let (c0, x0) = c.requires in
    let (d, x, k) = c.loop-arc.invariant c0 x0 in
    is_there (table_of c.loop-arc.self.nodes.items c.edge-edge.result.now.from) d.from_number (from_has c.args.end.now.machine.state.graph c.loop-arc.self c.loop-arc.arc d x c.edge-edge.result.now c.edge-edge.ensures)

pub add_arc-requires-clause-to : goal.add_arc-requires-clause-to
add_arc-requires-clause-to c =
    let (c0, x0) = c.requires in
    let (d, x, k) = c.loop-arc.invariant c0 x0 in
    let within = to_within c.args.end.now.machine.state.graph c.loop-arc.self c.loop-arc.arc d x c.edge-edge.result.now c.edge-edge.ensures in
    let to = ap (λ (a : Arc). a.to) c.edge.view_is in
    let (l, is) = some_of c.index.result.now (sym c.is_some.ensures ∙ c.if-is_some.true) in
    let here = subst (λ k. table_of c.loop-arc.self.nodes.items k ≡ c.index.result.now) to (some_read c.loop-arc.self.nodes.items c.edge.inside.to c.index.result.now (omega (arith, to, within)) c.index.ensures) in
    is_there (table_of c.loop-arc.self.nodes.items c.edge-edge.result.now.to) l (here ∙ is)

pub returns-then-is_some : goal.returns-then-is_some
returns-then-is_some c = λ c0 x0.
    let (d, x, k) = c.loop-arc.invariant c0 x0 in
    let within = to_within c.args.end.now.machine.state.graph c.loop-arc.self c.loop-arc.arc d x c.edge-edge.result.now c.edge-edge.ensures in
    let to = ap (λ (a : Arc). a.to) c.edge.view_is in
    let (l, is) = some_of c.index.result.now (sym c.is_some.ensures ∙ c.if-is_some.true) in
    let here = subst (λ k. table_of c.loop-arc.self.nodes.items k ≡ c.index.result.now) to (some_read c.loop-arc.self.nodes.items c.edge.inside.to c.index.result.now (omega (arith, to, within)) c.index.ensures) in
    let e = c.in_ok-add_arc.ensures in
    k c.add_arc.new.self (added_last c.args.end.now.machine.state.graph c.loop-arc.self c.loop-arc.arc d x c.edge-edge.result.now c.edge-edge.ensures l (here ∙ is) c.add_arc.new.self
    (record { arcs = e.arcs; edges = e.edges; origins = e.origins; nodes = e.nodes; last_node = e.last_node; placed = e.placed }))

pub overflow_add-self : goal.overflow_add-self
overflow_add-self c =
    let (c0, x0) = c.requires in
    let (d, x, k) = c.loop-arc.invariant c0 x0 in
    let within = to_within c.args.end.now.machine.state.graph c.loop-arc.self c.loop-arc.arc d x c.edge-edge.result.now c.edge-edge.ensures in
    let to = ap (λ (a : Arc). a.to) c.edge.view_is in
    let is = none_of c.index.result.now (sym c.is_some.ensures ∙ c.if-is_some.false) in
    let here = subst (λ k. table_of c.loop-arc.self.nodes.items k ≡ c.index.result.now) to (some_read c.loop-arc.self.nodes.items c.edge.inside.to c.index.result.now (omega (arith, to, within)) c.index.ensures) in
    omega (arith, room c.args.end.now.machine.state.graph c.loop-arc.self c.loop-arc.arc d x c.edge-edge.result.now c.edge-edge.ensures (here ∙ is))

pub index_mut-requires : goal.index_mut-requires
index_mut-requires c =
    let (c0, x0) = c.requires in
    let (d, x, k) = c.loop-arc.invariant c0 x0 in
    let to = ap (λ (a : Arc). a.to) c.edge.view_is in
    omega (arith, to, to_within c.args.end.now.machine.state.graph c.loop-arc.self c.loop-arc.arc d x c.edge-edge.result.now c.edge-edge.ensures, c.loop-arc.self.nodes.ok.0)

pub add_arc-requires-in-loop-arc-clause-from : goal.add_arc-requires-in-loop-arc-clause-from
add_arc-requires-in-loop-arc-clause-from c =
    let (c0, x0) = c.requires in
    let (d, x, k) = c.loop-arc.invariant c0 x0 in
    let within = to_within c.args.end.now.machine.state.graph c.loop-arc.self c.loop-arc.arc d x c.edge-edge.result.now c.edge-edge.ensures in
    let to = ap (λ (a : Arc). a.to) c.edge.view_is in
    let is = none_of c.index.result.now (sym c.is_some.ensures ∙ c.if-is_some.false) in
    let here = subst (λ k. table_of c.loop-arc.self.nodes.items k ≡ c.index.result.now) to (some_read c.loop-arc.self.nodes.items c.edge.inside.to c.index.result.now (omega (arith, to, within)) c.index.ensures) in
    is_there (table_of (set c.loop-arc.self.nodes.items c.edge.inside.to (Some (c.loop-arc.self.last_node + 1))) c.edge-edge.result.now.from) d.from_number
    (start_named c.args.end.now.machine.state.graph c.loop-arc.self c.loop-arc.arc d x c.edge-edge.result.now c.edge-edge.ensures (here ∙ is)
    (set c.loop-arc.self.nodes.items c.edge.inside.to (Some (c.loop-arc.self.last_node + 1))) (ap (λ m. set c.loop-arc.self.nodes.items m (Some (c.loop-arc.self.last_node + 1))) to))

pub add_arc-requires-in-loop-arc-clause-to : goal.add_arc-requires-in-loop-arc-clause-to
add_arc-requires-in-loop-arc-clause-to c =
    let (c0, x0) = c.requires in
    let (d, x, k) = c.loop-arc.invariant c0 x0 in
    let within = to_within c.args.end.now.machine.state.graph c.loop-arc.self c.loop-arc.arc d x c.edge-edge.result.now c.edge-edge.ensures in
    let to = ap (λ (a : Arc). a.to) c.edge.view_is in
    let is = none_of c.index.result.now (sym c.is_some.ensures ∙ c.if-is_some.false) in
    let here = subst (λ k. table_of c.loop-arc.self.nodes.items k ≡ c.index.result.now) to (some_read c.loop-arc.self.nodes.items c.edge.inside.to c.index.result.now (omega (arith, to, within)) c.index.ensures) in
    is_there (table_of (set c.loop-arc.self.nodes.items c.edge.inside.to (Some (c.loop-arc.self.last_node + 1))) c.edge-edge.result.now.to) (c.loop-arc.self.last_node + 1)
    (end_named c.args.end.now.machine.state.graph c.loop-arc.self c.loop-arc.arc d x c.edge-edge.result.now c.edge-edge.ensures (here ∙ is)
    (set c.loop-arc.self.nodes.items c.edge.inside.to (Some (c.loop-arc.self.last_node + 1))) (ap (λ m. set c.loop-arc.self.nodes.items m (Some (c.loop-arc.self.last_node + 1))) to))

pub loop-arc-preserved : goal.loop-arc-preserved
loop-arc-preserved c = λ c0 x0.
    let (d, x, k) = c.loop-arc.invariant c0 x0 in
    let within = to_within c.args.end.now.machine.state.graph c.loop-arc.self c.loop-arc.arc d x c.edge-edge.result.now c.edge-edge.ensures in
    let to = ap (λ (a : Arc). a.to) c.edge.view_is in
    let is = none_of c.index.result.now (sym c.is_some.ensures ∙ c.if-is_some.false) in
    let here = subst (λ k. table_of c.loop-arc.self.nodes.items k ≡ c.index.result.now) to (some_read c.loop-arc.self.nodes.items c.edge.inside.to c.index.result.now (omega (arith, to, within)) c.index.ensures) in
    let e = c.in_ok-add_arc-2.ensures in
    let (r, y, l) = chain_left c.args.end.now.machine.state.graph c.loop-arc.self c.loop-arc.arc d x c.edge-edge.result.now c.edge-edge.ensures c.add_arc-in-loop-arc.new.self (here ∙ is)
    (set c.loop-arc.self.nodes.items c.edge.inside.to (Some (c.loop-arc.self.last_node + 1))) (ap (λ m. set c.loop-arc.self.nodes.items m (Some (c.loop-arc.self.last_node + 1))) to)
    (record { arcs = e.arcs; edges = e.edges; origins = e.origins; nodes = e.nodes; last_node = e.last_node; placed = e.placed }) in
    (r, y, λ n z. k n (l n z))

pub returns : goal.returns
returns c = λ c0 x0.
    let (d, x, k) = c.loop-arc.invariant c0 x0 in
    let w = x.within in
    absurd (omega (arith, w, c.loop-arc-test.false, c.arcs-arc-end.ensures))
