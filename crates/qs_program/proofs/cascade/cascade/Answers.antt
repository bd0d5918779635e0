use Rattle.std.proofs.Common.{map, refl, arith}
use Rattle.qs_deck.specs.Decks.{grammar_of}
use Rattle.qs_telling.specs.working.Telling.{Begins, Tells}
use Rattle.qs_program.proofs.GoingOn.{come_first, turn_arcs, turn_nodes, turn_named, turn_without_memory, turn_failed, turn_empty, turn_over, turn_further, turn_can_go_on, at_end}
use Rattle.qs_program.proofs.cascade.cascade.Goals as goal

pub loop-system-init : goal.loop-system-init
loop-system-init g c = (
  come_first (Tells c.args.teller.now.telling c.args.teller.now.limit c.args.teller.now.names.now c.args.start (map grammar_of c.args.systems.now))
      (Begins c.args.teller.now.telling c.args.teller.now.limit c.args.teller.now.names.now c.args.start (map grammar_of c.args.systems.now)) _,
  c.requires.can_go_on,
  refl,
)

pub tell-requires-clause-can_tell : goal.tell-requires-clause-can_tell
tell-requires-clause-can_tell g c =
    let named = turn_named c.args.teller.now.telling c.args.teller.now.limit c.args.teller.now.names.now c.args.systems.now c.args.start _ _ c.loop-system.graph c.loop-system.system-index c.system-item.result
    c.system-item.is c.loop-system-test.true c.requires.accepted c.loop-system.invariant.0 c.loop-system.invariant.1 c.requires.named in
    let arcs = turn_arcs c.args.teller.now.telling c.args.teller.now.limit c.args.teller.now.names.now c.args.systems.now c.args.start _ _ c.loop-system.graph c.loop-system.system-index c.system-item.result
    c.system-item.is c.loop-system-test.true c.requires.accepted c.loop-system.invariant.0 c.loop-system.invariant.1 c.requires.limit.high in
    let nodes = turn_nodes c.args.teller.now.telling c.args.teller.now.limit c.args.teller.now.names.now c.args.systems.now c.args.start _ _ c.loop-system.graph c.loop-system.system-index c.system-item.result
    c.system-item.is c.loop-system-test.true c.requires.accepted c.loop-system.invariant.0 c.loop-system.invariant.1 c.requires.limit.high in
    record {
      limit = c.requires.limit;
      can_run = record { some = c.requires.limit.low; arcs = omega (arith, arcs); nodes = omega (arith, nodes) };
      named = named.name;
      rules_named = λ rule i. (named.rules rule i).right;
      arcs_named = c.loop-system.invariant.1.named;
    }

pub returns-in_default-clause-delivers : goal.returns-in_default-clause-delivers
returns-in_default-clause-delivers g c =
    turn_without_memory c.args.teller.now.telling c.args.teller.now.limit c.args.teller.now.names.now c.args.systems.now c.args.start _ _ c.loop-system.graph c.loop-system.system-index c.system-item.result
    c.system-item.is c.loop-system-test.true c.requires.accepted c.loop-system.invariant.0 c.loop-system.invariant.1

pub returns-in_default-write_all-clause-delivers : goal.returns-in_default-write_all-clause-delivers
returns-in_default-write_all-clause-delivers g c =
    turn_failed c.args.teller.now.telling c.args.teller.now.limit c.args.teller.now.names.now c.args.systems.now c.args.start _ _ c.loop-system.graph c.loop-system.system-index c.system-item.result
    c.system-item.is c.loop-system-test.true c.requires.accepted c.loop-system.invariant.0 c.loop-system.invariant.1
    c.in-Ok.told.end c.in-Ok.ensures.stage.end c.in-Ok.told.text.items c.in-Ok.ensures.told _ c.deref.result.now c.deref.ensures.value c.in_default-write_all.ensures.prefix

pub returns-in-Empty-clause-delivers : goal.returns-in-Empty-clause-delivers
returns-in-Empty-clause-delivers g c =
    turn_empty c.args.teller.now.telling c.args.teller.now.limit c.args.teller.now.names.now c.args.systems.now c.args.start _ _ c.loop-system.graph c.loop-system.system-index c.system-item.result
    c.system-item.is c.loop-system-test.true c.requires.accepted c.loop-system.invariant.0 c.loop-system.invariant.1
    c.in-Ok.told.end c.in-Ok.ensures.stage.end c.in-Ok.told.text.items c.in-Ok.ensures.told _ c.deref.result.now c.deref.ensures.value c.in-Ok-write_all.ensures.bytes
    c.in-Empty.firings c.in-Empty.is

pub returns-in-Over-clause-delivers : goal.returns-in-Over-clause-delivers
returns-in-Over-clause-delivers g c =
    turn_over c.args.teller.now.telling c.args.teller.now.limit c.args.teller.now.names.now c.args.systems.now c.args.start _ _ c.loop-system.graph c.loop-system.system-index c.system-item.result
    c.system-item.is c.loop-system-test.true c.requires.accepted c.loop-system.invariant.0 c.loop-system.invariant.1
    c.in-Ok.told.end c.in-Ok.ensures.stage.end c.in-Ok.told.text.items c.in-Ok.ensures.told _ c.deref.result.now c.deref.ensures.value c.in-Ok-write_all.ensures.bytes
    c.in-Over.is

pub loop-system-preserved : goal.loop-system-preserved
loop-system-preserved g c = (
  turn_further c.args.teller.now.telling c.args.teller.now.limit c.args.teller.now.names.now c.args.systems.now c.args.start _ _ c.loop-system.graph c.loop-system.system-index c.system-item.result
      c.system-item.is c.loop-system-test.true c.requires.accepted c.loop-system.invariant.0 c.loop-system.invariant.1
      c.in-Ok.told.end c.in-Ok.ensures.stage.end c.in-Ok.told.text.items c.in-Ok.ensures.told _ c.deref.result.now c.deref.ensures.value c.in-Ok-write_all.ensures.bytes
      c.in-Left.left c.in-Left.firings c.in-Left.is,
  turn_can_go_on c.args.teller.now.telling c.args.teller.now.limit c.args.teller.now.names.now c.args.systems.now c.args.start _ _ c.loop-system.graph c.loop-system.system-index c.system-item.result
      c.system-item.is c.loop-system-test.true c.requires.accepted c.loop-system.invariant.0 c.loop-system.invariant.1
      c.in-Ok.told.end c.in-Ok.ensures.stage.end c.in-Ok.told.text.items c.in-Ok.ensures.told c.in-Left.left c.in-Left.firings c.in-Left.is
      c.requires.limit.high c.requires.named c.in-Ok.ensures.stage.grows c.in-Ok.ensures.stage.labels,
  omega (arith, c.loop-system.invariant.2, c.in-Ok-write_all.ensures.no_fault),
)

pub returns-clause-delivers : goal.returns-clause-delivers
returns-clause-delivers g c =
    at_end c.args.teller.now.telling c.args.teller.now.limit c.args.teller.now.names.now c.args.systems.now c.args.start _ _ c.loop-system.graph c.loop-system.system-index c.loop-system-test.false c.loop-system.invariant.0
