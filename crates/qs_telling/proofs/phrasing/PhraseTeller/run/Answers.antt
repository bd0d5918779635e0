use Rattle.std.proofs.Common.{List, length, ap, subst, arith}
use Rattle.std.proofs.lemmas.List.{length-map}
use Rattle.qs_pattern.specs.Rules.{Rule}
use Rattle.qs_cascade.specs.Stages.{IsStageEnd, MakesNoLabels}
use Rattle.qs_deck.specs.declared.system.System.{System}
use Rattle.qs_telling.proofs.PhraseRuns.{ready_at, run_arcs, run_nodes, run_empty, run_over, run_further, run_can_go_on, run_to_end}
use Rattle.qs_telling.proofs.phrasing.PhraseTeller.run.Goals as goal

pub loop-grammar-init : goal.loop-grammar-init
loop-grammar-init g c = ((λ ending last o. o), c.requires.can_go_on)

pub stage_by-requires-clause-can_run : goal.stage_by-requires-clause-can_run
stage_by-requires-clause-can_run g c =
    let (system, is, low, same) = ready_at c.args.self.now.systems.now c.args.self.now.grammars.now c.requires.ready c.loop-grammar.grammar-index c.grammar-item.result c.grammar-item.is c.loop-grammar-test.true in
    let arcs = run_arcs c.args.self.now.limit c.args.self.now.names.now c.args.self.now.systems.now c.args.start c.loop-grammar.graph c.loop-grammar.grammar-index system
    is low c.requires.accepted c.loop-grammar.invariant.0 c.loop-grammar.invariant.1 c.requires.limit.high in
    let nodes = run_nodes c.args.self.now.limit c.args.self.now.names.now c.args.self.now.systems.now c.args.start c.loop-grammar.graph c.loop-grammar.grammar-index system
    is low c.requires.accepted c.loop-grammar.invariant.0 c.loop-grammar.invariant.1 c.requires.limit.high in
    record { some = c.requires.limit.low; arcs = omega (arith, arcs); nodes = omega (arith, nodes) }

pub returns-in-Empty-clause-end : goal.returns-in-Empty-clause-end
returns-in-Empty-clause-end g c =
    let (system, is, low, same) = ready_at c.args.self.now.systems.now c.args.self.now.grammars.now c.requires.ready c.loop-grammar.grammar-index c.grammar-item.result c.grammar-item.is c.loop-grammar-test.true in
    run_empty c.args.self.now.limit c.args.self.now.names.now c.args.self.now.systems.now c.args.start c.loop-grammar.graph c.loop-grammar.grammar-index system
    is low c.requires.accepted c.loop-grammar.invariant.0 c.loop-grammar.invariant.1
    c.in_ok-end.end (subst (λ (rules : List Rule). IsStageEnd rules c.loop-grammar.graph c.args.self.now.limit c.in_ok-end.end) same c.in_ok-end.ensures.end)
    c.in-Empty.firings c.in-Empty.is

pub returns-in-Over-clause-end : goal.returns-in-Over-clause-end
returns-in-Over-clause-end g c =
    let (system, is, low, same) = ready_at c.args.self.now.systems.now c.args.self.now.grammars.now c.requires.ready c.loop-grammar.grammar-index c.grammar-item.result c.grammar-item.is c.loop-grammar-test.true in
    run_over c.args.self.now.limit c.args.self.now.names.now c.args.self.now.systems.now c.args.start c.loop-grammar.graph c.loop-grammar.grammar-index system
    is low c.requires.accepted c.loop-grammar.invariant.0 c.loop-grammar.invariant.1
    c.in_ok-end.end (subst (λ (rules : List Rule). IsStageEnd rules c.loop-grammar.graph c.args.self.now.limit c.in_ok-end.end) same c.in_ok-end.ensures.end)
    c.in-Over.is

pub loop-grammar-preserved : goal.loop-grammar-preserved
loop-grammar-preserved g c =
    let (system, is, low, same) = ready_at c.args.self.now.systems.now c.args.self.now.grammars.now c.requires.ready c.loop-grammar.grammar-index c.grammar-item.result c.grammar-item.is c.loop-grammar-test.true in (
      run_further c.args.self.now.limit c.args.self.now.names.now c.args.self.now.systems.now c.args.start c.loop-grammar.graph c.loop-grammar.grammar-index system
          is low c.requires.accepted c.loop-grammar.invariant.0 c.loop-grammar.invariant.1
          c.in_ok-end.end (subst (λ (rules : List Rule). IsStageEnd rules c.loop-grammar.graph c.args.self.now.limit c.in_ok-end.end) same c.in_ok-end.ensures.end)
          c.in-Left.left c.in-Left.firings c.in-Left.is,
      run_can_go_on c.args.self.now.limit c.args.self.now.names.now c.args.self.now.systems.now c.args.start c.loop-grammar.graph c.loop-grammar.grammar-index system
          is low c.requires.accepted c.loop-grammar.invariant.0 c.loop-grammar.invariant.1
          c.in_ok-end.end (subst (λ (rules : List Rule). IsStageEnd rules c.loop-grammar.graph c.args.self.now.limit c.in_ok-end.end) same c.in_ok-end.ensures.end)
          c.in-Left.left c.in-Left.firings c.in-Left.is c.requires.limit.high c.requires.named c.in_ok-end.ensures.grows
          (subst (λ (rules : List Rule). MakesNoLabels rules c.loop-grammar.graph c.in_ok-end.end) same c.in_ok-end.ensures.labels),
    )

pub returns-clause-end : goal.returns-clause-end
returns-clause-end g c =
    run_to_end c.args.self.now.limit c.args.self.now.systems.now c.loop-grammar.grammar-index c.args.start c.loop-grammar.graph
    (omega (
      arith,
      c.loop-grammar-test.false,
      ap (λ (ready : List (List Rule)). length ready) c.requires.ready,
      length-map c.args.self.now.systems.now (λ (system : System). system.rules.items),
    ))
    c.loop-grammar.invariant.0

pub returns-clause-named : goal.returns-clause-named
returns-clause-named g c = c.loop-grammar.invariant.1.named
