use Rattle.qs_canon.specs.declared.numbers.Numbers.{Numbers}
use Rattle.qs_canon.specs.working.CanonChains.{Chain, IsUnnumbered, IsChainAdded}
use Rattle.qs_canon.proofs.numbers.Numbers.add_result.Given as goal

abbrev pub invariant-loop-arc : goal.invariant-loop-arc
invariant-loop-arc l =
    (c : Chain) → IsUnnumbered l.end.machine.state.graph l.initial.self l.initial.arc c
    → (d : Chain) × IsUnnumbered l.end.machine.state.graph l.self l.arc d × ((n : Numbers) → IsChainAdded l.arc d l.self n → IsChainAdded l.initial.arc c l.initial.self n)
