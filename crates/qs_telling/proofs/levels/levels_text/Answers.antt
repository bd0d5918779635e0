use Rattle.std.proofs.Common.{List, subst}
use Rattle.qs_pattern.specs.Rules.{Rule}
use Rattle.qs_levels.specs.Certificates.{IsFound}
use Rattle.qs_telling.proofs.NextSystems.{among_all, next_system}
use Rattle.qs_telling.proofs.LevelsTold.{found_named, told_further, told_to_end}
use Rattle.qs_telling.proofs.levels.levels_text.Goals as goal

pub append_levels-requires-clause-name : goal.append_levels-requires-clause-name
append_levels-requires-clause-name c =
    (c.requires c.system-item.result (among_all c.args.systems.now c.loop-system.system-index c.system-item.result c.system-item.is c.loop-system-test.true)).name

pub append_levels-requires-clause-labels : goal.append_levels-requires-clause-labels
append_levels-requires-clause-labels c =
    found_named _ c.system-item.result.rules.items
    (c.requires c.system-item.result (among_all c.args.systems.now c.loop-system.system-index c.system-item.result c.system-item.is c.loop-system-test.true)).rules
    c.in_ok-found.found (subst (λ (rules : List Rule). IsFound rules c.in_ok-found.found) c.deref.ensures.value c.in_ok-found.ensures.found)

pub loop-system-preserved : goal.loop-system-preserved
loop-system-preserved c =
    told_further c.args.names.now c.args.systems.now c.loop-system.system-index c.system-item.result
    (next_system c.args.systems.now c.loop-system.system-index c.system-item.result c.system-item.is c.loop-system-test.true)
    c.loop-system.text.items c.loop-system.invariant c.in_ok-found.found
    (subst (λ (rules : List Rule). IsFound rules c.in_ok-found.found) c.deref.ensures.value c.in_ok-found.ensures.found)
    c.append_levels.new.out.items c.in_ok-append_levels.ensures

pub returns : goal.returns
returns c = told_to_end c.args.names.now c.args.systems.now c.loop-system.system-index c.loop-system-test.false c.loop-system.text.items c.loop-system.invariant
