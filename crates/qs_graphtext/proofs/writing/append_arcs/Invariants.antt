use Rattle.std.proofs.Common.{◌≡◌, ◌++◌, take}
use Rattle.std.specs.Prelude.{flat_map}
use Rattle.qs_graphtext.specs.Texts.{arc_line}
use Rattle.qs_graphtext.proofs.writing.append_arcs.Given as goal

abbrev pub invariant-loop-arc : goal.invariant-loop-arc
invariant-loop-arc l = l.out.items ≡ l.initial.out.items ++ flat_map (arc_line l.names) (take l.arc-index l.arcs)
