use Rattle.std.proofs.Common.{◌≡◌, ◌++◌, take}
use Rattle.std.specs.Prelude.{flat_map}
use Rattle.qs_explain.specs.Texts.{arc_comment}
use Rattle.qs_explain.proofs.writing.append_arcs.Given as goal

abbrev pub invariant-loop-arc : goal.invariant-loop-arc
invariant-loop-arc l = l.out.items ≡ l.initial.out.items ++ flat_map (arc_comment l.names l.closure.stage) (take l.arc-index l.arcs)
