use Rattle.std.proofs.Common.{◌≡◌, ◌++◌, take}
use Rattle.std.specs.Prelude.{flat_map}
use Rattle.qs_explain.specs.Texts.{firing_comment}
use Rattle.qs_explain.proofs.writing.append_firings.Given as goal

abbrev pub invariant-loop-place : goal.invariant-loop-place
invariant-loop-place l = l.out.items ≡ l.initial.out.items ++ flat_map (firing_comment l.closure.stage) (take l.place-index l.places)
