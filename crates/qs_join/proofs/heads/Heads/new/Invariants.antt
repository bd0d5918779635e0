use Rattle.std.proofs.Common.{◌≡◌, Option, take}
use Rattle.qs_tree.specs.Lists.{◌∈◌}
use Rattle.qs_tree.specs.declared.cell.Label.{Label}
use Rattle.qs_pattern.specs.Rules.{Rule, IsAccepted}
use Rattle.qs_join.specs.Heads.{asking_from}
use Rattle.qs_join.specs.working.Listing.{places_of}
use Rattle.qs_join.proofs.Below.{AreBelow}
use Rattle.qs_join.proofs.heads.Heads.new.Given as goal

abbrev pub invariant-loop-number : goal.invariant-loop-number
invariant-loop-number l = record {
  lists : (r : Option Label) → places_of l.heads r ≡ asking_from r 0 (take l.number l.rules);
  below : AreBelow l.rules l.number l.heads;
  accepted : (rule : Rule) → rule ∈ take l.number l.rules → IsAccepted rule;
}
