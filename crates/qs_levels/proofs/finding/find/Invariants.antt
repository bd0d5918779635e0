use Rattle.std.proofs.Common.{◌≡◌, ◌+◌, take, length}
use Rattle.qs_levels.specs.Certificates.{greatest_level}
use Rattle.qs_levels.proofs.Levelled.{levelled}
use Rattle.qs_levels.proofs.finding.find.Given as goal

abbrev pub invariant-loop-place : goal.invariant-loop-place
invariant-loop-place l =
    (l.of.items ≡ levelled l.nodes.items (length l.rules) (take l.place l.label-items)) × (l.count ≡ greatest_level l.of.items + 1)
