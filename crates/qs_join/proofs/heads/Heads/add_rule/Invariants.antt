use Rattle.std.proofs.Common.{◌≡◌, ◌≤◌, Option, ◌++◌, length, map, take}
use Rattle.qs_tree.specs.declared.cell.Label.{Label}
use Rattle.qs_pattern.specs.Patterns.{patterns}
use Rattle.qs_join.specs.Heads.{roots_asked, places_from}
use Rattle.qs_join.specs.working.Listing.{places_of}
use Rattle.qs_join.specs.working.Below.{Adds}
use Rattle.qs_join.proofs.Below.{IsUpTo, AsksUpTo}
use Rattle.qs_join.proofs.heads.Heads.add_rule.Given as goal

abbrev pub invariant-loop-place : goal.invariant-loop-place
invariant-loop-place l = record {
  places : (r : Option Label) → places_of l.self r ≡ places_of l.initial.self r ++ map (λ p. (l.number, p)) (places_from r 0 (roots_asked (patterns (take l.place l.pattern-items))));
  below : Adds (IsUpTo l.number l.place) (AsksUpTo l.number l.pattern-items l.place) l.initial.self l.self;
  within : l.place ≤ length l.pattern-items;
}
