use Rattle.std.proofs.Common.{[], refl}
use Rattle.qs_pattern.specs.Patterns.{patterns}
use Rattle.qs_pattern.specs.Instances.{IsMatch}
use Rattle.qs_match.specs.Apart.{trees_apart}
use Rattle.qs_match.specs.working.Tasks.{Lists}
use Rattle.qs_match.proofs.Variants.{tasks-Nothing}
use Rattle.qs_match.proofs.Variables.{found_matches}
use Rattle.qs_match.proofs.apart.all_matches_apart.Goals as goal

found : (c : goal.In_ok-search_apart) → Lists (IsMatch (patterns c.args.side.now) (trees_apart c.args.trees.now)) c.search_apart.new.found.items
found c =
    found_matches (patterns c.args.side.now) (trees_apart c.args.trees.now) _ [] c.new-found.result.items c.search_apart.new.found.items tasks-Nothing refl c.new-found.ensures.items c.in_ok-search_apart.ensures

pub returns-clause-sound : goal.returns-clause-sound
returns-clause-sound c = (found c).sound

pub returns-clause-all : goal.returns-clause-all
returns-clause-all c = (found c).all

pub returns-clause-ascending : goal.returns-clause-ascending
returns-clause-ascending c = (found c).ascends
