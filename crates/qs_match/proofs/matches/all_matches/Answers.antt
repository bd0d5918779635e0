use Rattle.qs_tree.specs.Cells.{trees_of}
use Rattle.qs_pattern.specs.Patterns.{patterns}
use Rattle.qs_pattern.specs.Instances.{IsMatch}
use Rattle.qs_match.specs.working.Tasks.{Lists}
use Rattle.qs_match.proofs.Variants.{tasks-Nothing, substitution-Nothing}
use Rattle.qs_match.proofs.Variables.{found_matches, no_matches}
use Rattle.qs_match.proofs.matches.all_matches.Goals as goal

found : (c : goal.In_ok-search) → Lists (IsMatch (patterns c.args.side.now) (trees_of c.args.trees.cells.now)) c.search.new.found.items
found c =
    found_matches (patterns c.args.side.now) (trees_of c.args.trees.cells.now) _ _ c.new-found.result.items c.search.new.found.items tasks-Nothing substitution-Nothing c.new-found.ensures.items c.in_ok-search.ensures

pub returns-clause-sound : goal.returns-clause-sound
returns-clause-sound c = (found c).sound

pub returns-clause-all : goal.returns-clause-all
returns-clause-all c = (found c).all

pub returns-then-not-can_fit-clause-sound : goal.returns-then-not-can_fit-clause-sound
returns-then-not-can_fit-clause-sound c =
    (no_matches (patterns c.args.side.now) (trees_of c.args.trees.cells.now) c.requires.in_class (λ r. let f = c.if-not-can_fit.true in let k = c.can_fit.ensures.1 r in cc)
    c.new-found.result.items c.new-found.ensures.items).sound

pub returns-then-not-can_fit-clause-all : goal.returns-then-not-can_fit-clause-all
returns-then-not-can_fit-clause-all c =
    (no_matches (patterns c.args.side.now) (trees_of c.args.trees.cells.now) c.requires.in_class (λ r. let f = c.if-not-can_fit.true in let k = c.can_fit.ensures.1 r in cc)
    c.new-found.result.items c.new-found.ensures.items).all
