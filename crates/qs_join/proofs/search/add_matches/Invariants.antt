use Rattle.std.proofs.Common.{◌≡◌, List, ◌++◌}
use Rattle.qs_pattern.specs.Substitutions.{Substitution}
use Rattle.qs_join.specs.working.Matching.{HasValues}
use Rattle.qs_join.specs.working.Searching.{Finds}
use Rattle.qs_join.proofs.search.add_matches.Given as goal

abbrev pub invariant-loop-subst : goal.invariant-loop-subst
invariant-loop-subst l = record {
  seen : List Substitution;
  all : l.fn.matches.items ≡ seen ++ l.subst-iterator.rest.items;
  finds : Finds (HasValues l.search.number l.search.rule.now l.path seen) l.initial.found.items l.found.items;
}
