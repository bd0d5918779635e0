-- Trees that patterns can't stand for. (This project.)
use Rattle.std.specs.Prelude.{◌≡◌, List}
use Rattle.qs_tree.specs.Trees.{Tree}
use Rattle.qs_pattern.specs.Patterns.{Patterns}
use Rattle.qs_pattern.specs.Substitutions.{Substitution}
use Rattle.qs_pattern.specs.Instances.{inst, IsCovered}

-- Under no substitution that gives each variable of the patterns a value of its class do they stand for these trees.
abbrev pub NeverStandsFor : Patterns → List Tree → Type 0
NeverStandsFor side trees = (s : Substitution) → IsCovered s side → inst s side ≡ trees → ⊥
