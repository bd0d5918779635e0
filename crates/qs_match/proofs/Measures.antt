-- How many steps the search takes at most: two for each cell of the patterns, since a node opens a list and leaves one, and
-- one for the end of each list.
use Rattle.std.proofs.Common.{ℕ, ◌+◌, ◌*◌, [], ◌∷◌}
use Rattle.qs_pattern.specs.Patterns.{Patterns, cells}
use Rattle.qs_match.specs.working.Tasks.{Tasks}

abbrev pub list_steps : Patterns → ℕ
list_steps ps = 2 * cells ps + 1

abbrev pub steps : Tasks → ℕ
steps [] = 0
steps (w ∷ ws) = list_steps w.0 + steps ws
