-- The order of the matches of a side. (This project.)
use Rattle.std.specs.Prelude.{◌≡◌}
use Rattle.std.specs.Ordering.{nat_cmp}
use Rattle.std.specs.Cmp.Lexicographic.{slice_cmp}
use Rattle.std.specs.declared.cmp.Ordering.TheVariants.{Less}
use Rattle.qs_pattern.specs.Substitutions.{Substitution, forest_lengths}

-- The lengths of the forest variables' values, in order of first occurrence, come before those of the other
-- substitution in dictionary order.
abbrev pub LengthsBefore : Substitution → Substitution → Type 0
LengthsBefore s r = slice_cmp nat_cmp (forest_lengths s) (forest_lengths r) ≡ Less
