-- Rules that have the mark of their grammar. (This project.)
use Rattle.std.specs.Prelude.{◌≡◌, Bool, List}
use Rattle.qs_tree.specs.Lists.{◌∈◌}
use Rattle.qs_pattern.specs.Rules.{Rule}

-- Each of these rules has this mark.
abbrev pub HaveMark : Bool → List Rule → Type 0
HaveMark unique rules = (rule : Rule) → rule ∈ rules → rule.unique ≡ unique
