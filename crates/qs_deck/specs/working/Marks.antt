-- That the fact of Marks.antt has one proof at most, as a type has to have of what it keeps.
use Rattle.std.specs.Prelude.{Bool, List}
use Rattle.std.specs.Coded.{Coded-set, coded_bool}
use Rattle.qs_pattern.specs.Rules.{Rule}
use Rattle.qs_deck.specs.Marks.{HaveMark}

pub HaveMark-prop : (unique : Bool) (rules : List Rule) → IsProp (HaveMark unique rules)
HaveMark-prop unique rules =
    λ x y i rule among. Coded-set coded_bool rule.unique unique (x rule among) (y rule among) i
