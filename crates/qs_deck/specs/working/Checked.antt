-- No public contract cites this: how checking the grammars of a deck, one behind the other, ends.
use Rattle.std.specs.Prelude.{◌≡◌, ◌≤◌, ◌⊎◌, List, ◌∷◌, ◌++◌, length, Some, slice_get}
use Rattle.std.specs.List.{All}
use Rattle.qs_lex.specs.declared.refusal.Cause.TheVariants.{TooManySystems}
use Rattle.qs_pattern.specs.Rules.{IsAcceptable}
use Rattle.qs_ruletext.specs.WrittenRules.{WrittenRule}
use Rattle.qs_check.specs.declared.checking.CheckEnd.{CheckEnd}
use Rattle.qs_check.specs.declared.checking.CheckEnd.TheVariants.{Refused, Memory}
use Rattle.qs_check.specs.Checking.{EndsWith}
use Rattle.qs_deck.specs.Limits.{most_systems}
use Rattle.qs_deck.specs.WrittenDecks.{WrittenSystem, rules_of}

abbrev pub AreAccepted : List WrittenRule → Type 0
AreAccepted raws = All (λ raw. IsAcceptable raw.rule) raws

-- the rules in front of one are accepted, and that one is refused so
pub record IsFirstOf (raws : List WrittenRule) (end : CheckEnd) : Type 0 where
  pub front : List WrittenRule
  pub raw : WrittenRule
  pub behind : List WrittenRule
  pub are : raws ≡ front ++ raw ∷ behind
  pub accepted : AreAccepted front
  pub ends : EndsWith raw end

abbrev pub IsFirstRefused : List WrittenRule → CheckEnd → Type 0
IsFirstRefused raws (Refused cause at) = IsFirstOf raws (Refused cause at)
IsFirstRefused raws Memory = Unit {0}

-- there is a 257th system and this is its byte; or there is none, and a rule is refused so
abbrev pub IsFirstFault : List WrittenSystem → CheckEnd → Type 0
IsFirstFault systems (Refused cause at) =
    ((system : WrittenSystem) × (slice_get systems most_systems ≡ Some system) × (cause ≡ TooManySystems)
    × (at ≡ system.at))
    ⊎ ((length systems ≤ most_systems) × IsFirstOf (rules_of systems) (Refused cause at))
IsFirstFault systems Memory = Unit {0}
