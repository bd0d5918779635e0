-- Which written grammars pass the checks, and what the first fault is in those that don't.
use Rattle.std.specs.Prelude.{◌≡◌, ℕ, ◌≤◌, List, ◌∷◌, ◌++◌, length, Some, slice_get}
use Rattle.std.specs.List.{All}
use Rattle.qs_lex.specs.declared.refusal.Cause.{Cause}
use Rattle.qs_lex.specs.declared.refusal.Cause.TheVariants.{TooManySystems}
use Rattle.qs_pattern.specs.Rules.{IsAcceptable}
use Rattle.qs_ruletext.specs.WrittenRules.{WrittenRule}
use Rattle.qs_check.specs.declared.checking.CheckEnd.TheVariants.{Refused}
use Rattle.qs_check.specs.Checking.{EndsWith}
use Rattle.qs_deck.specs.Limits.{most_systems}
use Rattle.qs_deck.specs.WrittenDecks.{WrittenSystem, rules_of}

-- There are at most `most_systems` systems, and each rule is accepted.
pub record IsChecked (systems : List WrittenSystem) : Type 0 where
  pub few : length systems ≤ most_systems
  pub accepted : All (λ raw. IsAcceptable raw.rule) (rules_of systems)

-- The first fault and its byte: the word -SYSTEME- of the 257th system; or, where there are no more than 256, the first
-- cause why the first rule that isn't accepted isn't.
pub data IsCheckFault (systems : List WrittenSystem) : ℕ → Cause → Type 0 where
  too_many_systems : (system : WrittenSystem) → slice_get systems most_systems ≡ Some system
      → IsCheckFault systems system.at TooManySystems
  rule_not_accepted : (front behind : List WrittenRule) (raw : WrittenRule) {at : ℕ} {cause : Cause}
      → length systems ≤ most_systems → rules_of systems ≡ front ++ raw ∷ behind → All (λ r. IsAcceptable r.rule) front
      → EndsWith raw (Refused cause at) → IsCheckFault systems at cause
