-- What a seat knows. A seat is what a thread steps with. It stands for one pass; for several before they are dealt and
-- as they come back; for none once another seat took it in.
use Rattle.std.specs.Prelude.{ℕ, List, [], ◌∷◌, Option, Some, None}
use Rattle.std.specs.Option.{option_map}
use Rattle.qs_turn.specs.declared.protocol.PassView.{PassView}

module _ {S E : Type 0} where
  -- What the first pass knows: its number, ..
  abbrev pub first_number : List (PassView S E) → ℕ
  first_number [] = 0
  first_number (k ∷ ks) = k.number

  -- .. how many passes were made, ..
  abbrev pub first_pass_count : List (PassView S E) → ℕ
  first_pass_count [] = 0
  first_pass_count (k ∷ ks) = k.pass_count

  -- .. a value with the base, ..
  abbrev pub first_origin : List (PassView S E) → Option S
  first_origin [] = None
  first_origin (k ∷ ks) = Some k.origin

  -- .. the base, ..
  abbrev pub first_base : {C : Type 0} → (S → C) → List (PassView S E) → Option C
  first_base base known = option_map base (first_origin known)

  -- .. the history that it has seen, ..
  abbrev pub first_seen : List (PassView S E) → List E
  first_seen [] = []
  first_seen (k ∷ ks) = k.seen

  -- .. and its number of turns.
  abbrev pub first_turns : List (PassView S E) → ℕ
  first_turns [] = 0
  first_turns (k ∷ ks) = k.turns
