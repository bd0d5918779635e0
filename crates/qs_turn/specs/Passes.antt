-- What contracts see of a `Turns`, of its passes and of a value that is held.
use Rattle.std.specs.Prelude.{◌≡◌, ℕ, Option, Some, List, slice_get}
use Rattle.qs_turn.specs.declared.told.Told.{Ghosts}
use Rattle.qs_turn.specs.declared.turns.Pass.{Pass}
use Rattle.qs_turn.specs.declared.turns.Turns.{Turns}
use Rattle.qs_turn.specs.Protocol.{first_pass_count, first_base, first_seen, first_turns}
use Rattle.qs_turn.specs.Seats.{IsIdle, IsServed}

-- How many passes `open` gave.
abbrev pub passes_of : {T E : Type 0} → Turns T E → ℕ
passes_of t = t.table.shared.key.passes

-- The value with which the turns were opened.
abbrev pub opened_value : {T E : Type 0} → Turns T E → T
opened_value t = t.table.shared.key.value.value

module _ {T E : Type 0} {g : Ghosts T E} where
  -- `open` gave the pass with these turns.
  abbrev pub IsPassOf : Turns T E → Pass T E g → Type 0
  IsPassOf t p = (p.seat.table_id ≡ t.table.shared.table_id) × (first_pass_count p.seat.me.0.known ≡ passes_of t)

  -- The number of a pass.
  abbrev pub number_of : Pass T E g → ℕ
  number_of p = p.number

  -- The history that a pass has seen.
  abbrev pub seen_of : Pass T E g → List E
  seen_of p = first_seen p.seat.me.0.known

  -- How many turns a pass has taken.
  abbrev pub turns_of : Pass T E g → ℕ
  turns_of p = first_turns p.seat.me.0.known

  -- The base that a pass knows. It is never None.
  abbrev pub base_of : {C : Type 0} → (T → C) → Pass T E g → Option C
  base_of base p = first_base base p.seat.me.0.known

  -- This is the base that the pass knows.
  abbrev pub KnowsBase : {C : Type 0} → (T → C) → Pass T E g → C → Type 0
  KnowsBase base p b = base_of base p ≡ Some b

  -- The pass holds no turn.
  abbrev pub HoldsNoTurn : Pass T E g → Type 0
  HoldsNoTurn p = IsIdle p.seat

  -- The pass holds a turn: `enter` gave the value for it, and `leave` hasn't taken it back.
  abbrev pub HoldsTurn : Pass T E g → Type 0
  HoldsTurn p = IsServed p.seat

  -- The number of the pass and the base that it knows stay.
  abbrev pub IsSamePass : {C : Type 0} → (T → C) → Pass T E g → Pass T E g → Type 0
  IsSamePass base old new = (number_of new ≡ number_of old) × (base_of base new ≡ base_of base old)

  -- A pass of these turns that has taken no turn yet: its number, the base that it knows, and the history that it has
  -- seen.
  pub record IsNewPass {C : Type 0} (base : T → C) (t : Turns T E) (b : C) (history : List E) (n : ℕ)
      (p : Pass T E g) : Type 0 where
    pub own : IsPassOf t p
    pub idle : HoldsNoTurn p
    pub number : number_of p ≡ n
    pub base_known : KnowsBase base p b
    pub seen : seen_of p ≡ history
    pub turns : turns_of p ≡ 0

  -- New passes, numbered from 0 in order.
  abbrev pub AreNewPasses : {C : Type 0} → (T → C) → Turns T E → C → List E → List (Pass T E g) → Type 0
  AreNewPasses base t b history ps = (i : ℕ) (p : Pass T E g) → slice_get ps i ≡ Some p → IsNewPass base t b history i p
