-- What private functions promise of a seat: it waits with a ticket, has taken the value, and gives the value back.
use Rattle.std.specs.Prelude.{◌≡◌, ℕ, ◌%◌, ◌^◌, ◌+◌, ◌-◌, ◌<◌, Option, Some, IfSome, List, [], ◌∷◌, length}
use Rattle.qs_turn.specs.declared.protocol.Stage.TheVariants.{Waiting, Served}
use Rattle.qs_turn.specs.History.{ContinuedByOthers, followed_by}
use Rattle.qs_turn.specs.Protocol.{first_number, first_pass_count, first_base, first_seen, first_turns}
use Rattle.qs_turn.specs.Seats.{TurnSeat, IsServed}

module _ {T E : Type 0} where
  -- The same seat of the same table.
  abbrev pub IsSameSeat : TurnSeat T E → TurnSeat T E → Type 0
  IsSameSeat old new = (new.table_id ≡ old.table_id) × (new.id ≡ old.id)

  -- It stands for one pass and waits with a ticket, which is this one modulo 2^64.
  abbrev pub IsWaiting : TurnSeat T E → ℕ → Type 0
  IsWaiting seat ticket = ((k : ℕ) × (ticket ≡ k % 2 ^ 64) × (seat.me.0.stage ≡ Waiting k))
      × (length seat.me.0.known ≡ 1) × (seat.me.1 ≡ [])

  -- It has taken the value. The value has the base that its pass knows and stands for all that the pass has now seen,
  -- in one turn more. What is new was entered by other passes.
  pub record HasTaken {C : Type 0} (base : T → C) (history_of : T → List E) (pass_of : E → ℕ) (old new : TurnSeat T E)
      (value : T) : Type 0 where
    pub served : IsServed new
    pub one : length new.me.0.known ≡ 1
    pub same_number : first_number new.me.0.known ≡ first_number old.me.0.known
    pub same_count : first_pass_count new.me.0.known ≡ first_pass_count old.me.0.known
    pub same_base : first_base base new.me.0.known ≡ first_base base old.me.0.known
    pub one_more : first_turns new.me.0.known ≡ first_turns old.me.0.known + 1
    pub whole : history_of value ≡ first_seen new.me.0.known
    pub based : first_base base new.me.0.known ≡ Some (base value)
    pub others : ContinuedByOthers pass_of (first_pass_count old.me.0.known) (first_number old.me.0.known)
        (first_seen old.me.0.known) (first_seen new.me.0.known)

  -- The slot has a value again, which stands for what the pass has seen, followed by the entry where there is one. The
  -- entry names the pass.
  abbrev pub IsGivingBack : (T → List E) → (E → ℕ) → TurnSeat T E → Option E → Type 0
  IsGivingBack history_of pass_of seat entry = (x : T) × (k : ℕ)
      × (seat.me.0.stage ≡ Served k) × (length seat.me.0.known ≡ 1) × (seat.me.1 ≡ (0, Some x) ∷ [])
      × (history_of x ≡ followed_by (first_seen seat.me.0.known) entry)
      × IfSome entry (λ e. pass_of e ≡ first_number seat.me.0.known) × (length (history_of x) < 2 ^ 64 - 1)
