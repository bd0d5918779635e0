-- The rule of the turns: what holds of the three words, of the slot and of what the seats know, whenever no step is
-- under way. Then what each step tells the seat that takes it.
--
-- The table of a `Turns` has the words of a ticket lock with a history. The ticket word is the next ticket, the serving
-- word is the ticket whose turn it is, and the history word counts the entries that turns have added. Tickets are
-- counted modulo 2^64. The one slot has the value while no pass holds a turn.
use Rattle.std.specs.Prelude.{◌≡◌, ◌==◌, ℕ, zero, suc, ◌+◌, ◌%◌, ◌^◌, ◌<◌, ◌≤◌, ◌⊎◌, if◌then◌else◌, List, [], ◌∷◌, ◌++◌}
use Rattle.std.specs.Prelude.{length, Option, Some, All, MatchBool}
use mathlib.Core.Option as opt
use lib.ListN.{get_elem?}
use Rattle.atomic_table.specs.Table.{State, Me, Step}
use Rattle.qs_turn.specs.declared.protocol.PassView.{PassView}
use Rattle.qs_turn.specs.declared.protocol.SeatView.{SeatView}
use Rattle.qs_turn.specs.declared.protocol.Stage.{Stage}
use Rattle.qs_turn.specs.declared.protocol.Stage.TheVariants.{Idle, Waiting, Served}
use Rattle.qs_turn.specs.History.{ContinuedByOthers}
use Rattle.qs_turn.specs.Protocol.{first_number, first_pass_count, first_base, first_seen, first_turns}

-- How many tickets a seat at this stage has drawn and not given up.
abbrev pub tickets_of : Stage → ℕ
tickets_of Idle = 0
tickets_of (Waiting k) = 1
tickets_of (Served k) = 1

-- A seat at this stage has the ticket k.
abbrev pub HasTicket : Stage → ℕ → Type 0
HasTicket Idle k = ⊥
HasTicket (Waiting j) k = j ≡ k
HasTicket (Served j) k = j ≡ k

-- The sum of f over a list.
abbrev pub total : {V : Type 0} → (V → ℕ) → List V → ℕ
total f [] = 0
total f (v ∷ vs) = f v + total f vs

abbrev pub one_if_same : ℕ → ℕ → ℕ
one_if_same a b = if a == b then 1 else 0

module _ {S E : Type 0} where
  abbrev pub seat_view : List (PassView S E) → Stage → SeatView S E
  seat_view known stage = record { known = known; stage = stage }

  -- What a pass knows: its number, how many passes were made, a value with the base, the history that it has seen, and
  -- how many turns it has taken.
  abbrev pub pass_view : ℕ → ℕ → S → List E → ℕ → PassView S E
  pass_view number pass_count origin seen turns =
      record { number = number; pass_count = pass_count; origin = origin; seen = seen; turns = turns }

  -- What `count` new passes know, numbered from `number` on. Each has seen this history and has taken no turn.
  abbrev pub new_views : ℕ → S → List E → ℕ → ℕ → List (PassView S E)
  new_views pass_count origin seen number zero = []
  new_views pass_count origin seen number (suc count) =
      pass_view number pass_count origin seen 0 ∷ new_views pass_count origin seen (suc number) count

  -- The view of the first seat, which stands for all passes.
  abbrev pub opening_view : S → List E → ℕ → SeatView S E
  opening_view origin seen passes = seat_view (new_views passes origin seen 0 passes) Idle

  -- A seat that stands for no pass.
  abbrev pub no_pass : SeatView S E
  no_pass = seat_view [] Idle

  abbrev pub without_first : List (PassView S E) → List (PassView S E)
  without_first [] = []
  without_first (k ∷ ks) = ks

  abbrev pub only_first : List (PassView S E) → List (PassView S E)
  only_first [] = []
  only_first (k ∷ ks) = k ∷ []

  -- A seat is split: it keeps its later passes, and a new seat has the first one.
  abbrev pub later_passes : SeatView S E → SeatView S E
  later_passes v = seat_view (without_first v.known) v.stage

  abbrev pub first_pass : SeatView S E → SeatView S E
  first_pass v = seat_view (only_first v.known) Idle

  -- Two seats are joined: the first stands for the passes of both.
  abbrev pub together : SeatView S E → SeatView S E → SeatView S E
  together v w = seat_view (w.known ++ v.known) v.stage

  -- The first pass has seen this history.
  abbrev pub having_seen : List E → List (PassView S E) → List (PassView S E)
  having_seen h [] = []
  having_seen h (k ∷ ks) = pass_view k.number k.pass_count k.origin h k.turns ∷ ks

  -- How many tickets are out with a seat.
  abbrev pub tickets_out : SeatView S E → ℕ
  tickets_out v = tickets_of v.stage

  -- How many passes a seat stands for.
  abbrev pub passes_in : SeatView S E → ℕ
  passes_in v = length v.known

  -- How many of these passes have this number.
  abbrev pub count_number : ℕ → List (PassView S E) → ℕ
  count_number number [] = 0
  count_number number (k ∷ ks) = one_if_same k.number number + count_number number ks

  abbrev pub times_in : ℕ → SeatView S E → ℕ
  times_in number v = count_number number v.known

module _ {S C E : Type 0} (base : S → C) (pass_of : E → ℕ) (one_base : C) (passes : ℕ) (history : List E) where
  -- What a pass knows is so. Its number is below that of the passes made, and it knows how many those are. It knows
  -- the one base. It has seen a beginning of the one history, and each entry behind that names another pass.
  pub record IsRight (k : PassView S E) : Type 0 where
    pub numbered : k.number < passes
    pub counted : k.pass_count ≡ passes
    pub based : base k.origin ≡ one_base
    pub begun : ContinuedByOthers pass_of passes k.number k.seen history

  abbrev pub AreRight : List (PassView S E) → Type 0
  AreRight [] = Unit {0}
  AreRight (k ∷ ks) = IsRight k × AreRight ks

-- The slot is at home, with this value in it.
abbrev pub IsHome : {S : Type 0} → List (opt.Option (Option S)) → S → Type 0
IsHome homes x = homes ≡ opt.some (Some x) ∷ []

-- The slot is out with a seat.
abbrev pub IsOut : {S : Type 0} → List (opt.Option (Option S)) → Type 0
IsOut homes = homes ≡ opt.none ∷ []

module _ {S E : Type 0} (drawn served : ℕ) (history : List E) (homes : List (opt.Option (Option S))) where
  -- A seat that waits stands for one pass, and its ticket is one of those out. A seat that is served stands for one
  -- pass, has the ticket that the serving word says, and has seen the one history whole; the slot is out.
  abbrev pub StageFits : Stage → List (PassView S E) → Type 0
  StageFits Idle known = Unit {0}
  StageFits (Waiting k) known = (served ≤ k) × (k < drawn) × (length known ≡ 1)
  StageFits (Served k) known =
      (k ≡ served) × (served < drawn) × (length known ≡ 1) × (first_seen known ≡ history) × IsOut homes

module _ {S C E : Type 0} (base : S → C) (history_of : S → List E) (pass_of : E → ℕ) (one_base : C) (opened : List E)
    (passes : ℕ) where
  -- The value is at home, has the one base and stands for the one history; or it is out, and some seat is served.
  abbrev pub IsPlaced : List E → List (opt.Option (Option S)) → List (SeatView S E) → Type 0
  IsPlaced history homes views =
      ((x : S) × IsHome homes x × (history_of x ≡ history) × (base x ≡ one_base))
      ⊎ (IsOut homes
      × ((seat : ℕ) × (v : SeatView S E) × (k : ℕ) × (get_elem? views seat ≡ opt.some v) × (v.stage ≡ Served k)))

  -- The rule. `opened` is the history of the opening, and `passes` is how many passes were made.
  pub record TurnRule (s : State (Option S) (SeatView S E)) : Type 0 where
    -- the one history, how many tickets were drawn, how many turns are over, and how many entries were added
    pub history : List E
    pub drawn : ℕ
    pub served : ℕ
    pub entered : ℕ
    -- the ticket word, the serving word and the history word
    pub words_are : s.words ≡ drawn % 2 ^ 64 ∷ served % 2 ^ 64 ∷ entered ∷ []
    -- the one history is that of the opening, followed by as many entries as the history word says; each of these names
    -- a pass that was made
    pub begins : (added : List E) × (history ≡ opened ++ added) × (length added ≡ entered)
        × All (λ e. pass_of e < passes) added
    -- where the value is
    pub placed : IsPlaced history s.homes s.views
    -- what each pass knows
    pub each_right : (seat : ℕ) (v : SeatView S E) → get_elem? s.views seat ≡ opt.some v
        → AreRight base pass_of one_base passes history v.known
    -- the stage of each seat
    pub each_stage : (seat : ℕ) (v : SeatView S E) → get_elem? s.views seat ≡ opt.some v
        → StageFits drawn served history s.homes v.stage v.known
    -- each ticket from the serving number up to the ticket word, which is left out, is out with a seat
    pub each_out : (k : ℕ) → served ≤ k → k < drawn
        → (seat : ℕ) × (v : SeatView S E) × (get_elem? s.views seat ≡ opt.some v) × HasTicket v.stage k
    -- and with one seat only
    pub one_each : (i j k : ℕ) (v w : SeatView S E) → get_elem? s.views i ≡ opt.some v
        → get_elem? s.views j ≡ opt.some w
        → HasTicket v.stage k → HasTicket w.stage k → i ≡ j
    -- so many tickets are out
    pub count_out : served + total tickets_out s.views ≡ drawn
    -- the seats stand for all passes, whose numbers differ
    pub all_passes : total passes_in s.views ≡ passes
    pub all_differ : (number : ℕ) → total (times_in number) s.views ≤ 1
    -- there are fewer passes than tickets modulo 2^64
    pub few : passes < 2 ^ 32

-- A seat's view, and the slots that are out with it.
abbrev SeatState : Type 0 → Type 0 → Type 0
SeatState S E = Me (Option S) (SeatView S E)

module _ {S E : Type 0} where
  -- A ticket was drawn, whose number modulo 2^64 was found.
  abbrev pub Draws : Step (Option S) → SeatState S E → ℕ → SeatState S E → Type 0
  Draws step before found after =
      (k : ℕ) × (found ≡ k % 2 ^ 64) × (after ≡ (seat_view before.0.known (Waiting k), before.1))

  module _ {C : Type 0} (base : S → C) (history_of : S → List E) (pass_of : E → ℕ) where
    -- The value was taken. It has the base that the pass knows and stands for the one history, which the pass has now
    -- seen whole, in one turn more. What is new in it was entered by other passes.
    pub record Takes (before : SeatState S E) (k : ℕ) (after : SeatState S E) : Type 0 where
      pub value : S
      pub slot : after.1 ≡ (0, Some value) ∷ before.1
      pub stage : after.0.stage ≡ Served k
      pub one : length after.0.known ≡ 1
      pub same_number : first_number after.0.known ≡ first_number before.0.known
      pub same_count : first_pass_count after.0.known ≡ first_pass_count before.0.known
      pub same_base : first_base base after.0.known ≡ first_base base before.0.known
      pub one_more : first_turns after.0.known ≡ first_turns before.0.known + 1
      pub whole : history_of value ≡ first_seen after.0.known
      pub based : first_base base after.0.known ≡ Some (base value)
      pub others : ContinuedByOthers pass_of (first_pass_count before.0.known) (first_number before.0.known)
          (first_seen before.0.known) (first_seen after.0.known)

    -- Where the serving word says the ticket that the seat waits with, the value was taken; else nothing changed.
    abbrev pub Looks : Step (Option S) → SeatState S E → ℕ → SeatState S E → Type 0
    Looks step before found after =
        (k : ℕ) → before.0.stage ≡ Waiting k → MatchBool (found == k % 2 ^ 64) (Takes before k after) (after ≡ before)

  -- The pass has seen what the value stands for that lies in the slot taken.
  abbrev pub SeesSlot : (S → List E) → SeatState S E → SeatState S E → Type 0
  SeesSlot history_of before after = (x : S) → before.1 ≡ (0, Some x) ∷ []
      → after ≡ (seat_view (having_seen (history_of x) before.0.known) before.0.stage, before.1)

  -- An entry was added to the one history. It stands in the value by now.
  abbrev pub Enters : (S → List E) → Step (Option S) → SeatState S E → ℕ → SeatState S E → Type 0
  Enters history_of step before found after = SeesSlot history_of before after

  -- The slot went home, and the seat has no ticket any more.
  abbrev pub Serves : Step (Option S) → SeatState S E → ℕ → SeatState S E → Type 0
  Serves step before found after = after ≡ (seat_view before.0.known Idle, [])
