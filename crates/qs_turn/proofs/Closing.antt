-- All passes in one seat, and the value that comes back.
use Rattle.std.proofs.Common.{◌≡◌, ℕ, suc, ◌<◌, List, [], ◌∷◌, ◌++◌, length, refl, sym, ap, ◌∙◌, subst, append_assoc, append-nil, length-append, All, arith}
use Rattle.std.specs.Prelude.{Option, Some}
use Rattle.std.proofs.lemmas.List.Elements.{All-nil, All-cons}
use Rattle.std.proofs.lemmas.List.{nil_from_length}
use mathlib.Core.Option.{some, some-injective}
use lib.ListN.{get_elem?}
use Rattle.atomic_table.specs.Table.{Final, Seen}
use Rattle.qs_turn.specs.declared.told.Told.{Ghosts}
use Rattle.qs_turn.specs.declared.protocol.PassView.{PassView}
use Rattle.qs_turn.specs.declared.protocol.Stage.TheVariants.{Idle}
use Rattle.qs_turn.specs.declared.protocol.SeatView.{SeatView}
use Rattle.qs_turn.specs.declared.turns.Pass.{Pass}
use Rattle.qs_turn.specs.History.{ContinuedByOthers}
use Rattle.qs_turn.specs.Protocol.{first_base, first_seen, first_number}
use Rattle.qs_turn.specs.working.Protocol.{AreRight, TurnRule}
use Rattle.qs_turn.specs.Passes.{KnowsBase, number_of, seen_of}
use Rattle.qs_turn.proofs.Keeps.{close_finds}

module _ {T E : Type 0} {g : Ghosts T E} where
  -- what the passes know, one behind the other
  abbrev pub all_known : List (Pass T E g) → List (PassView T E)
  all_known [] = []
  all_known (p ∷ ps) = p.seat.me.0.known ++ all_known ps

  pub all_known_snoc : (ps : List (Pass T E g)) (p : Pass T E g) → all_known (ps ++ p ∷ []) ≡ all_known ps ++ p.seat.me.0.known
  all_known_snoc [] p = append-nil p.seat.me.0.known
  all_known_snoc (q ∷ ps) p = ap (λ (l : List (PassView T E)). q.seat.me.0.known ++ l) (all_known_snoc ps p) ∙ sym (append_assoc q.seat.me.0.known (all_known ps) p.seat.me.0.known)

  pub all_known_length : (ps : List (Pass T E g)) → length (all_known ps) ≡ length ps
  all_known_length [] = refl
  all_known_length (p ∷ ps) = let one : length p.seat.me.0.known ≡ 1 = p.one in let more = all_known_length ps in let sum = length-append p.seat.me.0.known (all_known ps) in omega arith

  module _ {C : Type 0} (base : T → C) (pass_of : E → ℕ) (b : C) (passes : ℕ) (h : List E) where
    known_right : (p : Pass T E g) (ks js : List (PassView T E)) → p.seat.me.0.known ≡ ks → length ks ≡ 1 → AreRight base pass_of b passes h (ks ++ js) → KnowsBase base p b × ContinuedByOthers pass_of passes (number_of p) (seen_of p) h × AreRight base pass_of b passes h js
    known_right p [] js is one right = absurd (omega arith)
    known_right p (k ∷ j ∷ ks) js is one right = absurd (omega arith)
    known_right p (k ∷ []) js is one right = (
      ap (first_base base) is ∙ ap Some right.0.based,
      subst (λ (z : ℕ × List E). ContinuedByOthers pass_of passes z.0 z.1 h) (λ i. ((sym (ap first_number is) ∙ p.number_is) i, ap first_seen (sym is) i)) right.0.begun,
      right.1,
    )

    pub all_base : (ps : List (Pass T E g)) → AreRight base pass_of b passes h (all_known ps) → All (λ p. KnowsBase base p b) ps
    all_base [] right = All-nil _
    all_base (p ∷ ps) right = let r = known_right p p.seat.me.0.known (all_known ps) refl p.one right in All-cons (λ (q : Pass T E g). KnowsBase base q b) p ps r.0 (all_base ps r.2)

    pub all_history : (ps : List (Pass T E g)) → AreRight base pass_of b passes h (all_known ps) → All (λ p. ContinuedByOthers pass_of passes (number_of p) (seen_of p) h) ps
    all_history [] right = All-nil _
    all_history (p ∷ ps) right = let r = known_right p p.seat.me.0.known (all_known ps) refl p.one right in All-cons (λ (q : Pass T E g). ContinuedByOthers pass_of passes (number_of q) (seen_of q) h) p ps r.1 (all_history ps r.2)

module _ {S C E : Type 0} (base : S → C) (history_of : S → List E) (pass_of : E → ℕ) (one_base : C) (opened : List E) (passes : ℕ) where
  -- the slot has the value, and it is as each pass knows
  pub closing : (id : ℕ) (v : SeatView S E) (ws : List ℕ) (xs : List (Option S)) (y : Option S) → v.stage ≡ Idle → length v.known ≡ passes → 0 < passes → Final (Seen (TurnRule base history_of pass_of one_base opened passes) id v) ws xs
      → get_elem? xs 0 ≡ some y → (x : S) × (y ≡ Some x) × AreRight base pass_of (base x) passes (history_of x) v.known
  closing id v ws xs y idle all some_pass final at = let c = close_finds base history_of pass_of one_base opened passes final.0 final.1.0 id v final.1.1 idle all some_pass in
      let there : get_elem? xs 0 ≡ some (Some c.0) = final.4 0 (Some c.0) (ap (λ hs. get_elem? hs 0) c.1) in
      (c.0, some-injective y (Some c.0) (sym at ∙ there), c.2)

pub all_front : {X : Type 0} (P : X → Type 0) (xs : List X) (y : X) → All P (xs ++ y ∷ []) → All P xs × P y
all_front P [] y all = (All-nil P, all 0 y (omega arith))
all_front P (x ∷ xs) y all = let more = all_front P xs y (λ k d l. all (suc k) d (omega arith)) in (All-cons P x xs (all 0 x (omega arith)) more.0, more.1)

module _ {S E C : Type 0} {g : Ghosts S E} (base : S → C) (history_of : S → List E) (pass_of : E → ℕ) (one_base : C) (opened : List E) (passes : ℕ) where
  -- all passes are in the one seat, none is left, and the slot was read
  pub closed : (left all : List (Pass S E g)) (id : ℕ) (v : SeatView S E) (ws : List ℕ) (xs : List (Option S)) (y : Option S) → length left ≡ 0 → all_known left ++ v.known ≡ all_known all → length all ≡ passes
      → v.stage ≡ Idle → 0 < passes → Final (Seen (TurnRule base history_of pass_of one_base opened passes) id v) ws xs → get_elem? xs 0 ≡ some y
      → (x : S) × (y ≡ Some x) × AreRight base pass_of (base x) passes (history_of x) (all_known all)
  closed left all id v ws xs y none is count idle some_pass final at =
      let same : v.known ≡ all_known all = sym (ap (λ ps. all_known ps ++ v.known) (nil_from_length left none)) ∙ is in
      let c = closing base history_of pass_of one_base opened passes id v ws xs y idle (ap length same ∙ (all_known_length all ∙ count)) some_pass final at in
      (c.0, c.1, subst (λ ks. AreRight base pass_of (base c.0) passes (history_of c.0) ks) same c.2)

  pub closed_value : (x z : S) (y : Option S) (all : List (Pass S E g)) → y ≡ Some x → y ≡ Some z → AreRight base pass_of (base x) passes (history_of x) (all_known all) → AreRight base pass_of (base z) passes (history_of z) (all_known all)
  closed_value x z y all p q right = subst (λ w. AreRight base pass_of (base w) passes (history_of w) (all_known all)) (one (sym p ∙ q)) right
    where
      one : {a b : S} → Some a ≡ Some b → a ≡ b
      one e = cc
