-- What a seat knows behind a look, and behind giving the value back.
use Rattle.std.proofs.Common.{◌≡◌, ℕ, eqb, List, [], ◌∷◌, length, refl, sym, ap, ◌∙◌, subst, eq-eqb, arith}
use Rattle.std.specs.Prelude.{MatchBool, Option, Some, None}
use Rattle.atomic_table.specs.Table.{Me, rest}
use Rattle.qs_turn.specs.declared.protocol.PassView.{PassView}
use Rattle.qs_turn.specs.declared.protocol.SeatView.{SeatView}
use Rattle.qs_turn.specs.Protocol.{first_base, first_seen}
use Rattle.qs_turn.specs.working.Protocol.{seat_view, having_seen, SeesSlot}

pub first_of : {S : Type 0} (l m : List (ℕ × S)) (x : ℕ × S) → l ≡ x ∷ m → l ≡ x ∷ rest l
first_of l m x e = e ∙ ap (λ (z : List _). x ∷ rest z) (sym e)

pub if_same : (P Q : Type 0) (a b : ℕ) → a ≡ b → MatchBool (eqb a b) P Q → P
if_same P Q a b e m = subst (λ t. MatchBool t P Q) (eq-eqb a b e) m

-- what stays where the first pass has seen more
module _ {S E : Type 0} where
  pub having_seen-length : (h : List E) (ks : List (PassView S E)) → length (having_seen h ks) ≡ length ks
  having_seen-length h [] = refl
  having_seen-length h (k ∷ ks) = refl

  pub having_seen-base : {C : Type 0} (base : S → C) (h : List E) (ks : List (PassView S E)) → first_base base (having_seen h ks) ≡ first_base base ks
  having_seen-base base h [] = refl
  having_seen-base base h (k ∷ ks) = refl

  pub having_seen-seen : (h : List E) (ks : List (PassView S E)) → length ks ≡ 1 → first_seen (having_seen h ks) ≡ h
  having_seen-seen h [] one = absurd (omega arith)
  having_seen-seen h (k ∷ ks) one = refl

  -- the value went into the slot, and what it stands for was seen
  pub given : (history_of : S → List E) (m m' m'' : Me (Option S) (SeatView S E)) (x : S) → m.1 ≡ (0, None) ∷ [] → m' ≡ (m.0, (0, Some x) ∷ rest m.1) → SeesSlot history_of m' m''
      → m'' ≡ (seat_view (having_seen (history_of x) m.0.known) m.0.stage, (0, Some x) ∷ [])
  given history_of m m' m'' x slot put seen = let in_slot : m'.1 ≡ (0, Some x) ∷ [] = ap (λ (n : Me (Option S) (SeatView S E)). n.1) put ∙ ap (λ (l : List (ℕ × Option S)). (0, Some x) ∷ rest l) slot in
      seen x in_slot ∙ (λ i. (seat_view (having_seen (history_of x) (put i).0.known) (put i).0.stage, in_slot i))
