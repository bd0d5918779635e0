-- The passes that are dealt at the opening.
use Rattle.std.proofs.Common.{◌≡◌, ℕ, zero, suc, ◌+◌, ◌-◌, ◌<◌, ◌⊎◌, List, [], ◌∷◌, ◌++◌, length, refl, sym, ap, ◌∙◌, subst, inl, inr, ⊎_elim, get_or, All, arith}
use Rattle.std.specs.Prelude.{Some, None, slice_get}
use Rattle.qs_turn.specs.declared.told.Told.{Ghosts}
use Rattle.qs_turn.specs.declared.protocol.PassView.{PassView}
use Rattle.qs_turn.specs.declared.turns.Pass.{Pass}
use Rattle.qs_turn.specs.declared.turns.Turns.{Turns}
use Rattle.qs_turn.specs.Protocol.{first_base, first_seen, first_turns}
use Rattle.qs_turn.specs.working.Protocol.{new_views, pass_view, only_first}
use Rattle.qs_turn.specs.Passes.{IsPassOf, HoldsNoTurn, IsNewPass, AreNewPasses}

pub new_views-next : {S E : Type 0} (x : S) (h : List E) (m n p : ℕ) → n < p → new_views m x h n (p - n) ≡ pass_view n m x h 0 ∷ new_views m x h (n + 1) (p - (n + 1))
new_views-next x h m n p l = let c : p - n ≡ suc (p - (n + 1)) = omega arith in let next : suc n ≡ n + 1 = omega arith in
    ap (new_views m x h n) c ∙ ap (λ (k : ℕ). pass_view n m x h 0 ∷ new_views m x h k (p - (n + 1))) next

pub get_snoc : {A : Type 0} (l : List A) (a b : A) (i : ℕ) → slice_get (l ++ a ∷ []) i ≡ Some b → (slice_get l i ≡ Some b) ⊎ ((i ≡ length l) × (a ≡ b))
get_snoc [] a b zero e = inr (refl, value_of e)
  where
    value_of : {A : Type 0} {a b : A} → Some a ≡ Some b → a ≡ b
    value_of e = cc
get_snoc [] a b (suc i) e = absurd (apart e)
  where
    apart : {A : Type 0} {b : A} → None ≡ Some b → ⊥
    apart e = cc
get_snoc (x ∷ xs) a b zero e = inl e
get_snoc (x ∷ xs) a b (suc i) e = ⊎_elim (λ t. inl t) (λ t. inr (ap suc t.0, t.1)) (get_snoc xs a b i e)

module _ {T E : Type 0} {g : Ghosts T E} {C : Type 0} (base : T → C) (t : Turns T E) where
  pub new_pass : (p : Pass T E g) (x : T) (h : List E) (m n : ℕ) (ks js : List (PassView T E)) → IsPassOf t p → HoldsNoTurn p → p.number ≡ n → p.seat.me.0.known ≡ only_first ks → ks ≡ pass_view n m x h 0 ∷ js → IsNewPass base t (base x) h n p
  new_pass p x h m n ks js own idle is knows from = let know : p.seat.me.0.known ≡ pass_view n m x h 0 ∷ [] = knows ∙ ap only_first from in record {
    own = own;
    idle = idle;
    number = is;
    base_known = ap (first_base base) know;
    seen = ap first_seen know;
    turns = ap first_turns know;
  }

  pub one_more_pass : (b : C) (h : List E) (ps : List (Pass T E g)) (p : Pass T E g) (n : ℕ) → AreNewPasses base t b h ps → n ≡ length ps → IsNewPass base t b h n p → AreNewPasses base t b h (ps ++ p ∷ [])
  one_more_pass b h ps p n old is new i q e = ⊎_elim (λ o. old i q o) (λ (o : (i ≡ length ps) × (p ≡ q)). subst (λ (z : ℕ × Pass T E g). IsNewPass base t b h z.0 z.1) (λ j. ((is ∙ sym o.0) j, o.1 j)) new) (get_snoc ps p q i e)

  pub no_passes : (b : C) (h : List E) → AreNewPasses {g = g} base t b h []
  no_passes b h i p e = absurd (apart e)
    where
      apart : {A : Type 0} {b : A} → None ≡ Some b → ⊥
      apart e = cc

pub with_value : {T E C : Type 0} {g : Ghosts T E} (base : T → C) (history_of : T → List E) (t : Turns T E) (ps : List (Pass T E g)) (v w : T) → v ≡ w → AreNewPasses base t (base v) (history_of v) ps → AreNewPasses base t (base w) (history_of w) ps
with_value base history_of t ps v w e new = subst (λ z. AreNewPasses base t (base z) (history_of z) ps) e new

pub get_longer : {A : Type 0} (l m : List A) (a : A) (i : ℕ) → slice_get l i ≡ Some a → slice_get (l ++ m) i ≡ Some a
get_longer [] m a i e = absurd (apart e)
  where
    apart : {A : Type 0} {b : A} → None ≡ Some b → ⊥
    apart e = cc
get_longer (x ∷ xs) m a zero e = e
get_longer (x ∷ xs) m a (suc i) e = get_longer xs m a i e

pub get_last : {A : Type 0} (l : List A) (a : A) → slice_get (l ++ a ∷ []) (length l) ≡ Some a
get_last [] a = refl
get_last (x ∷ xs) a = get_last xs a

-- the last of the passes, and the others
pub last_new : {T E C : Type 0} {g : Ghosts T E} (base : T → C) (t : Turns T E) (b : C) (h : List E) (all ps : List (Pass T E g)) (p : Pass T E g) → all ≡ ps ++ p ∷ [] → AreNewPasses base t b h all
    → IsNewPass base t b h (length ps) p × AreNewPasses base t b h ps
last_new base t b h all ps p e new = (new (length ps) p (ap (λ l. slice_get l (length ps)) e ∙ get_last ps p), λ i q d. new i q (ap (λ l. slice_get l i) e ∙ get_longer ps (p ∷ []) q i d))

get_at : {A : Type 0} (l : List A) (i : ℕ) (d : A) → i < length l → slice_get l i ≡ Some (get_or l i d)
get_at [] i d h = absurd (omega arith)
get_at (x ∷ xs) zero d h = refl
get_at (x ∷ xs) (suc i) d h = get_at xs i d (omega arith)

pub all_new : {T E C : Type 0} {g : Ghosts T E} (base : T → C) (t : Turns T E) (b : C) (h : List E) (ps : List (Pass T E g)) → AreNewPasses base t b h ps → All (λ p. IsPassOf t p × HoldsNoTurn p) ps
all_new base t b h ps new k d l = let n = new k (get_or ps k d) (get_at ps k d l) in (n.own, n.idle)
