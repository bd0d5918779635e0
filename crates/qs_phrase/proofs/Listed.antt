-- Readings one behind the other.
use Rattle.std.proofs.Common.{◌≡◌, ◌≤◌, ◌⊎◌, ◌↔◌, ℕ, Bool, true, false, List, [], ◌∷◌, ◌++◌, length, refl, sym, subst, inl, inr, ⊎_elim}
use Rattle.qs_tree.specs.Lists.{◌∈◌, Ascends}
use Rattle.qs_tree.proofs.Members.{from_append, in_append_left, in_append_right}
use Rattle.qs_graph.specs.Graphs.{QGraph, IsEntry, IsValid}
use Rattle.qs_phrase.specs.Readings.{IsReading, IsBefore, AreFirst, HasFurther}
use Rattle.qs_phrase.specs.working.Walking.{IsWay, IsUpTo, GoesOn, IsNext, IsLast}
use Rattle.qs_phrase.proofs.Orders.{before_trans, before_up_to, never_itself, not_back}
use Rattle.qs_phrase.proofs.Ways.{way_of, reading_of}

pub ascends_more : (xs : List (List ℕ)) (y : List ℕ) → Ascends IsBefore xs → ((x : List ℕ) → x ∈ xs → IsBefore x y) → Ascends IsBefore (xs ++ y ∷ [])
ascends_more [] y a h = ((λ z i. absurd i), tt)
ascends_more (x ∷ xs) y a h = (
  λ z i. ⊎_elim (λ j. a.0 z j) (⊎_elim (λ e. subst (IsBefore x) (sym e) (h x (inl refl))) (λ none. absurd none)) (from_append xs (y ∷ []) z i),
  ascends_more xs y a.1 (λ z i. h z (inr i)),
)

-- the first readings are listed, and the path is the next one, or there is none
pub record IsListed (G : QGraph) (path : List ℕ) (paths : List (List ℕ)) (more : Bool) : Type 0 where
  pub ascends : Ascends IsBefore paths
  pub are_readings : (p : List ℕ) → p ∈ paths → IsReading G p
  pub is_reading : more ≡ true → IsReading G path
  pub behind : more ≡ true → (p : List ℕ) → p ∈ paths → IsBefore p path
  pub none_between : more ≡ true → (p : List ℕ) → IsReading G p → (p ∈ paths) ⊎ IsUpTo path p
  pub all : more ≡ false → (p : List ℕ) → IsReading G p → p ∈ paths

module _ (G : QGraph) where
  pub listed_none : IsValid G → (a : ℕ) (path : List ℕ) → IsEntry G a → GoesOn G a [] path → IsListed G path [] true
  listed_none valid a path entry g = record {
    ascends = tt;
    are_readings = λ p i. absurd i;
    is_reading = λ e. reading_of G valid a path entry (subst (λ ks. IsWay G a ks) (sym g.are) g.way);
    behind = λ e p i. absurd i;
    none_between = λ e p r. inr (subst (λ ks. IsUpTo ks p) (sym g.are) (g.least p (way_of G valid a p entry r)));
    all = λ e. absurd cc;
  }

  pub listed_more : (path : List ℕ) (paths : List (List ℕ)) (new : List ℕ) (more : Bool) → (more ≡ true → IsNext G path new) → (more ≡ false → IsLast G path) → IsListed G path paths true
      → IsListed G new (paths ++ path ∷ []) more
  listed_more path paths new more next last x = record {
    ascends = ascends_more paths path x.ascends (x.behind refl);
    are_readings = λ p i. ⊎_elim (x.are_readings p) (⊎_elim (λ e. subst (IsReading G) (sym e) (x.is_reading refl)) (λ none. absurd none)) (from_append paths (path ∷ []) p i);
    is_reading = λ e. (next e).is_reading;
    behind = λ e p i. ⊎_elim (λ j. before_trans p path new (x.behind refl p j) (next e).before) (⊎_elim (λ s. subst (λ ks. IsBefore ks new) (sym s) (next e).before) (λ none. absurd none)) (from_append paths (path ∷ []) p i);
    none_between = λ e p r. ⊎_elim (λ j. inl (in_append_left paths (path ∷ []) p j)) (⊎_elim (λ s. inl (in_append_right paths (path ∷ []) p (inl (sym s)))) (λ b. inr ((next e).least p r b))) (x.none_between refl p r);
    all = λ e p r. ⊎_elim (λ j. in_append_left paths (path ∷ []) p j) (⊎_elim (λ s. in_append_right paths (path ∷ []) p (inl (sym s))) (λ b. absurd (not_back p path (last e p r) b))) (x.none_between refl p r);
  }

  pub first_are : (path : List ℕ) (paths : List (List ℕ)) (more : Bool) (most : ℕ) → length paths ≤ most → (more ≡ true → length paths ≡ most) → IsListed G path paths more → AreFirst G most paths
  first_are path paths more most few full x = record {
    ascends = x.ascends;
    are_readings = x.are_readings;
    others_behind = λ other r out p i. by more refl other r out p i;
    few = few;
    so_many = many more refl;
  }
    where
      by : (b : Bool) → more ≡ b → (other : List ℕ) → IsReading G other → (other ∈ paths → ⊥) → (p : List ℕ) → p ∈ paths → IsBefore p other
      by true e other r out p i = ⊎_elim (λ j. absurd (out j)) (λ b. before_up_to p path other (x.behind e p i) b) (x.none_between e other r)
      by false e other r out p i = absurd (out (x.all e other r))

      many : (b : Bool) → more ≡ b → (length paths ≡ most) ⊎ ((p : List ℕ) → IsReading G p → p ∈ paths)
      many true e = inl (full e)
      many false e = inr (x.all e)

  pub further_is : (path : List ℕ) (paths : List (List ℕ)) (more : Bool) → IsListed G path paths more → (more ≡ true) ↔ HasFurther G paths
  further_is path paths more x = (
    λ e. record { path = path; is_reading = x.is_reading e; further = λ i. never_itself path (x.behind e path i) },
    λ h. by more refl h,
  )
    where
      by : (b : Bool) → more ≡ b → HasFurther G paths → more ≡ true
      by true e h = e
      by false e h = absurd (h.further (x.all e h.path h.is_reading))
