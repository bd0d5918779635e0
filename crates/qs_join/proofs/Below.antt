-- The places that are listed by the root of the first subtree too, one place and one rule after the other.
use Rattle.std.proofs.Common.{◌≡◌, ℕ, zero, suc, ◌+◌, ◌<◌, ◌≤◌, ◌⊎◌, inl, inr, ⊎_elim, Bool, true, false, cond, List, [], ◌∷◌, ◌++◌, length, get_or, Option, Some, None, slice_get, nat_eq, refl, sym, ap, ◌∙◌, subst, arith, eq-eqb}
use Rattle.std.specs.Prelude.{if◌then◌else◌}
use Rattle.std.proofs.lemmas.Option.{slice_get_within}
use Rattle.qs_tree.specs.Lists.{◌∈◌}
use Rattle.qs_tree.specs.declared.cell.Label.{Label}
use Rattle.qs_tree.proofs.Members.{in_append_left, in_append_right, from_append, at_place}
use Rattle.qs_pattern.specs.declared.pattern.Pattern.{Pattern, Node', Tree, Forest}
use Rattle.qs_pattern.specs.declared.pattern.Head.{Head}
use Rattle.qs_pattern.specs.Patterns.{Patterns, no_pattern, node_first, patterns, pattern_before, row_patterns, count}
use Rattle.qs_pattern.specs.Rules.{Rule}
use Rattle.qs_pattern.proofs.PatternLemmas.{count-patterns}
use Rattle.qs_join.specs.declared.lists.Lists.{Lists}
use Rattle.qs_join.specs.declared.heads.Heads.{Heads}
use Rattle.qs_join.specs.Heads.{roots_asked, first_asked, firsts_asked, list_at, key_of, below_of, IsPlace, IsAsking}
use Rattle.qs_join.specs.working.Listing.{root_of, first_of}
use Rattle.qs_join.specs.working.Below.{Adds, IsOne, AsksOne, IsOfRule, AsksIn}

-- ---- what a pattern asks of the first subtree

pub first_pattern : (p : Pattern) (h : Head) (ks : List Pattern) (first : Pattern) → pattern_before p no_pattern ≡ node_first h (patterns ks) no_pattern → slice_get ks 0 ≡ Some first → first_of p ≡ root_of first
first_pattern (Node' g shape row) h ks first e at =
    let same : row_patterns row ≡ patterns ks = cc in
    ap first_asked same ∙ of ks at
  where
    at_front : (p : Pattern) (behind : Patterns) → first_asked (pattern_before p behind) ≡ root_of p
    at_front (Node' h shape ks) behind = refl
    at_front (Tree v) behind = refl
    at_front (Forest v) behind = refl

    of : (qs : List Pattern) → slice_get qs 0 ≡ Some first → first_asked (patterns qs) ≡ root_of first
    of [] e = absurd cc
    of (q ∷ qs) e = let same : q ≡ first = cc in at_front q (patterns qs) ∙ ap root_of same
first_pattern (Tree v) h ks first e at = absurd cc
first_pattern (Forest v) h ks first e at = absurd cc

pub no_first : (p : Pattern) (h : Head) (ks : List Pattern) → pattern_before p no_pattern ≡ node_first h (patterns ks) no_pattern → slice_get ks 0 ≡ None → first_of p ≡ None
no_first (Node' g shape row) h ks e at =
    let same : row_patterns row ≡ patterns ks = cc in
    ap first_asked same ∙ of ks at
  where
    of : (qs : List Pattern) → slice_get qs 0 ≡ None → first_asked (patterns qs) ≡ None
    of [] e = refl
    of (q ∷ qs) e = absurd cc
no_first (Tree v) h ks e at = absurd cc
no_first (Forest v) h ks e at = absurd cc

-- ---- one place more

-- the list of a key after one place was appended under one
abbrev pub IsLonger : ℕ → ℕ × ℕ → Lists → Lists → Type 0
IsLonger key place old new = (k : ℕ) → list_at new k ≡ list_at old k ++ (if nat_eq key k then place ∷ [] else [])

module _ (key : ℕ) (place : ℕ × ℕ) (old new : Lists) (longer : IsLonger key place old new) where
  still : (k : ℕ) (pair : ℕ × ℕ) → pair ∈ list_at old k → pair ∈ list_at new k
  still k pair i = subst (λ ps. pair ∈ ps) (sym (longer k)) (in_append_left (list_at old k) _ pair i)

  either : (k : ℕ) (pair : ℕ × ℕ) → pair ∈ list_at new k → (pair ∈ list_at old k) ⊎ (pair ≡ place)
  either k pair i = ⊎_elim (λ j. inl j) (λ j. inr (by (nat_eq key k) j))
      (from_append (list_at old k) (if nat_eq key k then place ∷ [] else []) pair (subst (λ ps. pair ∈ ps) (longer k) i))
    where
      by : (b : Bool) → pair ∈ cond b (place ∷ []) [] → pair ≡ place
      by true (inl e) = e
      by true (inr z) = absurd z
      by false z = absurd z

  now : place ∈ list_at new key
  now = subst (λ ps. place ∈ ps) (sym (longer key)) (in_append_right (list_at old key) _ place
      (subst (λ b. place ∈ cond b (place ∷ []) []) (sym (eq-eqb key key refl)) (inl refl)))

pub adds_narrow : (root first : Label) (asked : Option Label) (place : ℕ × ℕ) (key : ℕ) (old new : Heads) → asked ≡ Some first → key ≡ key_of root first → IsLonger key place old.narrow new.narrow → new.broad ≡ old.broad
    → Adds (IsOne place) (AsksOne (Some root) asked place) old new
adds_narrow root first asked place key old new is key_is by_key same = subst (λ (f : Option Label). Adds (IsOne place) (AsksOne (Some root) f place) old new) (sym is) (record {
  only = only;
  kept = kept;
  all = all;
})
  where
    longer : IsLonger (key_of root first) place old.narrow new.narrow
    longer = subst (λ k. IsLonger k place old.narrow new.narrow) key_is by_key

    only : (l : Label) (f : Option Label) (pair : ℕ × ℕ) → pair ∈ below_of new l f → (pair ∈ below_of old l f) ⊎ (pair ≡ place)
    only l None pair i = inl (subst (λ (b : Lists). pair ∈ list_at b l.0) same i)
    only l (Some k) pair i = either (key_of root first) place old.narrow new.narrow longer (key_of l k) pair i

    kept : (l : Label) (f : Option Label) (pair : ℕ × ℕ) → pair ∈ below_of old l f → pair ∈ below_of new l f
    kept l None pair i = subst (λ (b : Lists). pair ∈ list_at b l.0) (sym same) i
    kept l (Some k) pair i = still (key_of root first) place old.narrow new.narrow longer (key_of l k) pair i

    all : (l : Label) (f : Option Label) (pair : ℕ × ℕ) → AsksOne (Some root) (Some first) place l f pair → pair ∈ below_of new l f
    all l f pair (e, is, at) =
        let one : root ≡ l = cc in
        subst (λ (p : ℕ × ℕ). p ∈ below_of new l f) (sym e) (subst (λ (m : Label). place ∈ below_of new m f) one
        (subst (λ (g : Option Label). place ∈ below_of new root g) at (now (key_of root first) place old.narrow new.narrow longer)))

pub adds_broad : (root : Label) (asked : Option Label) (place : ℕ × ℕ) (old new : Heads) → asked ≡ None → IsLonger root.0 place old.broad new.broad → new.narrow ≡ old.narrow
    → Adds (IsOne place) (AsksOne (Some root) asked place) old new
adds_broad root asked place old new is longer same = subst (λ (f : Option Label). Adds (IsOne place) (AsksOne (Some root) f place) old new) (sym is) (record {
  only = only;
  kept = kept;
  all = all;
})
  where
    only : (l : Label) (f : Option Label) (pair : ℕ × ℕ) → pair ∈ below_of new l f → (pair ∈ below_of old l f) ⊎ (pair ≡ place)
    only l None pair i = either root.0 place old.broad new.broad longer l.0 pair i
    only l (Some k) pair i = inl (subst (λ (b : Lists). pair ∈ list_at b (key_of l k)) same i)

    kept : (l : Label) (f : Option Label) (pair : ℕ × ℕ) → pair ∈ below_of old l f → pair ∈ below_of new l f
    kept l None pair i = still root.0 place old.broad new.broad longer l.0 pair i
    kept l (Some k) pair i = subst (λ (b : Lists). pair ∈ list_at b (key_of l k)) (sym same) i

    all : (l : Label) (f : Option Label) (pair : ℕ × ℕ) → AsksOne (Some root) None place l f pair → pair ∈ below_of new l f
    all l f pair (e, is, at) =
        let one : root ≡ l = cc in
        subst (λ (p : ℕ × ℕ). p ∈ below_of new l f) (sym e) (subst (λ (m : Label). place ∈ below_of new m f) one
        (subst (λ (g : Option Label). place ∈ below_of new root g) at (now root.0 place old.broad new.broad longer)))

-- a place that asks for no root isn't among them
pub adds_none : (first : Option Label) (place : ℕ × ℕ) (old new : Heads) → new.broad ≡ old.broad → new.narrow ≡ old.narrow → Adds (IsOne place) (AsksOne None first place) old new
adds_none first place old new same alike = record {
  only = λ l f pair i. inl (to l f pair i);
  kept = from;
  all = λ l f pair q. let e = q.1 in absurd cc;
}
  where
    to : (l : Label) (f : Option Label) (pair : ℕ × ℕ) → pair ∈ below_of new l f → pair ∈ below_of old l f
    to l None pair i = subst (λ (b : Lists). pair ∈ list_at b l.0) same i
    to l (Some k) pair i = subst (λ (b : Lists). pair ∈ list_at b (key_of l k)) alike i

    from : (l : Label) (f : Option Label) (pair : ℕ × ℕ) → pair ∈ below_of old l f → pair ∈ below_of new l f
    from l None pair i = subst (λ (b : Lists). pair ∈ list_at b l.0) (sym same) i
    from l (Some k) pair i = subst (λ (b : Lists). pair ∈ list_at b (key_of l k)) (sym alike) i

-- ---- the places of a left side

-- a number below the next one is below this one, or it
before_or_last : (k n : ℕ) → k < n + 1 → (k < n) ⊎ (k ≡ n)
before_or_last k zero l = inr (omega (arith, l))
before_or_last zero (suc n) l = inl (omega arith)
before_or_last (suc k) (suc n) l = ⊎_elim (λ h. inl (omega (arith, h))) (λ e. inr (ap suc e)) (before_or_last k n (omega (arith, l)))

-- the places of its first patterns
abbrev pub IsUpTo : ℕ → ℕ → ℕ × ℕ → Type 0
IsUpTo number i pair = (pair.0 ≡ number) × (pair.1 < i)

abbrev pub AsksUpTo : ℕ → List Pattern → ℕ → Label → Option Label → ℕ × ℕ → Type 0
AsksUpTo number side i l first pair =
    (pair.0 ≡ number) × (pair.1 < i) × (p : Pattern) × (slice_get side pair.1 ≡ Some p) × (root_of p ≡ Some l) × (first_of p ≡ first)

pub adds_nothing : (number : ℕ) (side : List Pattern) (heads : Heads) → Adds (IsUpTo number 0) (AsksUpTo number side 0) heads heads
adds_nothing number side heads = record {
  only = λ l f pair i. inl i;
  kept = λ l f pair i. i;
  all = λ l f pair q. let h = q.1 in absurd (omega (arith, h));
}

module _ (number : ℕ) (side : List Pattern) where
  pub adds_place : (i : ℕ) (p : Pattern) (root first : Option Label) → i < length side → p ≡ get_or side i p → root ≡ root_of p → first ≡ first_of p → (a b c : Heads)
      → Adds (IsUpTo number i) (AsksUpTo number side i) a b → Adds (IsOne (number, i)) (AsksOne root first (number, i)) b c
      → Adds (IsUpTo number (i + 1)) (AsksUpTo number side (i + 1)) a c
  adds_place i p root first h is e d a b c x y = record {
    only = λ l f pair j. ⊎_elim
        (λ k. ⊎_elim (λ m. inl m) (λ m. let low = m.1 in inr (m.0, omega (arith, low))) (x.only l f pair k))
        (λ k. let one = ap (λ (q : ℕ × ℕ). q.0) k in let two = ap (λ (q : ℕ × ℕ). q.1) k in inr (one, omega (arith, two)))
        (y.only l f pair j);
    kept = λ l f pair j. y.kept l f pair (x.kept l f pair j);
    all = all;
  }
    where
      here : slice_get side i ≡ Some p
      here = at_place side i p h is

      all : (l : Label) (f : Option Label) (pair : ℕ × ℕ) → AsksUpTo number side (i + 1) l f pair → pair ∈ below_of c l f
      all l f pair (n, low, q, at, r, s) = ⊎_elim
          (λ less. y.kept l f pair (x.all l f pair (n, less, q, at, r, s)))
          (λ same.
          let z = sym at ∙ ap (slice_get side) same ∙ here in
          let alike : q ≡ p = cc in
          y.all l f pair ((λ j. (n j, same j)), e ∙ ap root_of (sym alike) ∙ r, d ∙ ap first_of (sym alike) ∙ s))
          (before_or_last pair.1 i low)

-- the roots that are asked at a place are those of the pattern there
asked_by : (side : List Pattern) (i : ℕ) (a f : Option Label) → slice_get (roots_asked (patterns side)) i ≡ Some a → slice_get (firsts_asked (patterns side)) i ≡ Some f
    → (p : Pattern) × (slice_get side i ≡ Some p) × (root_of p ≡ a) × (first_of p ≡ f)
asked_by [] i a f e d = absurd cc
asked_by (Node' h shape ks ∷ side) zero a f e d = (Node' h shape ks, refl, cc, cc)
asked_by (Tree v ∷ side) zero a f e d = (Tree v, refl, cc, cc)
asked_by (Forest v ∷ side) zero a f e d = (Forest v, refl, cc, cc)
asked_by (Node' h shape ks ∷ side) (suc i) a f e d = asked_by side i a f e d
asked_by (Tree v ∷ side) (suc i) a f e d = asked_by side i a f e d
asked_by (Forest v ∷ side) (suc i) a f e d = asked_by side i a f e d

pub adds_side : (number i : ℕ) (side : List Pattern) (left : Patterns) → patterns side ≡ left → length side ≤ i → (a b : Heads)
    → Adds (IsUpTo number i) (AsksUpTo number side i) a b → i ≤ length side → Adds (IsOfRule number left) (AsksIn number left) a b
adds_side number i side left e h a b x g = record {
  only = λ l f pair j. ⊎_elim (λ k. inl k) (λ k. let low = k.1 in let long = count-patterns side in let same = ap count e in inr (k.0, omega (arith, low, g, long, same))) (x.only l f pair j);
  kept = x.kept;
  all = λ l f pair q.
      let (p, at, r, s) = asked_by side pair.1 (Some l) f (ap (λ ps. slice_get (roots_asked ps) pair.1) e ∙ q.1) (ap (λ ps. slice_get (firsts_asked ps) pair.1) e ∙ q.2) in
      let low = slice_get_within side pair.1 p at in
      x.all l f pair (q.0, omega (arith, low, h), p, at, r, s);
}

-- ---- the rules

-- the places of the first rules
pub record AreBelow (R : List Rule) (n : ℕ) (heads : Heads) : Type 0 where
  pub places : (l : Label) (first : Option Label) (pair : ℕ × ℕ) → pair ∈ below_of heads l first → IsPlace R pair
  pub asking : (l : Label) (first : Option Label) (pair : ℕ × ℕ) → pair.0 < n → IsAsking R l first pair → pair ∈ below_of heads l first

pub below_none : (R : List Rule) (heads : Heads) → ((k : ℕ) → list_at heads.broad k ≡ []) → ((k : ℕ) → list_at heads.narrow k ≡ []) → AreBelow R 0 heads
below_none R heads x y = record {
  places = λ l f pair i. absurd (none l f pair i);
  asking = λ l f pair h q. absurd (omega (arith, h));
}
  where
    none : (l : Label) (f : Option Label) (pair : ℕ × ℕ) → pair ∈ below_of heads l f → ⊥
    none l None pair i = subst (λ ps. pair ∈ ps) (x l.0) i
    none l (Some k) pair i = subst (λ ps. pair ∈ ps) (y (key_of l k)) i

pub below_rule : (R : List Rule) (n : ℕ) (rule : Rule) → n < length R → rule ≡ get_or R n rule → (a b : Heads) → AreBelow R n a
    → Adds (IsOfRule n rule.left) (AsksIn n rule.left) a b → AreBelow R (n + 1) b
below_rule R n rule h is a b x y = record {
  places = λ l f pair i. ⊎_elim (λ j. x.places l f pair j) (λ j. (rule, subst (λ k. slice_get R k ≡ Some rule) (sym j.0) here, j.1)) (y.only l f pair i);
  asking = asking;
}
  where
    here : slice_get R n ≡ Some rule
    here = at_place R n rule h is

    asking : (l : Label) (f : Option Label) (pair : ℕ × ℕ) → pair.0 < n + 1 → IsAsking R l f pair → pair ∈ below_of b l f
    asking l f pair low (other, at, r, s) = ⊎_elim
        (λ less. y.kept l f pair (x.asking l f pair less (other, at, r, s)))
        (λ same.
        let z = sym at ∙ ap (slice_get R) same ∙ here in
        let alike : other ≡ rule = cc in
        y.all l f pair (same, ap (λ (o : Rule). slice_get (roots_asked o.left) pair.1) (sym alike) ∙ r, ap (λ (o : Rule). slice_get (firsts_asked o.left) pair.1) (sym alike) ∙ s))
        (before_or_last pair.0 n low)
