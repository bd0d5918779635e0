-- A grammar that is read with one token of sight, whose parts begin with other parts only down to a first one, decides all
-- tokens: they are a form, or a reader that expects the form stops.
use Rattle.std.proofs.Common.{◌≡◌, ℕ, zero, suc, ◌<◌, ◌≤◌, Bool, true, false, ◌||◌, cond, refl, sym, ◌∙◌, ap, ⊎_elim, inl, inr, List, [], ◌∷◌, length, arith}
use Rattle.std.specs.Prelude.{◌⊎◌}
use Rattle.std.proofs.lemmas.Bool.{false≢true}
use Rattle.qs_lex.specs.declared.token.Token.{Token}
use Rattle.qs_lex.specs.Grammar.{Sort, sort_of, IsOf, Form, one, part, ◌·◌, ◌∣◌, optional, repeated, Grammar, IsWhole, whole_token, whole_part, whole_sequence, whole_this, whole_other, left_out, not_left_out, no_more, one_more}
use Rattle.qs_lex.specs.Expecting.{same_sort, NextIsNo}
use Rattle.qs_lex.specs.working.Expecting.{nullable, first, starts, may_end, IsPredictive, Leads, Stops}
use Rattle.qs_lex.proofs.Expected.{Fronts}
use Rattle.qs_lex.proofs.Going.{leads_on, leads_token, leads_part, leads_sequence, leads_this, leads_other, leads_without, leads_done, stops_here, stops_behind}
use Rattle.qs_lex.proofs.Sorts.{same_is}
use Rattle.qs_lex.proofs.Predictive.{IsPredicted, next_apart, next_neither, Refused, refused_first, refused_last, refused_this, refused_other, refused_member, refused_again, refused_part, leads_into, leads_round}
use Rattle.qs_lex.proofs.Stopping.{nothing_next}

-- a whole form leaves no more tokens than there were
whole_shorter : {Part : Type 0} {line : Grammar Part} {f : Form Part} {ts rest : List Token} → IsWhole line f ts rest → length rest ≤ length ts
whole_shorter (whole_token e) = omega arith
whole_shorter (whole_part w) = whole_shorter w
whole_shorter (whole_sequence w v) = omega (arith, whole_shorter w, whole_shorter v)
whole_shorter (whole_this w) = whole_shorter w
whole_shorter (whole_other w) = whole_shorter w
whole_shorter left_out = omega arith
whole_shorter (not_left_out w) = whole_shorter w
whole_shorter no_more = omega arith
whole_shorter (one_more w v) = omega (arith, whole_shorter w, whole_shorter v)

-- the next token passes a test, or there is none that does
fronts_or_not : (p : Sort → Bool) (ts : List Token) → Fronts p ts ⊎ NextIsNo p ts
fronts_or_not p [] = inr tt
fronts_or_not p (t ∷ ts) = by (p (sort_of t.kind)) refl
  where
    by : (b : Bool) → p (sort_of t.kind) ≡ b → (p (sort_of t.kind) ≡ true) ⊎ (p (sort_of t.kind) ≡ false)
    by true e = inl e
    by false e = inr e

-- the parts with which a form may begin have ranks below n
abbrev pub Below : {Part : Type 0} → (Part → ℕ) → ℕ → Form Part → Type 0
Below rank n (one s) = Unit {0}
Below rank n (part p) = rank p < n
Below rank n (f · g) = Below rank n f × (nullable f ≡ true → Below rank n g)
Below rank n (f ∣ g) = Below rank n f × Below rank n g
Below rank n (optional f) = Below rank n f
Below rank n (repeated f) = Below rank n f

all_below : {Part : Type 0} (rank : Part → ℕ) (n : ℕ) → ((p : Part) → rank p < n) → (f : Form Part) → Below rank n f
all_below rank n low (one s) = tt
all_below rank n low (part p) = low p
all_below rank n low (f · g) = (all_below rank n low f, λ e. all_below rank n low g)
all_below rank n low (f ∣ g) = (all_below rank n low f, all_below rank n low g)
all_below rank n low (optional f) = all_below rank n low f
all_below rank n low (repeated f) = all_below rank n low f

module _ {Part : Type 0} {line : Grammar Part} (table more : Part → Sort → Bool) (ok : IsPredicted line table more) where
  -- the tokens before the rest are the form, and lead a reader to what it expects behind it
  record IsPassed (f : Form Part) (ts rest : List Token) : Type 0 where
    whole : IsWhole line f ts rest
    leads : (behind : List (Form Part)) → Refused table more f behind → Leads line (f ∷ behind) ts behind rest

  abbrev IsStopped : Form Part → List Token → ℕ → Type 0
  IsStopped f ts left = (behind : List (Form Part)) → Refused table more f behind → Stops line (f ∷ behind) ts left

  abbrev IsDecided : Form Part → List Token → Type 0
  IsDecided f ts = ((rest : List Token) × IsPassed f ts rest) ⊎ ((left : ℕ) × IsStopped f ts left)

  -- a reader goes on with one form in place of another
  through : (f g : Form Part) {ts : List Token} → ((rest : List Token) → IsWhole line g ts rest → IsWhole line f ts rest)
      → ((behind : List (Form Part)) → Refused table more f behind → Refused table more g behind × Leads line (f ∷ behind) ts (g ∷ behind) ts) → IsDecided g ts → IsDecided f ts
  through f g whole comes d =
      ⊎_elim
      (λ p. inl (p.0, record { whole = whole p.0 p.1.whole; leads = λ behind r. let c = comes behind r in leads_on c.1 (p.1.leads behind c.0) }))
      (λ s. inr (s.0, λ behind r. let c = comes behind r in stops_behind c.1 (s.1 behind c.0)))
      d

  -- with two, one behind the other
  through_both : (f g h : Form Part) {ts : List Token} → ((middle rest : List Token) → IsWhole line g ts middle → IsWhole line h middle rest → IsWhole line f ts rest)
      → ((behind : List (Form Part)) → Refused table more f behind → Refused table more g (h ∷ behind) × Refused table more h behind × Leads line (f ∷ behind) ts (g ∷ h ∷ behind) ts)
      → IsDecided g ts → ((middle : List Token) → IsWhole line g ts middle → IsDecided h middle) → IsDecided f ts
  through_both f g h {ts} whole comes d next = ⊎_elim (λ p. second p.0 p.1 (next p.0 p.1.whole)) (λ s. inr (s.0, λ behind r. let c = comes behind r in stops_behind c.2 (s.1 (h ∷ behind) c.0))) d
    where
      second : (middle : List Token) → IsPassed g ts middle → IsDecided h middle → IsDecided f ts
      second middle p e =
          ⊎_elim
          (λ q. inl (
            q.0,
            record {
              whole = whole middle q.0 p.whole q.1.whole;
              leads = λ behind r. let c = comes behind r in leads_on c.2 (leads_on (p.leads (h ∷ behind) c.0) (q.1.leads behind c.1));
            },
          ))
          (λ s. inr (s.0, λ behind r. let c = comes behind r in stops_behind (leads_on c.2 (p.leads (h ∷ behind) c.0)) (s.1 behind c.1)))
          e

  one_decided : (s : Sort) (ts : List Token) → IsDecided (one s) ts
  one_decided s [] = inr (0, λ behind r. stops_here (one s ∷ behind) [] ok.table_is (λ e. refl) tt)
  one_decided s (t ∷ ts) = by (same_sort s (sort_of t.kind)) refl
    where
      by : (b : Bool) → same_sort s (sort_of t.kind) ≡ b → IsDecided (one s) (t ∷ ts)
      by true e = let is : IsOf s t = same_is s (sort_of t.kind) e in inl (ts, record { whole = whole_token is; leads = λ behind r. leads_token line s behind t ts is })
      by false e = inr (length (t ∷ ts), λ behind r. stops_here (one s ∷ behind) (t ∷ ts) ok.table_is (λ n. refl) e)

  -- what begins with none of two forms, neither of which is empty
  neither : (f g : Form Part) (ts : List Token) → nullable f ≡ false → nullable g ≡ false → NextIsNo (first table f) ts → NextIsNo (first table g) ts → IsDecided (f ∣ g) ts
  neither f g ts some other n m =
      inr (length ts, λ behind r. stops_here ((f ∣ g) ∷ behind) ts ok.table_is (λ e. ends behind) (none behind ts (next_neither (first table f) (first table g) ts n m)))
    where
      not_empty : nullable (f ∣ g) ≡ false
      not_empty = ap (λ b. cond b true (nullable g)) some ∙ other

      ends : (behind : List (Form Part)) → may_end ((f ∣ g) ∷ behind) ≡ false
      ends behind = ap (λ b. cond b (may_end behind) false) not_empty

      none : (behind : List (Form Part)) (ts : List Token) → NextIsNo (first table (f ∣ g)) ts → NextIsNo (starts table ((f ∣ g) ∷ behind)) ts
      none behind [] n = tt
      none behind (t ∷ ts) n = ap (λ b. cond b (first table (f ∣ g) (sort_of t.kind) || starts table behind (sort_of t.kind)) (first table (f ∣ g) (sort_of t.kind))) not_empty ∙ n

  -- where fewer tokens are decided, and as many are for the parts with which a form may begin
  module _ (rank : Part → ℕ) (m : ℕ) (fewer : (f : Form Part) → IsPredictive table more f → (ts : List Token) → length ts < m → IsDecided f ts) where
    -- what can't be empty leaves fewer
    whole_fewer : {f : Form Part} {ts rest : List Token} → nullable f ≡ false → IsWhole line f ts rest → length rest < length ts
    whole_fewer some (whole_token e) = omega arith
    whole_fewer some (whole_part {name} w) = whole_fewer (ok.table_is.never_empty name) w
    whole_fewer some (whole_sequence {first = f} {behind = g} w v) = by (nullable f) refl (whole_shorter w) (whole_shorter v) (λ e. whole_fewer e w) (λ e. whole_fewer e v)
      where
        by : {a b c : ℕ} (x : Bool) → nullable f ≡ x → b ≤ a → c ≤ b → (nullable f ≡ false → b < a) → (nullable g ≡ false → c < b) → c < a
        by true e l k first last = let less = last (sym (ap (λ y. cond y (nullable g) false) e) ∙ some) in omega arith
        by false e l k first last = let less = first e in omega arith
    whole_fewer some (whole_this {this = f} {other = g} w) = whole_fewer (by (nullable f) refl) w
      where
        by : (x : Bool) → nullable f ≡ x → nullable f ≡ false
        by true e = absurd (false≢true (sym some ∙ ap (λ y. cond y true (nullable g)) e))
        by false e = e
    whole_fewer some (whole_other {this = f} {other = g} w) = whole_fewer (by (nullable f) refl) w
      where
        by : (x : Bool) → nullable f ≡ x → nullable g ≡ false
        by true e = absurd (false≢true (sym some ∙ ap (λ y. cond y true (nullable g)) e))
        by false e = sym (ap (λ y. cond y true (nullable g)) e) ∙ some
    whole_fewer some left_out = absurd cc
    whole_fewer some (not_left_out w) = absurd cc
    whole_fewer some no_more = absurd cc
    whole_fewer some (one_more w v) = absurd cc

    module _ (n : ℕ) (parts : (p : Part) → rank p < n → (ts : List Token) → length ts ≤ m → IsDecided (line p) ts) where
      form_decided : (f : Form Part) → IsPredictive table more f → Below rank n f → (ts : List Token) → length ts ≤ m → IsDecided f ts
      form_decided (one s) good below ts l = one_decided s ts
      form_decided (part p) good below ts l =
          through (part p) (line p) (λ rest w. whole_part w) (λ behind r. (refused_part table more ok p behind r, leads_part line p behind ts)) (parts p below ts l)
      form_decided (f · g) good below ts l =
          through_both (f · g) f g (λ middle rest w v. whole_sequence w v)
          (λ behind r. (refused_first table more behind f g good.2 r, refused_last table more behind f g r, leads_sequence line f g behind ts))
          (form_decided f good.0 below.0 ts l)
          (λ middle w. by (nullable f) refl middle w (λ e. form_decided g good.1 (below.1 e) middle))
        where
          by : (b : Bool) → nullable f ≡ b → (middle : List Token) → IsWhole line f ts middle → (nullable f ≡ true → length middle ≤ m → IsDecided g middle) → IsDecided g middle
          by true e middle w as_many = as_many e (omega (arith, whole_shorter w, l))
          by false e middle w as_many = fewer g good.1 middle (omega (arith, whole_fewer e w, l))
      form_decided (f ∣ g) good below ts l =
          ⊎_elim
          (λ front. through (f ∣ g) f (λ rest w. whole_this w)
          (λ behind r. (refused_this table more behind f g r, leads_this f g behind ts ok.table_is good.1 (next_apart (first table f) (first table g) good.2 ts front)))
          (form_decided f good.4 below.0 ts l))
          (λ not_this. ⊎_elim
          (λ front. through (f ∣ g) g (λ rest w. whole_other w)
          (λ behind r. (refused_other table more behind f g r, leads_other f g behind ts ok.table_is good.0 not_this))
          (form_decided g good.5 below.1 ts l))
          (λ not_other. neither f g ts good.0 good.1 not_this not_other)
          (fronts_or_not (first table g) ts))
          (fronts_or_not (first table f) ts)
      form_decided (optional f) good below ts l =
          ⊎_elim
          (λ front. through (optional f) f (λ rest w. not_left_out w) (λ behind r. (refused_member table more behind f r, leads_into table more ok f behind ts r front))
          (form_decided f good.1 below ts l))
          (λ other. inl (ts, record { whole = left_out; leads = λ behind r. leads_without f behind ts ok.table_is good.0 other }))
          (fronts_or_not (first table f) ts)
      form_decided (repeated f) good below ts l =
          ⊎_elim
          (λ front. through_both (repeated f) f (repeated f) (λ middle rest w v. one_more w v)
          (λ behind r. (refused_again table more behind f good.2 r, r, leads_round table more ok f behind ts r front))
          (form_decided f good.1 below ts l)
          (λ middle w. fewer (repeated f) good middle (omega (arith, whole_fewer good.0 w, l))))
          (λ other. inl (ts, record { whole = no_more; leads = λ behind r. leads_done f behind ts ok.table_is good.0 other }))
          (fronts_or_not (first table f) ts)

    -- by the rank of a part
    part_decided : ((p : Part) → Below rank (rank p) (line p)) → (n : ℕ) (p : Part) → rank p < n → (ts : List Token) → length ts ≤ m → IsDecided (line p) ts
    part_decided low zero p less ts l = absurd (omega arith)
    part_decided low (suc n) p less ts l =
        form_decided (rank p) (λ q lower. part_decided low n q (omega arith)) (line p) (ok.predictive p) (low p) ts l

  module _ (rank : Part → ℕ) (ranks : ℕ) (low : (p : Part) → rank p < ranks) (falls : (p : Part) → Below rank (rank p) (line p)) where
    decided : (m : ℕ) (f : Form Part) → IsPredictive table more f → (ts : List Token) → length ts < m → IsDecided f ts
    decided zero f good ts l = absurd (omega arith)
    decided (suc m) f good ts l =
        form_decided rank m (decided m) ranks (part_decided rank m (decided m) falls ranks) f good (all_below rank ranks low f) ts (omega arith)

    -- all tokens are the form, or a reader that expects it and nothing behind it stops
    pub whole_or_stops : (f : Form Part) → IsPredictive table more f → (ts : List Token) → IsWhole line f ts [] ⊎ ((left : ℕ) × Stops line (f ∷ []) ts left)
    whole_or_stops f good ts = ⊎_elim (λ p. ended p.0 p.1) (λ s. inr (s.0, s.1 [] (λ k e. absurd (false≢true e)))) (decided (suc (length ts)) f good ts (omega arith))
      where
        ended : (rest : List Token) → IsPassed f ts rest → IsWhole line f ts [] ⊎ ((left : ℕ) × Stops line (f ∷ []) ts left)
        ended [] p = inl p.whole
        ended (t ∷ rest) p =
            inr (length (t ∷ rest), stops_behind (p.leads [] (λ k e. absurd (false≢true e))) (stops_here [] (t ∷ rest) ok.table_is (λ e. absurd cc) (nothing_next (λ k. false) (t ∷ rest) (λ k. refl))))
