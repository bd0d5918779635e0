-- How a reader with one token of sight goes on. The grammar's parts are never empty, and a table says with which sorts each
-- may begin.
use Rattle.std.proofs.Common.{◌≡◌, Bool, true, false, ◌||◌, cond, refl, sym, ◌∙◌, subst, ⊎_elim, inl, inr, List, [], ◌∷◌, arith}
use Rattle.std.specs.Prelude.{◌⊎◌}
use Rattle.std.proofs.lemmas.Bool.{false≢true}
use Rattle.std.proofs.lemmas.Bool.Decides.{nat_tests}
use Rattle.qs_lex.specs.declared.token.Token.{Token}
use Rattle.qs_lex.specs.Grammar.{Sort, sort_of, Form, one, ◌·◌, ◌∣◌, optional, repeated, Grammar, IsWhole, whole_token, whole_part, whole_sequence, whole_this, whole_other, left_out, not_left_out, no_more, one_more, Begins, nothing_yet, begins_token, begins_part, begins_first, begins_behind, begins_this, begins_other, begins_optional, begins_next, begins_later}
use Rattle.qs_lex.specs.Expecting.{same_sort}
use Rattle.qs_lex.specs.working.Expecting.{nullable, first, starts, BeginAll, AllWhole, may_end}

pub same_itself : (s k : Sort) → k ≡ s → same_sort s k ≡ true
same_itself s k e = rw e (grind (arith, nat_tests))

-- the first token is of a sort that the test knows
abbrev pub Fronts : (Sort → Bool) → List Token → Type 0
Fronts p [] = ⊥
Fronts p (t ∷ ts) = p (sort_of t.kind) ≡ true

-- the same where there may be none
abbrev pub FrontsOrNone : (Sort → Bool) → List Token → Type 0
FrontsOrNone p [] = Unit {0}
FrontsOrNone p (t ∷ ts) = p (sort_of t.kind) ≡ true

fronts-weaker : (p q : Sort → Bool) → ((k : Sort) → p k ≡ true → q k ≡ true) → (ts : List Token) → Fronts p ts → Fronts q ts
fronts-weaker p q weaker [] h = absurd h
fronts-weaker p q weaker (t ∷ ts) h = weaker (sort_of t.kind) h

fronts_or_none : (p : Sort → Bool) (ts : List Token) → Fronts p ts → FrontsOrNone p ts
fronts_or_none p [] h = tt
fronts_or_none p (t ∷ ts) h = h

fronts_or_none-weaker : (p q : Sort → Bool) → ((k : Sort) → p k ≡ true → q k ≡ true) → (ts : List Token) → FrontsOrNone p ts → FrontsOrNone q ts
fronts_or_none-weaker p q weaker [] h = tt
fronts_or_none-weaker p q weaker (t ∷ ts) h = weaker (sort_of t.kind) h

or_left : (a b : Bool) → a ≡ true → (a || b) ≡ true
or_left true b e = refl
or_left false b e = absurd (false≢true e)

or_right : (a b : Bool) → b ≡ true → (a || b) ≡ true
or_right true b e = refl
or_right false b e = e

-- of a choice by a test, `c`: the first in any case, the second where the test holds
either_first : (c a b : Bool) → a ≡ true → cond c (a || b) a ≡ true
either_first true a b e = or_left a b e
either_first false a b e = e

either_second : (c a b : Bool) → c ≡ true → b ≡ true → cond c (a || b) a ≡ true
either_second true a b c e = or_right a b e
either_second false a b c e = absurd (false≢true c)

both_true : (c b : Bool) → c ≡ true → b ≡ true → cond c b false ≡ true
both_true true b c e = e
both_true false b c e = absurd (false≢true c)

some_left : (c b : Bool) → c ≡ true → cond c true b ≡ true
some_left true b c = refl
some_left false b c = absurd (false≢true c)

some_right : (c b : Bool) → b ≡ true → cond c true b ≡ true
some_right true b c = refl
some_right false b c = c

-- what is known of a grammar: its table says at least with which sorts each line may begin, and no line may be empty
pub record IsTable {Part : Type 0} (line : Grammar Part) (table : Part → Sort → Bool) : Type 0 where
  pub begins : (p : Part) (k : Sort) → first table (line p) k ≡ true → table p k ≡ true
  pub never_empty : (p : Part) → nullable (line p) ≡ false

-- a whole form is empty, which it may be, or its first token is one with which it may begin
abbrev pub WholeFront : {Part : Type 0} → (Part → Sort → Bool) → Form Part → List Token → List Token → Type 0
WholeFront table f ts rest = ((nullable f ≡ true) × (ts ≡ rest)) ⊎ Fronts (first table f) ts

pub whole_front : {Part : Type 0} {line : Grammar Part} {f : Form Part} {ts rest : List Token} (table : Part → Sort → Bool)
    → IsTable line table → IsWhole line f ts rest → WholeFront table f ts rest
whole_front table ok (whole_token {sort} {t} e) = inr (same_itself sort (sort_of t.kind) e)
whole_front table ok (whole_part {name} {ts} w) =
    ⊎_elim (λ n. absurd (false≢true (sym (ok.never_empty name) ∙ n.0)))
    (λ h. inr (fronts-weaker _ (table name) (ok.begins name) ts h))
    (whole_front table ok w)
whole_front table ok (whole_sequence {first = f} {behind = g} {ts} w v) =
    ⊎_elim
    (λ n. ⊎_elim
    (λ m. inl (both_true (nullable f) (nullable g) n.0 m.0, n.1 ∙ m.1))
    (λ h. inr (fronts-weaker (first table g) (first table (f · g)) (λ k e. either_second (nullable f) (first table f k) (first table g k) n.0 e) ts (subst (λ us. Fronts (first table g) us) (sym n.1) h)))
    (whole_front table ok v))
    (λ h. inr (fronts-weaker (first table f) (first table (f · g)) (λ k e. either_first (nullable f) (first table f k) (first table g k) e) ts h))
    (whole_front table ok w)
whole_front table ok (whole_this {this = f} {other = g} {ts} w) =
    ⊎_elim (λ n. inl (some_left (nullable f) (nullable g) n.0, n.1))
    (λ h. inr (fronts-weaker (first table f) (first table (f ∣ g)) (λ k e. or_left (first table f k) (first table g k) e) ts h))
    (whole_front table ok w)
whole_front table ok (whole_other {this = f} {other = g} {ts} w) =
    ⊎_elim (λ n. inl (some_right (nullable f) (nullable g) n.0, n.1))
    (λ h. inr (fronts-weaker (first table g) (first table (f ∣ g)) (λ k e. or_right (first table f k) (first table g k) e) ts h))
    (whole_front table ok w)
whole_front table ok left_out = inl (refl, refl)
whole_front table ok (not_left_out w) = ⊎_elim (λ n. inl (refl, n.1)) (λ h. inr h) (whole_front table ok w)
whole_front table ok no_more = inl (refl, refl)
whole_front table ok (one_more {member = f} {ts} w v) =
    ⊎_elim
    (λ n. ⊎_elim (λ m. inl (refl, n.1 ∙ m.1)) (λ h. inr (subst (λ us. Fronts (first table f) us) (sym n.1) h)) (whole_front table ok v))
    (λ h. inr h)
    (whole_front table ok w)

-- a form that is begun has a first token with which it may begin, or no token yet
pub begin_front : {Part : Type 0} {line : Grammar Part} {f : Form Part} {ts : List Token} (table : Part → Sort → Bool)
    → IsTable line table → Begins line f ts → FrontsOrNone (first table f) ts
begin_front table ok nothing_yet = tt
begin_front table ok (begins_token {sort} {t} e) = same_itself sort (sort_of t.kind) e
begin_front table ok (begins_part {name} {ts} b) = fronts_or_none-weaker _ (table name) (ok.begins name) ts (begin_front table ok b)
begin_front table ok (begins_first {first = f} {behind = g} {ts} b) =
    fronts_or_none-weaker (first table f) (first table (f · g)) (λ k e. either_first (nullable f) (first table f k) (first table g k) e) ts (begin_front table ok b)
begin_front table ok (begins_behind {first = f} {behind = g} {ts} w b) =
    ⊎_elim
    (λ n. fronts_or_none-weaker (first table g) (first table (f · g)) (λ k e. either_second (nullable f) (first table f k) (first table g k) n.0 e) ts (subst (λ us. FrontsOrNone (first table g) us) (sym n.1) (begin_front table ok b)))
    (λ h. fronts_or_none-weaker (first table f) (first table (f · g)) (λ k e. either_first (nullable f) (first table f k) (first table g k) e) ts (fronts_or_none (first table f) ts h))
    (whole_front table ok w)
begin_front table ok (begins_this {this = f} {other = g} {ts} b) =
    fronts_or_none-weaker (first table f) (first table (f ∣ g)) (λ k e. or_left (first table f k) (first table g k) e) ts (begin_front table ok b)
begin_front table ok (begins_other {this = f} {other = g} {ts} b) =
    fronts_or_none-weaker (first table g) (first table (f ∣ g)) (λ k e. or_right (first table f k) (first table g k) e) ts (begin_front table ok b)
begin_front table ok (begins_optional b) = begin_front table ok b
begin_front table ok (begins_next b) = begin_front table ok b
begin_front table ok (begins_later {member = f} {ts} w b) =
    ⊎_elim
    (λ n. subst (λ us. FrontsOrNone (first table f) us) (sym n.1) (begin_front table ok b))
    (λ h. fronts_or_none (first table f) ts h)
    (whole_front table ok w)

pub begin_all_front : {Part : Type 0} {line : Grammar Part} (fs : List (Form Part)) (ts : List Token) (table : Part → Sort → Bool)
    → IsTable line table → BeginAll line fs ts → FrontsOrNone (starts table fs) ts
begin_all_front [] ts table ok e = rw e tt
begin_all_front (f ∷ fs) ts table ok h =
    ⊎_elim
    (λ b. fronts_or_none-weaker (first table f) (starts table (f ∷ fs)) (λ k e. either_first (nullable f) (first table f k) (starts table fs k) e) ts (begin_front table ok b))
    (λ m. ⊎_elim
    (λ n. fronts_or_none-weaker (starts table fs) (starts table (f ∷ fs)) (λ k e. either_second (nullable f) (first table f k) (starts table fs k) n.0 e) ts
    (subst (λ us. FrontsOrNone (starts table fs) us) (sym n.1) (begin_all_front fs m.0 table ok m.2)))
    (λ g. fronts_or_none-weaker (first table f) (starts table (f ∷ fs)) (λ k e. either_first (nullable f) (first table f k) (starts table fs k) e) ts (fronts_or_none (first table f) ts g))
    (whole_front table ok m.1))
    h

-- what is whole has begun; and no token begins any forms
pub whole_begins : {Part : Type 0} {line : Grammar Part} {f : Form Part} {ts rest : List Token} → IsWhole line f ts rest → rest ≡ [] → Begins line f ts
whole_begins {line} {f = one s} (whole_token {t} e) n = subst (λ us. Begins line (one s) (t ∷ us)) (sym n) (begins_token e)
whole_begins (whole_part w) n = begins_part (whole_begins w n)
whole_begins (whole_sequence w v) n = begins_behind w (whole_begins v n)
whole_begins (whole_this w) n = begins_this (whole_begins w n)
whole_begins (whole_other w) n = begins_other (whole_begins w n)
whole_begins {line} (left_out {member = f}) n = subst (λ us. Begins line (optional f) us) (sym n) nothing_yet
whole_begins (not_left_out w) n = begins_optional (whole_begins w n)
whole_begins {line} (no_more {member = f}) n = subst (λ us. Begins line (repeated f) us) (sym n) nothing_yet
whole_begins (one_more w v) n = begins_later w (whole_begins v n)

pub begin_all-nil : {Part : Type 0} (line : Grammar Part) (fs : List (Form Part)) → BeginAll line fs []
begin_all-nil line [] = refl
begin_all-nil line (f ∷ fs) = inl nothing_yet

pub all_whole_begins : {Part : Type 0} (line : Grammar Part) (fs : List (Form Part)) (ts : List Token) → AllWhole line fs ts → BeginAll line fs ts
all_whole_begins line [] ts e = e
all_whole_begins line (f ∷ fs) ts m = inr (m.0, m.1, all_whole_begins line fs m.0 m.2)

pub all_whole-nil : {Part : Type 0} {line : Grammar Part} {table : Part → Sort → Bool} (fs : List (Form Part)) (ts : List Token)
    → IsTable line table → ts ≡ [] → AllWhole line fs ts → may_end fs ≡ true
all_whole-nil [] ts ok e m = refl
all_whole-nil {table} (f ∷ fs) ts ok e m =
    ⊎_elim
    (λ n. both_true (nullable f) (may_end fs) n.0 (all_whole-nil fs m.0 ok (sym n.1 ∙ e) m.2))
    (λ h. absurd (subst (λ us. Fronts (first table f) us) e h))
    (whole_front table ok m.1)
