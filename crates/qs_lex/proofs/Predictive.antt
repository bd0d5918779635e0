-- A form that is whole leads a reader that expects it to what it expects behind it, where the next token can't go on with the
-- form.
use Rattle.std.proofs.Common.{◌≡◌, Bool, true, false, ◌||◌, cond, refl, sym, ◌∙◌, subst, ⊎_elim, List, [], ◌∷◌}
use Rattle.std.proofs.lemmas.Bool.{false≢true}
use Rattle.qs_lex.specs.declared.token.Token.{Token}
use Rattle.qs_lex.specs.Grammar.{Sort, sort_of, Form, part, ◌·◌, ◌∣◌, optional, repeated, Grammar, IsWhole, whole_token, whole_part, whole_sequence, whole_this, whole_other, left_out, not_left_out, no_more, one_more}
use Rattle.qs_lex.specs.Expecting.{NextIsNo}
use Rattle.qs_lex.specs.working.Expecting.{nullable, first, starts, goes_on, Apart, IsPredictive, Leads}
use Rattle.qs_lex.proofs.Expected.{IsTable, Fronts, whole_front}
use Rattle.qs_lex.proofs.Going.{leads_on, leads_token, leads_part, leads_sequence, leads_this, leads_other, leads_without, leads_with, leads_done, leads_again}

-- what is known of the lines of a grammar
pub record IsPredicted {Part : Type 0} (line : Grammar Part) (table more : Part → Sort → Bool) : Type 0 where
  pub table_is : IsTable line table
  pub goes : (p : Part) (k : Sort) → goes_on table more (line p) k ≡ true → more p k ≡ true
  pub predictive : (p : Part) → IsPredictive table more (line p)

pub or_false_left : (a b : Bool) → (a || b) ≡ false → a ≡ false
or_false_left true b e = e
or_false_left false b e = refl

or_false_right : (a b : Bool) → (a || b) ≡ false → b ≡ false
or_false_right true b e = absurd (false≢true (sym e))
or_false_right false b e = e

or_false : (a b : Bool) → a ≡ false → b ≡ false → (a || b) ≡ false
or_false true b e f = e
or_false false b e f = f

pub not_true : (a : Bool) → (a ≡ true → ⊥) → a ≡ false
not_true true n = absurd (n refl)
not_true false n = refl

-- what implies a test that fails, fails
weaker_fails : (a b : Bool) → (a ≡ true → b ≡ true) → b ≡ false → a ≡ false
weaker_fails a b w n = not_true a (λ e. false≢true (sym n ∙ w e))

next_weaker : (p q : Sort → Bool) → ((k : Sort) → q k ≡ false → p k ≡ false) → (ts : List Token) → NextIsNo q ts → NextIsNo p ts
next_weaker p q w [] n = tt
next_weaker p q w (t ∷ ts) n = w (sort_of t.kind) n

pub next_apart : (p q : Sort → Bool) → Apart p q → (ts : List Token) → Fronts p ts → NextIsNo q ts
next_apart p q apart [] h = absurd h
next_apart p q apart (t ∷ ts) h = apart (sort_of t.kind) h

pub some_front : (p : Sort → Bool) (ts : List Token) → Fronts p ts → ts ≡ [] → ⊥
some_front p [] h e = h
some_front p (t ∷ ts) h e = absurd cc

-- the next token is none of both
pub next_neither : (p q : Sort → Bool) (ts : List Token) → NextIsNo p ts → NextIsNo q ts → NextIsNo (λ k. p k || q k) ts
next_neither p q [] m n = tt
next_neither p q (t ∷ ts) m n = or_false (p (sort_of t.kind)) (q (sort_of t.kind)) m n

-- what a sequence can't go on with, its last member can't, nor its first where the last may be empty
sequence_last : (c a b d : Bool) → cond c ((a || b) || d) d ≡ false → d ≡ false
sequence_last true a b d e = or_false_right (a || b) d e
sequence_last false a b d e = e

sequence_first : (c a b d : Bool) → c ≡ true → cond c ((a || b) || d) d ≡ false → b ≡ false
sequence_first true a b d c e = or_false_right a b (or_false_left (a || b) d e)
sequence_first false a b d c e = absurd (false≢true c)

starts_none : (c a b : Bool) → a ≡ false → (c ≡ true → b ≡ false) → cond c (a || b) a ≡ false
starts_none true a b e f = or_false a b e (f refl)
starts_none false a b e f = e

-- none of the sorts with which the form may go on begins what stands behind
abbrev pub Refused : {Part : Type 0} → (table more : Part → Sort → Bool) → Form Part → List (Form Part) → Type 0
Refused table more f behind = (k : Sort) → starts table behind k ≡ true → goes_on table more f k ≡ false

-- what is refused behind a form is refused behind its parts
module _ {Part : Type 0} (table more : Part → Sort → Bool) (behind : List (Form Part)) where
  pub refused_first : (f g : Form Part) → Apart (first table g) (goes_on table more f) → Refused table more (f · g) behind → Refused table more f (g ∷ behind)
  refused_first f g apart refused k s =
      not_true (goes_on table more f k) (λ e. false≢true (sym (starts_none (nullable g) (first table g k) (starts table behind k)
      (not_true (first table g k) (λ a. false≢true (sym (apart k a) ∙ e)))
      (λ c. not_true (starts table behind k) (λ b. false≢true (sym (sequence_first (nullable g) (first table g k) (goes_on table more f k) (goes_on table more g k) c (refused k b)) ∙ e)))) ∙ s))

  pub refused_last : (f g : Form Part) → Refused table more (f · g) behind → Refused table more g behind
  refused_last f g refused k s = sequence_last (nullable g) (first table g k) (goes_on table more f k) (goes_on table more g k) (refused k s)

  pub refused_this : (f g : Form Part) → Refused table more (f ∣ g) behind → Refused table more f behind
  refused_this f g refused k s = or_false_left (goes_on table more f k) (goes_on table more g k) (refused k s)

  pub refused_other : (f g : Form Part) → Refused table more (f ∣ g) behind → Refused table more g behind
  refused_other f g refused k s = or_false_right (goes_on table more f k) (goes_on table more g k) (refused k s)

  pub refused_member : (f : Form Part) → Refused table more (optional f) behind → Refused table more f behind
  refused_member f refused k s = or_false_right (first table f k) (goes_on table more f k) (refused k s)

  pub refused_again : (f : Form Part) → Apart (first table f) (goes_on table more f) → Refused table more (repeated f) behind → Refused table more f (repeated f ∷ behind)
  refused_again f apart refused k s =
      not_true (goes_on table more f k) (λ e. false≢true (sym (or_false (first table f k) (starts table behind k)
      (not_true (first table f k) (λ a. false≢true (sym (apart k a) ∙ e)))
      (not_true (starts table behind k) (λ b. false≢true (sym (or_false_right (first table f k) (goes_on table more f k) (refused k b)) ∙ e)))) ∙ s))

  -- what begins a member doesn't begin what stands behind
  pub refused_front : (f : Form Part) (ts : List Token) → Refused table more (optional f) behind → Fronts (first table f) ts → NextIsNo (starts table behind) ts
  refused_front f ts refused front =
      next_apart (first table f) (starts table behind)
      (λ k a. not_true (starts table behind k) (λ s. false≢true (sym (or_false_left (first table f k) (goes_on table more f k) (refused k s)) ∙ a))) ts front

module _ {Part : Type 0} {line : Grammar Part} (table more : Part → Sort → Bool) (ok : IsPredicted line table more) where
  pub refused_part : (p : Part) (behind : List (Form Part)) → Refused table more (part p) behind → Refused table more (line p) behind
  refused_part p behind refused k s = weaker_fails (goes_on table more (line p) k) (more p k) (ok.goes p k) (refused k s)

  -- of what may be left out or repeated, a member begins here
  pub leads_into : (f : Form Part) (behind : List (Form Part)) (ts : List Token) → Refused table more (optional f) behind → Fronts (first table f) ts
      → Leads line (optional f ∷ behind) ts (f ∷ behind) ts
  leads_into f behind ts refused front =
      leads_with f behind ts ok.table_is (λ e. absurd (some_front (first table f) ts front e)) (refused_front table more behind f ts refused front)

  pub leads_round : (f : Form Part) (behind : List (Form Part)) (ts : List Token) → Refused table more (repeated f) behind → Fronts (first table f) ts
      → Leads line (repeated f ∷ behind) ts (f ∷ repeated f ∷ behind) ts
  leads_round f behind ts refused front =
      leads_again f behind ts ok.table_is (λ e. absurd (some_front (first table f) ts front e)) (refused_front table more behind f ts refused front)

  pub whole_leads : {f : Form Part} {ts rest : List Token} (behind : List (Form Part))
      → IsPredictive table more f → IsWhole line f ts rest → NextIsNo (goes_on table more f) rest
      → Refused table more f behind → Leads line (f ∷ behind) ts behind rest
  whole_leads behind good (whole_token {sort} {t} {rest} e) next refused = leads_token line sort behind t rest e
  whole_leads behind good (whole_part {name} {ts} {rest} w) next refused =
      leads_on (leads_part line name behind ts)
      (whole_leads behind (ok.predictive name) w
      (next_weaker (goes_on table more (line name)) (more name) (λ k n. weaker_fails (goes_on table more (line name) k) (more name k) (ok.goes name k) n) rest next)
      (refused_part name behind refused))
  whole_leads behind good (whole_sequence {first = f} {behind = g} {ts} {middle} {rest} w v) next refused =
      let last : NextIsNo (goes_on table more g) rest =
      next_weaker (goes_on table more g) (goes_on table more (f · g)) (λ k n. sequence_last (nullable g) (first table g k) (goes_on table more f k) (goes_on table more g k) n) rest next
      in
      let between : NextIsNo (goes_on table more f) middle =
      ⊎_elim
      (λ n. subst (λ us. NextIsNo (goes_on table more f) us) (sym n.1)
      (next_weaker (goes_on table more f) (goes_on table more (f · g))
      (λ k m. sequence_first (nullable g) (first table g k) (goes_on table more f k) (goes_on table more g k) n.0 m) rest next))
      (λ h. next_apart (first table g) (goes_on table more f) good.2 middle h)
      (whole_front table ok.table_is v)
      in
      leads_on (leads_sequence line f g behind ts)
      (leads_on (whole_leads (g ∷ behind) good.0 w between (refused_first table more behind f g good.2 refused)) (whole_leads behind good.1 v last (refused_last table more behind f g refused)))
  whole_leads behind good (whole_this {this = f} {other = g} {ts} {rest} w) next refused =
      leads_on
      (leads_this f g behind ts ok.table_is good.1
      (⊎_elim (λ n. absurd (false≢true (sym good.0 ∙ n.0))) (λ h. next_apart (first table f) (first table g) good.2 ts h) (whole_front table ok.table_is w)))
      (whole_leads behind good.4 w
      (next_weaker (goes_on table more f) (goes_on table more (f ∣ g)) (λ k n. or_false_left (goes_on table more f k) (goes_on table more g k) n) rest next)
      (refused_this table more behind f g refused))
  whole_leads behind good (whole_other {this = f} {other = g} {ts} {rest} w) next refused =
      leads_on
      (leads_other f g behind ts ok.table_is good.0
      (⊎_elim (λ n. absurd (false≢true (sym good.1 ∙ n.0))) (λ h. next_apart (first table g) (first table f) good.3 ts h) (whole_front table ok.table_is w)))
      (whole_leads behind good.5 w
      (next_weaker (goes_on table more g) (goes_on table more (f ∣ g)) (λ k n. or_false_right (goes_on table more f k) (goes_on table more g k) n) rest next)
      (refused_other table more behind f g refused))
  whole_leads behind good (left_out {member = f} {ts}) next refused =
      leads_without f behind ts ok.table_is good.0
      (next_weaker (first table f) (goes_on table more (optional f)) (λ k n. or_false_left (first table f k) (goes_on table more f k) n) ts next)
  whole_leads behind good (not_left_out {member = f} {ts} {rest} w) next refused =
      let front : Fronts (first table f) ts = ⊎_elim (λ n. absurd (false≢true (sym good.0 ∙ n.0))) (λ h. h) (whole_front table ok.table_is w) in
      leads_on (leads_into f behind ts refused front)
      (whole_leads behind good.1 w
      (next_weaker (goes_on table more f) (goes_on table more (optional f)) (λ k n. or_false_right (first table f k) (goes_on table more f k) n) rest next)
      (refused_member table more behind f refused))
  whole_leads behind good (no_more {member = f} {ts}) next refused =
      leads_done f behind ts ok.table_is good.0
      (next_weaker (first table f) (goes_on table more (repeated f)) (λ k n. or_false_left (first table f k) (goes_on table more f k) n) ts next)
  whole_leads behind good (one_more {member = f} {ts} {middle} {rest} w v) next refused =
      let front : Fronts (first table f) ts = ⊎_elim (λ n. absurd (false≢true (sym good.0 ∙ n.0))) (λ h. h) (whole_front table ok.table_is w) in
      let here : NextIsNo (goes_on table more f) rest =
      next_weaker (goes_on table more f) (goes_on table more (repeated f)) (λ k n. or_false_right (first table f k) (goes_on table more f k) n) rest next
      in
      let between : NextIsNo (goes_on table more f) middle =
      ⊎_elim (λ n. subst (λ us. NextIsNo (goes_on table more f) us) (sym n.1) here) (λ h. next_apart (first table f) (goes_on table more f) good.2 middle h)
      (whole_front table ok.table_is v)
      in
      leads_on (leads_round f behind ts refused front)
      (leads_on (whole_leads (repeated f ∷ behind) good.1 w between (refused_again table more behind f good.2 refused)) (whole_leads behind good v next refused))
