-- A form that ends by a token of its own, that is begun, isn't whole and can't go on, stops a reader that expects it, whatever it
-- expects behind it.
use Rattle.std.proofs.Common.{◌≡◌, ◌≢◌, Bool, false, refl, sym, ◌∙◌, ap, subst, ⊎_elim, inl, List, [], ◌∷◌, ◌++◌, length, append_assoc, append-nil}
use Rattle.std.proofs.lemmas.Bool.{false≢true}
use Rattle.qs_lex.specs.declared.token.Token.{Token}
use Rattle.qs_lex.specs.Grammar.{Sort, Form, repeated, Grammar, IsWhole, whole_token, whole_part, whole_sequence, whole_this, whole_other, left_out, not_left_out, no_more, one_more, Begins}
use Rattle.qs_lex.specs.Expecting.{NextIsNo}
use Rattle.qs_lex.specs.working.Expecting.{nullable, first, starts, goes_on, Apart, IsPredictive, BeginAll, AllWhole, Leads, NotWithNext, Stops}
use Rattle.qs_lex.proofs.Expected.{Fronts, FrontsOrNone, whole_front, begin_front, whole_begins}
use Rattle.qs_lex.proofs.Going.{leads_same, leads_on, leads_again, stops_behind}
use Rattle.qs_lex.proofs.Predictive.{IsPredicted, some_front, next_apart, whole_leads}

-- the tokens that are the form, whatever stands behind them
pub record IsFront {Part : Type 0} (line : Grammar Part) (f : Form Part) (ts rest : List Token) : Type 0 where
  pub front : List Token
  pub are : ts ≡ front ++ rest
  pub whole : (us : List Token) → IsWhole line f (front ++ us) us

behind_other : {Part : Type 0} {line : Grammar Part} {f g h : Form Part} {ts middle rest : List Token}
    → ((a b c : List Token) → IsWhole line f a b → IsWhole line g b c → IsWhole line h a c)
    → IsFront line f ts middle → IsFront line g middle rest → IsFront line h ts rest
behind_other {line} {h} {rest} joins p q =
    record {
      front = p.front ++ q.front;
      are = p.are ∙ ap (λ x. p.front ++ x) q.are ∙ sym (append_assoc p.front q.front rest);
      whole = λ us. subst (λ ts. IsWhole line h ts us) (sym (append_assoc p.front q.front us)) (joins (p.front ++ (q.front ++ us)) (q.front ++ us) us (p.whole (q.front ++ us)) (q.whole us));
    }

same_front : {Part : Type 0} {line : Grammar Part} {f h : Form Part} {ts rest : List Token}
    → ((a b : List Token) → IsWhole line f a b → IsWhole line h a b) → IsFront line f ts rest → IsFront line h ts rest
same_front to p = record { front = p.front; are = p.are; whole = λ us. to (p.front ++ us) us (p.whole us) }

pub front_of : {Part : Type 0} {line : Grammar Part} {f : Form Part} {ts rest : List Token} → IsWhole line f ts rest → IsFront line f ts rest
front_of (whole_token {t} e) = record { front = t ∷ []; are = refl; whole = λ us. whole_token e }
front_of (whole_part w) = same_front (λ a b v. whole_part v) (front_of w)
front_of (whole_sequence w v) = behind_other (λ a b c x y. whole_sequence x y) (front_of w) (front_of v)
front_of (whole_this w) = same_front (λ a b v. whole_this v) (front_of w)
front_of (whole_other w) = same_front (λ a b v. whole_other v) (front_of w)
front_of left_out = record { front = []; are = refl; whole = λ us. left_out }
front_of (not_left_out w) = same_front (λ a b v. not_left_out v) (front_of w)
front_of no_more = record { front = []; are = refl; whole = λ us. no_more }
front_of (one_more w v) = behind_other (λ a b c x y. one_more x y) (front_of w) (front_of v)

-- a list that ends with one more, cut in two with something in the second part
last_behind : (ps c : List Token) (t u : Token) (us : List Token) → ps ++ t ∷ [] ≡ c ++ u ∷ us → (m : List Token) × (ps ≡ c ++ m)
last_behind ps [] t u us e = (ps, refl)
last_behind [] (x ∷ []) t u us e = absurd cc
last_behind [] (x ∷ y ∷ c) t u us e = absurd cc
last_behind (p ∷ ps) (x ∷ c) t u us e =
    let tail : ps ++ t ∷ [] ≡ c ++ u ∷ us = cc in
    let head : p ≡ x = cc in
    let r = last_behind ps c t u us tail in
    (r.0, ap (λ y. y ∷ ps) head ∙ ap (λ ys. x ∷ ys) r.1)

-- where no sort is of a class, the next token isn't
pub nothing_next : (p : Sort → Bool) (ts : List Token) → ((k : Sort) → p k ≡ false) → NextIsNo p ts
nothing_next p [] n = tt
nothing_next p (t ∷ ts) n = n _

module _ {Part : Type 0} {line : Grammar Part} (table more : Part → Sort → Bool) (ok : IsPredicted line table more) where
  module _ (f : Form Part) (good : IsPredictive table more f) (closed : (k : Sort) → goes_on table more f k ≡ false) where
    -- what begins such a form and has it in front has nothing behind it
    pub closed_whole : (ps m : List Token) → Begins line f ps → IsWhole line f ps m → m ≡ []
    closed_whole ps m b w =
        let l = whole_leads table more ok [] good w (nothing_next (goes_on table more f) m closed) (λ k s. closed k) in
        (l.same m [] (sym (append-nil m))).0 (subst (λ us. BeginAll line (f ∷ []) us) l.are (inl b))

    module _ (passed : List Token) (b : Begins line f passed) (whole : IsWhole line f passed [] → ⊥) where
      ended : (m : List Token) → IsWhole line f passed m → ⊥
      ended m w = whole (subst (λ us. IsWhole line f passed us) (closed_whole passed m b w) w)

      not_behind : (t : Token) (m : List Token) → (Begins line f (passed ++ t ∷ []) → ⊥) → IsWhole line f (passed ++ t ∷ []) m → ⊥
      not_behind t [] further w = further (whole_begins w refl)
      not_behind t (u ∷ us) further w =
          let p = front_of w in
          let r = last_behind passed p.front t u us p.are in
          ended r.0 (subst (λ ts. IsWhole line f ts r.0) (sym r.1) (p.whole r.0))

      not_with : (behind : List (Form Part)) (rest : List Token) → ((t : Token) (ts : List Token) → rest ≡ t ∷ ts → Begins line f (passed ++ t ∷ []) → ⊥)
          → NotWithNext line (f ∷ behind) passed rest
      not_with behind [] further = tt
      not_with behind (t ∷ ts) further = λ h. ⊎_elim (λ x. further t ts refl x) (λ m. not_behind t m.0 (further t ts refl) m.1) h

      not_all : (behind : List (Form Part)) (rest : List Token) → rest ≡ [] → AllWhole line (f ∷ behind) (passed ++ rest) → ⊥
      not_all behind rest e a =
          ended a.0 (subst (λ ts. IsWhole line f ts a.0) (ap (λ x. passed ++ x) e ∙ append-nil passed) a.1)

      pub part_stops : (behind : List (Form Part)) (rest : List Token)
          → ((t : Token) (ts : List Token) → rest ≡ t ∷ ts → Begins line f (passed ++ t ∷ []) → ⊥) → Stops line (f ∷ behind) (passed ++ rest) (length rest)
      part_stops behind rest further =
          record {
            passed = passed;
            rest = rest;
            are = refl;
            left_is = refl;
            begin = inl b;
            not_further = not_with behind rest further;
            unfinished = not_all behind rest;
          }

    -- of what may be repeated, a reader that expects it has gone through some and expects it still
    module _ (some : nullable f ≡ false) (behind : List (Form Part)) (apart : Apart (first table f) (starts table behind)) where
      first_token : {ts rest : List Token} → IsWhole line f ts rest → Fronts (first table f) ts
      first_token w = ⊎_elim (λ n. absurd (false≢true (sym some ∙ n.0))) (λ h. h) (whole_front table ok.table_is w)

      again : (ts : List Token) → Fronts (first table f) ts → Leads line (repeated f ∷ behind) ts (f ∷ repeated f ∷ behind) ts
      again ts h =
          leads_again f behind ts ok.table_is (λ e. absurd (some_front (first table f) ts h e)) (next_apart (first table f) (starts table behind) apart ts h)

      pub repeat_leads : {g : Form Part} {ts rest : List Token} → g ≡ repeated f → IsWhole line g ts rest
          → Leads line (repeated f ∷ behind) ts (repeated f ∷ behind) rest
      repeat_leads e (no_more {ts}) = leads_same line (repeated f ∷ behind) ts
      repeat_leads e (one_more {member} {ts} {middle} w v) =
          let is : member ≡ f = cc in
          let v' = repeat_leads e v in
          let w' : IsWhole line f ts middle = subst (λ h. IsWhole line h ts middle) is w in
          leads_on (again ts (first_token w'))
          (leads_on (whole_leads table more ok (repeated f ∷ behind) good w' (nothing_next (goes_on table more f) middle closed) (λ k s. closed k)) v')
      repeat_leads e (whole_token k) = absurd cc
      repeat_leads e (whole_part w) = absurd cc
      repeat_leads e (whole_sequence w v) = absurd cc
      repeat_leads e (whole_this w) = absurd cc
      repeat_leads e (whole_other w) = absurd cc
      repeat_leads e left_out = absurd cc
      repeat_leads e (not_left_out w) = absurd cc

      fronts_more : (ps rest : List Token) → ps ≢ [] → FrontsOrNone (first table f) ps → Fronts (first table f) (ps ++ rest)
      fronts_more [] rest n h = absurd (n refl)
      fronts_more (p ∷ ps) rest n h = h

      pub again_stops : (passed rest : List Token) → passed ≢ [] → Begins line f passed → (IsWhole line f passed [] → ⊥)
          → ((t : Token) (ts : List Token) → rest ≡ t ∷ ts → Begins line f (passed ++ t ∷ []) → ⊥) → Stops line (repeated f ∷ behind) (passed ++ rest) (length rest)
      again_stops passed rest n b whole further =
          stops_behind (again (passed ++ rest) (fronts_more passed rest n (begin_front table ok.table_is b)))
          (part_stops passed b whole (repeated f ∷ behind) rest further)
