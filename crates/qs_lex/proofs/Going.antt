-- The steps of a reader with one token of sight: what it expects turns into what it expects next, without a choice.
use Rattle.std.proofs.Common.{◌≡◌, ℕ, Bool, false, refl, sym, ◌∙◌, ap, subst, ⊎_elim, inl, inr, List, [], ◌∷◌, ◌++◌, length, append_assoc}
use Rattle.std.proofs.lemmas.Bool.{false≢true}
use Rattle.qs_lex.specs.declared.token.Token.{Token}
use Rattle.qs_lex.specs.Grammar.{Sort, IsOf, Form, one, part, ◌·◌, ◌∣◌, optional, repeated, Grammar, IsWhole, whole_token, whole_part, whole_sequence, whole_this, whole_other, left_out, not_left_out, no_more, one_more, Begins, nothing_yet, begins_token, begins_part, begins_first, begins_behind, begins_this, begins_other, begins_optional, begins_next, begins_later}
use Rattle.qs_lex.specs.Expecting.{NextIsNo}
use Rattle.qs_lex.specs.working.Expecting.{nullable, first, starts, BeginAll, AllWhole, may_end, Leads, NotWithNext, Stops}
use Rattle.qs_lex.proofs.Expected.{IsTable, Fronts, FrontsOrNone, whole_front, begin_front, begin_all_front, begin_all-nil, all_whole_begins, all_whole-nil}

-- what is known of the next token is known of the front of a list
next_of_front : (p : Sort → Bool) (ts front more : List Token) → ts ≡ front ++ more → NextIsNo p ts → NextIsNo p front
next_of_front p ts [] more e n = tt
next_of_front p ts (t ∷ front) more e n = subst (λ us. NextIsNo p us) e n

no_token : (p : Sort → Bool) (ts : List Token) → NextIsNo p ts → FrontsOrNone p ts → ts ≡ []
no_token p [] n h = refl
no_token p (t ∷ ts) n h = absurd (false≢true (sym n ∙ h))

no_front : (p : Sort → Bool) (ts : List Token) → NextIsNo p ts → Fronts p ts → ⊥
no_front p [] n h = h
no_front p (t ∷ ts) n h = false≢true (sym n ∙ h)

never_whole : {Part : Type 0} {line : Grammar Part} {table : Part → Sort → Bool} {f : Form Part} {ts rest : List Token}
    → IsTable line table → nullable f ≡ false → NextIsNo (first table f) ts → IsWhole line f ts rest → ⊥
never_whole {table} {f} {ts} ok some n w =
    ⊎_elim (λ m. false≢true (sym some ∙ m.0)) (λ h. no_front (first table f) ts n h) (whole_front table ok w)

begun_by_nothing : {Part : Type 0} (line : Grammar Part) (fs : List (Form Part)) (ts : List Token) → ts ≡ [] → BeginAll line fs ts
begun_by_nothing line fs ts e = subst (λ us. BeginAll line fs us) (sym e) (begin_all-nil line fs)

pub leads_same : {Part : Type 0} (line : Grammar Part) (fs : List (Form Part)) (ts : List Token) → Leads line fs ts fs ts
leads_same line fs ts = record { passed = []; are = refl; same = λ front more e. (λ x. x, λ x. x); whole = λ w. w }

pub leads_on : {Part : Type 0} {line : Grammar Part} {os bs cs : List (Form Part)} {ts us vs : List Token}
    → Leads line os ts bs us → Leads line bs us cs vs → Leads line os ts cs vs
leads_on {line} {os} {vs} p q =
    record {
      passed = p.passed ++ q.passed;
      are = p.are ∙ ap (λ x. p.passed ++ x) q.are ∙ sym (append_assoc p.passed q.passed vs);
      same = λ front more e.
          let first = p.same (q.passed ++ front) more (q.are ∙ ap (λ x. q.passed ++ x) e ∙ sym (append_assoc q.passed front more)) in
          let second = q.same front more e in (
            λ x. second.0 (first.0 (subst (λ us. BeginAll line os us) (append_assoc p.passed q.passed front) x)),
            λ y. subst (λ us. BeginAll line os us) (sym (append_assoc p.passed q.passed front)) (first.1 (second.1 y)),
          );
      whole = λ w. q.whole (p.whole w);
    }

-- what is the same for each list of tokens
always : {Part : Type 0} {line : Grammar Part} {os bs : List (Form Part)} (ts : List Token)
    → ((us : List Token) → BeginAll line os us → BeginAll line bs us) → ((us : List Token) → BeginAll line bs us → BeginAll line os us)
    → (AllWhole line os ts → AllWhole line bs ts) → Leads line os ts bs ts
always ts to from whole = record { passed = []; are = refl; same = λ front more e. (to front, from front); whole = whole }

-- what is the same where the next token is none of these
where_next : {Part : Type 0} {line : Grammar Part} {os bs : List (Form Part)} (p : Sort → Bool) (ts : List Token) → NextIsNo p ts
    → ((us : List Token) → NextIsNo p us → BeginAll line os us → BeginAll line bs us) → ((us : List Token) → BeginAll line bs us → BeginAll line os us)
    → (AllWhole line os ts → AllWhole line bs ts) → Leads line os ts bs ts
where_next p ts n to from whole = record { passed = []; are = refl; same = λ front more e. (to front (next_of_front p ts front more e n), from front); whole = whole }

-- what can't begin with the next token, nor be empty at the end, is not whole
never_all : {Part : Type 0} {line : Grammar Part} {table : Part → Sort → Bool} (fs : List (Form Part)) (ts : List Token)
    → IsTable line table → (ts ≡ [] → may_end fs ≡ false) → NextIsNo (starts table fs) ts → AllWhole line fs ts → ⊥
never_all {line} {table} fs ts ok end n m =
    let none : ts ≡ [] = no_token (starts table fs) ts n (begin_all_front fs ts table ok (all_whole_begins line fs ts m)) in
    false≢true (sym (end none) ∙ all_whole-nil fs ts ok none m)

token_begun : {Part : Type 0} {line : Grammar Part} {s : Sort} {t : Token} {ts : List Token} → Begins line (one s) (t ∷ ts) → ts ≡ []
token_begun (begins_token e) = refl

token_whole : {Part : Type 0} {line : Grammar Part} {s : Sort} {t : Token} {ts rest : List Token} → IsWhole line (one s) (t ∷ ts) rest → rest ≡ ts
token_whole (whole_token e) = refl

pub leads_token : {Part : Type 0} (line : Grammar Part) (s : Sort) (fs : List (Form Part)) (t : Token) (ts : List Token)
    → IsOf s t → Leads line (one s ∷ fs) (t ∷ ts) fs ts
leads_token line s fs t ts e =
    record {
      passed = t ∷ [];
      are = refl;
      same = λ front more _. (
        λ h. ⊎_elim (λ b. begun_by_nothing line fs front (token_begun b)) (λ m. subst (λ us. BeginAll line fs us) (token_whole m.1) m.2) h,
        λ h. inr (front, whole_token e, h),
      );
      whole = λ m. subst (λ us. AllWhole line fs us) (token_whole m.1) m.2;
    }

part_begun : {Part : Type 0} {line : Grammar Part} {p : Part} {ts : List Token} → Begins line (part p) ts → Begins line (line p) ts
part_begun nothing_yet = nothing_yet
part_begun (begins_part b) = b

part_whole : {Part : Type 0} {line : Grammar Part} {p : Part} {ts rest : List Token} → IsWhole line (part p) ts rest → IsWhole line (line p) ts rest
part_whole (whole_part w) = w

pub leads_part : {Part : Type 0} (line : Grammar Part) (p : Part) (fs : List (Form Part)) (ts : List Token)
    → Leads line (part p ∷ fs) ts (line p ∷ fs) ts
leads_part line p fs ts =
    always ts (λ us h. ⊎_elim (λ b. inl (part_begun b)) (λ m. inr (m.0, part_whole m.1, m.2)) h)
    (λ us h. ⊎_elim (λ b. inl (begins_part b)) (λ m. inr (m.0, whole_part m.1, m.2)) h)
    (λ m. (m.0, part_whole m.1, m.2))

sequence_begun : {Part : Type 0} {line : Grammar Part} {f g : Form Part} {ts : List Token} (fs : List (Form Part))
    → Begins line (f · g) ts → BeginAll line (f ∷ g ∷ fs) ts
sequence_begun fs nothing_yet = inl nothing_yet
sequence_begun fs (begins_first b) = inl b
sequence_begun fs (begins_behind {middle} w b) = inr (middle, w, inl b)

sequence_whole : {Part : Type 0} {line : Grammar Part} {f g : Form Part} {ts rest : List Token} (fs : List (Form Part))
    → IsWhole line (f · g) ts rest → BeginAll line fs rest → BeginAll line (f ∷ g ∷ fs) ts
sequence_whole {rest} fs (whole_sequence {middle} w v) h = inr (middle, w, inr (rest, v, h))

sequence_all : {Part : Type 0} {line : Grammar Part} {f g : Form Part} {ts rest : List Token} (fs : List (Form Part))
    → IsWhole line (f · g) ts rest → AllWhole line fs rest → AllWhole line (f ∷ g ∷ fs) ts
sequence_all {rest} fs (whole_sequence {middle} w v) h = (middle, w, (rest, v, h))

pub leads_sequence : {Part : Type 0} (line : Grammar Part) (f g : Form Part) (fs : List (Form Part)) (ts : List Token)
    → Leads line ((f · g) ∷ fs) ts (f ∷ g ∷ fs) ts
leads_sequence line f g fs ts =
    always ts (λ us h. ⊎_elim (λ b. sequence_begun fs b) (λ m. sequence_whole fs m.1 m.2) h)
    (λ us h. ⊎_elim (λ b. inl (begins_first b))
    (λ m. ⊎_elim (λ b. inl (begins_behind m.1 b)) (λ k. inr (k.0, whole_sequence m.1 k.1, k.2)) m.2) h)
    (λ m. sequence_all fs m.1 m.2)

this_begun : {Part : Type 0} {line : Grammar Part} {f g : Form Part} {ts : List Token} (table : Part → Sort → Bool) (fs : List (Form Part))
    → IsTable line table → NextIsNo (first table g) ts → Begins line (f ∣ g) ts → BeginAll line (f ∷ fs) ts
this_begun table fs ok n nothing_yet = inl nothing_yet
this_begun table fs ok n (begins_this b) = inl b
this_begun {line} {f} {g} {ts} table fs ok n (begins_other b) = begun_by_nothing line (f ∷ fs) ts (no_token (first table g) ts n (begin_front table ok b))

this_whole : {Part : Type 0} {line : Grammar Part} {f g : Form Part} {ts rest : List Token} (table : Part → Sort → Bool) (fs : List (Form Part))
    → IsTable line table → nullable g ≡ false → NextIsNo (first table g) ts → IsWhole line (f ∣ g) ts rest → BeginAll line fs rest → BeginAll line (f ∷ fs) ts
this_whole {rest} table fs ok some n (whole_this w) h = inr (rest, w, h)
this_whole table fs ok some n (whole_other w) h = absurd (never_whole ok some n w)

other_begun : {Part : Type 0} {line : Grammar Part} {f g : Form Part} {ts : List Token} (table : Part → Sort → Bool) (fs : List (Form Part))
    → IsTable line table → NextIsNo (first table f) ts → Begins line (f ∣ g) ts → BeginAll line (g ∷ fs) ts
other_begun table fs ok n nothing_yet = inl nothing_yet
other_begun table fs ok n (begins_other b) = inl b
other_begun {line} {f} {g} {ts} table fs ok n (begins_this b) = begun_by_nothing line (g ∷ fs) ts (no_token (first table f) ts n (begin_front table ok b))

other_whole : {Part : Type 0} {line : Grammar Part} {f g : Form Part} {ts rest : List Token} (table : Part → Sort → Bool) (fs : List (Form Part))
    → IsTable line table → nullable f ≡ false → NextIsNo (first table f) ts → IsWhole line (f ∣ g) ts rest → BeginAll line fs rest → BeginAll line (g ∷ fs) ts
other_whole {rest} table fs ok some n (whole_other w) h = inr (rest, w, h)
other_whole table fs ok some n (whole_this w) h = absurd (never_whole ok some n w)

this_only : {Part : Type 0} {line : Grammar Part} {f g : Form Part} {ts rest : List Token} (table : Part → Sort → Bool)
    → IsTable line table → nullable g ≡ false → NextIsNo (first table g) ts → IsWhole line (f ∣ g) ts rest → IsWhole line f ts rest
this_only table ok some n (whole_this w) = w
this_only table ok some n (whole_other w) = absurd (never_whole ok some n w)

other_only : {Part : Type 0} {line : Grammar Part} {f g : Form Part} {ts rest : List Token} (table : Part → Sort → Bool)
    → IsTable line table → nullable f ≡ false → NextIsNo (first table f) ts → IsWhole line (f ∣ g) ts rest → IsWhole line g ts rest
other_only table ok some n (whole_other w) = w
other_only table ok some n (whole_this w) = absurd (never_whole ok some n w)

-- of two forms the next token can't begin the other
pub leads_this : {Part : Type 0} {line : Grammar Part} {table : Part → Sort → Bool} (f g : Form Part) (fs : List (Form Part)) (ts : List Token)
    → IsTable line table → nullable g ≡ false → NextIsNo (first table g) ts → Leads line ((f ∣ g) ∷ fs) ts (f ∷ fs) ts
leads_this {table} f g fs ts ok some n =
    where_next (first table g) ts n
    (λ us no h. ⊎_elim (λ b. this_begun table fs ok no b) (λ m. this_whole table fs ok some no m.1 m.2) h)
    (λ us h. ⊎_elim (λ b. inl (begins_this b)) (λ m. inr (m.0, whole_this m.1, m.2)) h)
    (λ m. (m.0, this_only table ok some n m.1, m.2))

pub leads_other : {Part : Type 0} {line : Grammar Part} {table : Part → Sort → Bool} (f g : Form Part) (fs : List (Form Part)) (ts : List Token)
    → IsTable line table → nullable f ≡ false → NextIsNo (first table f) ts → Leads line ((f ∣ g) ∷ fs) ts (g ∷ fs) ts
leads_other {table} f g fs ts ok some n =
    where_next (first table f) ts n
    (λ us no h. ⊎_elim (λ b. other_begun table fs ok no b) (λ m. other_whole table fs ok some no m.1 m.2) h)
    (λ us h. ⊎_elim (λ b. inl (begins_other b)) (λ m. inr (m.0, whole_other m.1, m.2)) h)
    (λ m. (m.0, other_only table ok some n m.1, m.2))

without_begun : {Part : Type 0} {line : Grammar Part} {f : Form Part} {ts : List Token} (table : Part → Sort → Bool) (fs : List (Form Part))
    → IsTable line table → NextIsNo (first table f) ts → Begins line (optional f) ts → BeginAll line fs ts
without_begun {line} table fs ok n nothing_yet = begin_all-nil line fs
without_begun {line} {f} {ts} table fs ok n (begins_optional b) = begun_by_nothing line fs ts (no_token (first table f) ts n (begin_front table ok b))

without_whole : {Part : Type 0} {line : Grammar Part} {f : Form Part} {ts rest : List Token} (table : Part → Sort → Bool) (fs : List (Form Part))
    → IsTable line table → nullable f ≡ false → NextIsNo (first table f) ts → IsWhole line (optional f) ts rest → BeginAll line fs rest → BeginAll line fs ts
without_whole table fs ok some n left_out h = h
without_whole table fs ok some n (not_left_out w) h = absurd (never_whole ok some n w)

without_all : {Part : Type 0} {line : Grammar Part} {f : Form Part} {ts rest : List Token} (table : Part → Sort → Bool) (fs : List (Form Part))
    → IsTable line table → nullable f ≡ false → NextIsNo (first table f) ts → IsWhole line (optional f) ts rest → AllWhole line fs rest → AllWhole line fs ts
without_all table fs ok some n left_out h = h
without_all table fs ok some n (not_left_out w) h = absurd (never_whole ok some n w)

-- the next token can't begin what may be left out
pub leads_without : {Part : Type 0} {line : Grammar Part} {table : Part → Sort → Bool} (f : Form Part) (fs : List (Form Part)) (ts : List Token)
    → IsTable line table → nullable f ≡ false → NextIsNo (first table f) ts → Leads line (optional f ∷ fs) ts fs ts
leads_without {table} f fs ts ok some n =
    where_next (first table f) ts n
    (λ us no h. ⊎_elim (λ b. without_begun table fs ok no b) (λ m. without_whole table fs ok some no m.1 m.2) h)
    (λ us h. inr (us, left_out, h))
    (λ m. without_all table fs ok some n m.1 m.2)

with_begun : {Part : Type 0} {line : Grammar Part} {f : Form Part} {ts : List Token} (fs : List (Form Part)) → Begins line (optional f) ts → BeginAll line (f ∷ fs) ts
with_begun fs nothing_yet = inl nothing_yet
with_begun fs (begins_optional b) = inl b

with_whole : {Part : Type 0} {line : Grammar Part} {f : Form Part} {ts rest : List Token} (table : Part → Sort → Bool) (fs : List (Form Part))
    → IsTable line table → NextIsNo (starts table fs) ts → IsWhole line (optional f) ts rest → BeginAll line fs rest → BeginAll line (f ∷ fs) ts
with_whole {line} {f} {ts} table fs ok n left_out h = begun_by_nothing line (f ∷ fs) ts (no_token (starts table fs) ts n (begin_all_front fs ts table ok h))
with_whole {rest} table fs ok n (not_left_out w) h = inr (rest, w, h)

with_all : {Part : Type 0} {line : Grammar Part} {f : Form Part} {ts rest : List Token} (fs : List (Form Part))
    → (AllWhole line fs ts → ⊥) → IsWhole line (optional f) ts rest → AllWhole line fs rest → AllWhole line (f ∷ fs) ts
with_all fs never left_out h = absurd (never h)
with_all {rest} fs never (not_left_out w) h = (rest, w, h)

-- the next token can't begin what stands behind, which can't be empty at the end
pub leads_with : {Part : Type 0} {line : Grammar Part} {table : Part → Sort → Bool} (f : Form Part) (fs : List (Form Part)) (ts : List Token)
    → IsTable line table → (ts ≡ [] → may_end fs ≡ false) → NextIsNo (starts table fs) ts → Leads line (optional f ∷ fs) ts (f ∷ fs) ts
leads_with {table} f fs ts ok end n =
    where_next (starts table fs) ts n
    (λ us no h. ⊎_elim (λ b. with_begun fs b) (λ m. with_whole table fs ok no m.1 m.2) h)
    (λ us h. ⊎_elim (λ b. inl (begins_optional b)) (λ m. inr (m.0, not_left_out m.1, m.2)) h)
    (λ m. with_all fs (never_all fs ts ok end n) m.1 m.2)

done_begun : {Part : Type 0} {line : Grammar Part} {f : Form Part} {ts : List Token} (table : Part → Sort → Bool) (fs : List (Form Part))
    → IsTable line table → nullable f ≡ false → NextIsNo (first table f) ts → Begins line (repeated f) ts → BeginAll line fs ts
done_begun {line} table fs ok some n nothing_yet = begin_all-nil line fs
done_begun {line} {f} {ts} table fs ok some n (begins_next b) = begun_by_nothing line fs ts (no_token (first table f) ts n (begin_front table ok b))
done_begun table fs ok some n (begins_later w b) = absurd (never_whole ok some n w)

done_whole : {Part : Type 0} {line : Grammar Part} {f : Form Part} {ts rest : List Token} (table : Part → Sort → Bool) (fs : List (Form Part))
    → IsTable line table → nullable f ≡ false → NextIsNo (first table f) ts → IsWhole line (repeated f) ts rest → BeginAll line fs rest → BeginAll line fs ts
done_whole table fs ok some n no_more h = h
done_whole table fs ok some n (one_more w v) h = absurd (never_whole ok some n w)

done_all : {Part : Type 0} {line : Grammar Part} {f : Form Part} {ts rest : List Token} (table : Part → Sort → Bool) (fs : List (Form Part))
    → IsTable line table → nullable f ≡ false → NextIsNo (first table f) ts → IsWhole line (repeated f) ts rest → AllWhole line fs rest → AllWhole line fs ts
done_all table fs ok some n no_more h = h
done_all table fs ok some n (one_more w v) h = absurd (never_whole ok some n w)

-- the next token can't begin what may be repeated
pub leads_done : {Part : Type 0} {line : Grammar Part} {table : Part → Sort → Bool} (f : Form Part) (fs : List (Form Part)) (ts : List Token)
    → IsTable line table → nullable f ≡ false → NextIsNo (first table f) ts → Leads line (repeated f ∷ fs) ts fs ts
leads_done {table} f fs ts ok some n =
    where_next (first table f) ts n
    (λ us no h. ⊎_elim (λ b. done_begun table fs ok some no b) (λ m. done_whole table fs ok some no m.1 m.2) h)
    (λ us h. inr (us, no_more, h))
    (λ m. done_all table fs ok some n m.1 m.2)

again_begun : {Part : Type 0} {line : Grammar Part} {f : Form Part} {ts : List Token} (fs : List (Form Part)) → Begins line (repeated f) ts → BeginAll line (f ∷ repeated f ∷ fs) ts
again_begun fs nothing_yet = inl nothing_yet
again_begun fs (begins_next b) = inl b
again_begun fs (begins_later {middle} w b) = inr (middle, w, inl b)

again_whole : {Part : Type 0} {line : Grammar Part} {f : Form Part} {ts rest : List Token} (table : Part → Sort → Bool) (fs : List (Form Part))
    → IsTable line table → NextIsNo (starts table fs) ts → IsWhole line (repeated f) ts rest → BeginAll line fs rest → BeginAll line (f ∷ repeated f ∷ fs) ts
again_whole {line} {f} {ts} table fs ok n no_more h = begun_by_nothing line (f ∷ repeated f ∷ fs) ts (no_token (starts table fs) ts n (begin_all_front fs ts table ok h))
again_whole {rest} table fs ok n (one_more {middle} w v) h = inr (middle, w, inr (rest, v, h))

again_all : {Part : Type 0} {line : Grammar Part} {f : Form Part} {ts rest : List Token} (fs : List (Form Part))
    → (AllWhole line fs ts → ⊥) → IsWhole line (repeated f) ts rest → AllWhole line fs rest → AllWhole line (f ∷ repeated f ∷ fs) ts
again_all fs never no_more h = absurd (never h)
again_all {rest} fs never (one_more {middle} w v) h = (middle, w, (rest, v, h))

-- the next token can't begin what stands behind, which can't be empty at the end
pub leads_again : {Part : Type 0} {line : Grammar Part} {table : Part → Sort → Bool} (f : Form Part) (fs : List (Form Part)) (ts : List Token)
    → IsTable line table → (ts ≡ [] → may_end fs ≡ false) → NextIsNo (starts table fs) ts → Leads line (repeated f ∷ fs) ts (f ∷ repeated f ∷ fs) ts
leads_again {table} f fs ts ok end n =
    where_next (starts table fs) ts n
    (λ us no h. ⊎_elim (λ b. again_begun fs b) (λ m. again_whole table fs ok no m.1 m.2) h)
    (λ us h. ⊎_elim (λ b. inl (begins_next b))
    (λ m. ⊎_elim (λ b. inl (begins_later m.1 b)) (λ k. inr (k.0, one_more m.1 k.1, k.2)) m.2) h)
    (λ m. again_all fs (never_all fs ts ok end n) m.1 m.2)

stopped : {Part : Type 0} {line : Grammar Part} {table : Part → Sort → Bool} (fs : List (Form Part)) (ts : List Token)
    → IsTable line table → NextIsNo (starts table fs) ts → NotWithNext line fs [] ts
stopped fs [] ok n = tt
stopped {table} fs (t ∷ ts) ok n = λ b. false≢true (sym n ∙ begin_all_front fs (t ∷ []) table ok b)

-- the next token begins none of what is expected, or there is no token
pub stops_here : {Part : Type 0} {line : Grammar Part} {table : Part → Sort → Bool} (fs : List (Form Part)) (ts : List Token)
    → IsTable line table → (ts ≡ [] → may_end fs ≡ false) → NextIsNo (starts table fs) ts → Stops line fs ts (length ts)
stops_here {line} fs ts ok end n =
    record { passed = []; rest = ts; are = refl; left_is = refl; begin = begin_all-nil line fs; not_further = stopped fs ts ok n; unfinished = λ e. never_all fs ts ok end n }

not_further_behind : {Part : Type 0} {line : Grammar Part} {os bs : List (Form Part)} {ts us : List Token} (p : Leads line os ts bs us)
    (passed rest : List Token) → us ≡ passed ++ rest → NotWithNext line bs passed rest → NotWithNext line os (p.passed ++ passed) rest
not_further_behind p passed [] e n = tt
not_further_behind {line} {os} p passed (t ∷ rest) e n = λ b.
    n ((p.same (passed ++ t ∷ []) rest (e ∙ sym (append_assoc passed (t ∷ []) rest))).0 (subst (λ us. BeginAll line os us) (append_assoc p.passed passed (t ∷ [])) b))

pub stops_behind : {Part : Type 0} {line : Grammar Part} {os bs : List (Form Part)} {ts us : List Token} {left : ℕ}
    → Leads line os ts bs us → Stops line bs us left → Stops line os ts left
stops_behind {us} p s =
    record {
      passed = p.passed ++ s.passed;
      rest = s.rest;
      are = p.are ∙ ap (λ x. p.passed ++ x) s.are ∙ sym (append_assoc p.passed s.passed s.rest);
      left_is = s.left_is;
      begin = (p.same s.passed s.rest s.are).1 s.begin;
      not_further = not_further_behind p s.passed s.rest s.are s.not_further;
      unfinished = λ e w. s.unfinished e (p.whole w);
    }
