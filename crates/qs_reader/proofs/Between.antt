-- Tokens between two places of a list, and where a form that ends by a token of its own can't go on.
use Rattle.std.proofs.Common.{◌≡◌, ℕ, zero, suc, ◌+◌, ◌-◌, ◌<◌, ◌≤◌, refl, sym, ◌∙◌, ap, subst, ⊎_elim, inl, inr, List, [], ◌∷◌, ◌++◌, length, take, drop, Some, length-append, length-drop, append-nil, arith}
use Rattle.std.specs.Prelude.{Bool, false, slice_get}
use Rattle.std.proofs.Math.Seq.{take-append_seam}
use Rattle.std.proofs.lemmas.List.{take-append-drop}
use Rattle.qs_lex.specs.declared.token.Token.{Token}
use Rattle.qs_lex.specs.Grammar.{Sort, sort_of, Form, one, Grammar, IsWhole, Begins, begins_token}
use Rattle.qs_lex.specs.working.Expecting.{goes_on, IsPredictive, BeginAll, NotWithNext, Stops}
use Rattle.qs_lex.proofs.Expected.{whole_begins}
use Rattle.qs_lex.proofs.Predictive.{IsPredicted}
use Rattle.qs_lex.proofs.Stopping.{front_of}
use Rattle.qs_reader.specs.Names.{KeepsNames, NamesGrow}
use Rattle.qs_reader.specs.working.Names.{NamesGrowUpTo}
use Rattle.qs_reader.specs.Readers.{Reading, rest_of, between, CannotGoOn}
use Rattle.qs_reader.specs.working.Readers.{Reads, IsRead, StopsAt}
use Rattle.qs_reader.proofs.Taking.{stops}

pub drop_twice : (ts : List Token) (m n k : ℕ) → k ≡ m + n → drop n (drop m ts) ≡ drop k ts
drop_twice ts zero n k e = ap (λ j. drop j ts) (let f : n ≡ k = omega (arith, e) in f)
drop_twice [] (suc m) n zero e = absurd (omega (arith, e))
drop_twice [] (suc m) zero (suc k) e = refl
drop_twice [] (suc m) (suc n) (suc k) e = refl
drop_twice (t ∷ ts) (suc m) n zero e = absurd (omega (arith, e))
drop_twice (t ∷ ts) (suc m) n (suc k) e = drop_twice ts m n k (omega (arith, e))

pub next_at : (ts us : List Token) (at : ℕ) (t : Token) → drop at ts ≡ t ∷ us → slice_get ts at ≡ Some t
next_at (x ∷ ts) us zero t e = let same : x ≡ t = cc in ap Some same
next_at [] us zero t e = absurd cc
next_at [] us (suc at) t e = absurd cc
next_at (x ∷ ts) us (suc at) t e = next_at ts us at t e

pub at_next : (ts : List Token) (at : ℕ) (t : Token) → slice_get ts at ≡ Some t → (us : List Token) × (drop at ts ≡ t ∷ us)
at_next [] at t e = absurd cc
at_next (x ∷ ts) zero t e = let same : x ≡ t = cc in (ts, ap (λ u. u ∷ ts) same)
at_next (x ∷ ts) (suc at) t e = at_next ts at t e

pub between_drop : (ts : List Token) (from to : ℕ) → from ≤ to → between ts from to ++ drop to ts ≡ drop from ts
between_drop ts from to le =
    ap (λ us. between ts from to ++ us) (sym (drop_twice ts from (to - from) to (omega (arith, le)))) ∙ take-append-drop (to - from) (drop from ts)

-- the part that was begun isn't empty
pub some_between : (ts : List Token) (from to : ℕ) → from < to → to ≤ length ts → between ts from to ≡ [] → ⊥
some_between ts from to lt le e =
    let whole : drop to ts ≡ drop from ts = sym (ap (λ us. us ++ drop to ts) e) ∙ between_drop ts from to (omega (arith, lt)) in
    let long : length ts - to ≡ length ts - from = sym (length-drop to ts) ∙ ap length whole ∙ length-drop from ts in
    absurd (omega (arith, long, lt, le))

-- names that grow up to a place
pub names_up_to : (text : List ℕ) (tokens : List Token) (from to : ℕ) (old new : List (List ℕ)) → from ≤ to → to ≤ length tokens
    → NamesGrowUpTo text (drop from tokens) (drop to tokens) old new → NamesGrow text (between tokens from to) old new
names_up_to text tokens from to old new forward within g =
    let long : length (drop from tokens) ≡ length g.0 + length (drop to tokens) = ap length g.1 ∙ length-append g.0 (drop to tokens) in
    let many : to - from ≡ length g.0 = omega (arith, long, length-drop from tokens, length-drop to tokens, forward, within) in
    let passed : between tokens from to ≡ g.0 = ap (λ k. take k (drop from tokens)) many ∙ ap (take (length g.0)) g.1 ∙ take-append_seam g.0 (drop to tokens) in
    subst (λ us. NamesGrow text us old new) (sym passed) g.2

-- two ways to cut a list at the same place
same_cut : (xs ys us vs : List Token) → xs ++ ys ≡ us ++ vs → length ys ≡ length vs → (xs ≡ us) × (ys ≡ vs)
same_cut [] ys [] vs e n = (refl, e)
same_cut [] ys (u ∷ us) vs e n = absurd (omega (arith, ap length e, length-append (u ∷ us) vs, n))
same_cut (x ∷ xs) ys [] vs e n = absurd (omega (arith, ap length e, length-append (x ∷ xs) ys, n))
same_cut (x ∷ xs) ys (u ∷ us) vs e n =
    let first : x ≡ u = cc in
    let others : xs ++ ys ≡ us ++ vs = cc in
    let tails = same_cut xs ys us vs others n in
    (λ i. first i ∷ tails.0 i, tails.1)

module _ {Part : Type 0} {line : Grammar Part} (f : Form Part) where
  begin_one : (ts : List Token) → BeginAll line (f ∷ []) ts → Begins line f ts
  begin_one ts h = ⊎_elim (λ b. b) (λ m. whole_begins m.1 m.2) h

  -- whatever is expected behind it, the form stops there: so it has begun, isn't whole, and can't go on
  module _ (passed rest : List Token) (stop : (behind : List (Form Part)) → Stops line (f ∷ behind) (passed ++ rest) (length rest)) where
    cut : (behind : List (Form Part)) → ((stop behind).passed ≡ passed) × ((stop behind).rest ≡ rest)
    cut behind = let s = stop behind in same_cut s.passed s.rest passed rest (sym s.are) (sym s.left_is)

    begun : Begins line f passed
    begun = subst (Begins line f) (cut []).0 (begin_one (stop []).passed (stop []).begin)

    further : (behind : List (Form Part)) (t : Token) (ts : List Token) → rest ≡ t ∷ ts → BeginAll line (f ∷ behind) (passed ++ t ∷ []) → ⊥
    further behind t ts e =
        subst (λ ps. BeginAll line (f ∷ behind) (ps ++ t ∷ []) → ⊥) (cut behind).0
        (subst (λ vs. NotWithNext line (f ∷ behind) (stop behind).passed vs) ((cut behind).1 ∙ e) (stop behind).not_further)

    longer : (t : Token) → IsWhole line f passed [] → IsWhole line f (passed ++ t ∷ []) (t ∷ [])
    longer t w = let p = front_of w in subst (λ ps. IsWhole line f (ps ++ t ∷ []) (t ∷ [])) (sym (p.are ∙ append-nil p.front)) (p.whole (t ∷ []))

    not_whole : (ts : List Token) → rest ≡ ts → IsWhole line f passed [] → ⊥
    not_whole [] e w =
        (stop []).unfinished ((cut []).1 ∙ e) ([], subst (λ us. IsWhole line f us []) (sym (append-nil passed) ∙ ap (λ us. passed ++ us) (sym e)) w, refl)
    not_whole (t ∷ ts) e w = further (one (sort_of t.kind) ∷ []) t ts e (inr (t ∷ [], longer t w, inl (begins_token refl)))

pub cannot_go_on : {Part : Type 0} {line : Grammar Part} (table more : Part → Sort → Bool) → IsPredicted line table more → (f : Form Part) → IsPredictive table more f
    → ((k : Sort) → goes_on table more f k ≡ false) → {r : Reading} {at : ℕ} → StopsAt line table f r at → CannotGoOn line f r.tokens r.place at
cannot_go_on {line} table more ok f good closed {r} {at} s =
    let are : rest_of r ≡ between r.tokens r.place at ++ drop at r.tokens = sym (between_drop r.tokens r.place at s.forward) in
    let stop : (behind : List (Form _)) → Stops line (f ∷ behind) (between r.tokens r.place at ++ drop at r.tokens) (length (drop at r.tokens)) =
    λ behind. subst (λ ts. Stops line (f ∷ behind) ts (length (drop at r.tokens))) are (stops table more ok behind good (λ k _. closed k) s.stops)
    in
    record {
      forward = s.forward;
      within = s.within;
      begins = begun f (between r.tokens r.place at) (drop at r.tokens) stop;
      not_whole = not_whole f (between r.tokens r.place at) (drop at r.tokens) stop (drop at r.tokens) refl;
      no_further = λ t there b. let n = at_next r.tokens at t there in further f (between r.tokens r.place at) (drop at r.tokens) stop [] t n.0 n.1 (inl b);
    }

-- what was read from one place among the tokens up to another
module _ {Part : Type 0} {line : Grammar Part} {table : Part → Sort → Bool} {f : Form Part} {R : Reads} {text : List ℕ} {tokens : List Token} {from at : ℕ} {r s : Reading} {old new : List (List ℕ)}
    (starts : r ≡ record { text = text; tokens = tokens; place = from }) (place : at ≡ s.place) (read : IsRead line table f R r s old new) where
  abbrev here : IsRead line table f R (record { text = text; tokens = tokens; place = from }) s old new
  here = subst (λ r. IsRead line table f R r s old new) starts read

  behind : rest_of s ≡ drop at tokens
  behind = ap (drop s.place) here.goes_on.tokens ∙ ap (λ k. drop k tokens) (sym place)

  pub within : at ≤ length tokens
  within = subst (λ k. k ≤ length tokens) (sym place) (subst (λ ts. s.place ≤ length ts) here.goes_on.tokens here.goes_on.within)

  pub reads_up_to : (later : List (List ℕ)) → KeepsNames new later → R later text (drop from tokens) (drop at tokens)
  reads_up_to later keeps = subst (λ us. R later text (drop from tokens) us) behind (here.reads later keeps)

  pub names_between : NamesGrow text (between tokens from at) old new
  names_between =
      names_up_to text tokens from at old new (subst (λ k. from ≤ k) (sym place) here.goes_on.forward) within (subst (λ us. NamesGrowUpTo text (drop from tokens) us old new) behind here.names)

-- what was read of all tokens
module _ {Part : Type 0} {line : Grammar Part} {table : Part → Sort → Bool} {f : Form Part} {R : Reads} {text : List ℕ} {tokens : List Token} {r s : Reading} {old new : List (List ℕ)}
    (starts : r ≡ record { text = text; tokens = tokens; place = 0 }) (ended : rest_of s ≡ []) (read : IsRead line table f R r s old new) where
  abbrev whole : IsRead line table f R (record { text = text; tokens = tokens; place = 0 }) s old new
  whole = subst (λ r. IsRead line table f R r s old new) starts read

  pub reads_all : R new text tokens []
  reads_all = subst (λ us. R new text tokens us) ended (whole.reads new (λ k t i. i))

  pub names_all : NamesGrow text tokens old new
  names_all = let g = whole.names in subst (λ us. NamesGrow text us old new) (sym (g.1 ∙ ap (λ us. g.0 ++ us) ended ∙ append-nil g.0)) g.2
