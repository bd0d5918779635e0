-- What is known of tokens apart from the reader, as by another one up to whose place it goes: a form that ends by a token of its own
-- is whole, or it is begun and can't go on, by this grammar or by one whose lines it takes in.
use Rattle.std.proofs.Common.{◌≡◌, ◌≢◌, ℕ, ◌+◌, ◌<◌, ◌≤◌, Bool, false, refl, sym, subst, List, [], ◌∷◌, ◌++◌, length, drop, length-drop, arith}
use Rattle.qs_lex.specs.declared.token.Token.{Token}
use Rattle.qs_lex.specs.Grammar.{Sort, Form, repeated, renamed, Grammar, IsWhole, no_more, one_more}
use Rattle.qs_lex.specs.Expecting.{NextIsNo}
use Rattle.qs_lex.specs.working.Expecting.{first, goes_on, IsPredictive}
use Rattle.qs_lex.proofs.Expected.{FrontsOrNone, begin_front}
use Rattle.qs_lex.proofs.Predictive.{IsPredicted, whole_leads}
use Rattle.qs_lex.proofs.Renaming.{whole_back, begins_in, begins_back}
use Rattle.qs_lex.proofs.Stopping.{part_stops, nothing_next}
use Rattle.qs_reader.specs.Names.{KeepsNames, NamesGrow}
use Rattle.qs_reader.specs.Readers.{Reading, between, CannotGoOn}
use Rattle.qs_reader.specs.working.Readers.{IsTaken, takes_known, takes_no_more, takes_more, StopsIn, stops_known, stops_in_more, stops_later, Reads, IsRead, StopsAt}
use Rattle.qs_reader.proofs.Between.{next_at, between_drop, some_between}

module _ {Part : Type 0} {line : Grammar Part} (table more : Part → Sort → Bool) (ok : IsPredicted line table more) {f : Form Part} (good : IsPredictive table more f)
    (closed : (k : Sort) → goes_on table more f k ≡ false) where
  pub whole_taken : {ts rest : List Token} → IsWhole line f ts rest → IsTaken line table f ts rest
  whole_taken {rest} w = takes_known w (λ behind. whole_leads table more ok behind good w (nothing_next (goes_on table more f) rest closed) (λ k s. closed k))

  pub all_taken : {ts rest : List Token} → IsWhole line (repeated f) ts rest → NextIsNo (first table f) rest → IsTaken line table (repeated f) ts rest
  all_taken no_more n = takes_no_more n
  all_taken (one_more w v) n = takes_more (whole_taken w) (all_taken v n)

  pub begun_stops : {tokens : List Token} {from at : ℕ} → CannotGoOn line f tokens from at → StopsIn line table f (drop from tokens) (drop at tokens)
  begun_stops {tokens} {from} {at} c =
      subst (λ ts. StopsIn line table f ts (drop at tokens)) (between_drop tokens from at c.forward)
      (stops_known (λ behind. part_stops table more ok f good closed (between tokens from at) c.begins c.not_whole behind (drop at tokens) (λ t us e b. c.no_further t (next_at tokens us at t e) b)))

  -- one that is begun behind others
  in_member : (passed behind ts rest : List Token) → passed ≢ [] → FrontsOrNone (first table f) passed → passed ++ behind ≡ ts → StopsIn line table f ts rest → StopsIn line table (repeated f) ts rest
  in_member [] behind ts rest some fronts e s = absurd (some refl)
  in_member (t ∷ passed) behind ts rest some fronts e s =
      subst (λ us. StopsIn line table (repeated f) us rest) e (stops_in_more fronts (subst (λ us. StopsIn line table f us rest) (sym e) s))

  behind_others : {ts middle rest : List Token} → IsWhole line (repeated f) ts middle → StopsIn line table (repeated f) middle rest → StopsIn line table (repeated f) ts rest
  behind_others no_more s = s
  behind_others (one_more w v) s = stops_later (whole_taken w) (behind_others v s)

  pub all_stop : {ts tokens : List Token} {begun at : ℕ} → IsWhole line (repeated f) ts (drop begun tokens) → begun < at → CannotGoOn line f tokens begun at
      → StopsIn line table (repeated f) ts (drop at tokens)
  all_stop {tokens} {begun} {at} w some c =
      behind_others w
      (in_member (between tokens begun at) (drop at tokens) (drop begun tokens) (drop at tokens) (some_between tokens begun at some c.within) (begin_front table ok.table_is c.begins)
      (between_drop tokens begun at c.forward) (begun_stops c))

-- by a grammar whose lines this one takes in
module _ {A B : Type 0} (inner : Grammar A) (outer : Grammar B) (name : A → B) (is : (p : A) → outer (name p) ≡ renamed name (inner p)) where
  pub cannot_in : (f : Form A) {tokens : List Token} {from at : ℕ} → CannotGoOn inner f tokens from at → CannotGoOn outer (renamed name f) tokens from at
  cannot_in f c =
      record {
        forward = c.forward;
        within = c.within;
        begins = begins_in inner outer name is c.begins;
        not_whole = λ w. c.not_whole (whole_back inner outer name is f w);
        no_further = λ t e b. c.no_further t e (begins_back inner outer name is f b);
      }

-- a reader whose text, tokens and place are these
module _ {Part : Type 0} {line : Grammar Part} {table : Part → Sort → Bool} {f : Form Part} {text : List ℕ} {tokens : List Token} {from : ℕ} {r : Reading} (is_text : text ≡ r.text) (are_tokens : tokens ≡ r.tokens) (is_place : from ≡ r.place) where
  pub known_stops : {at : ℕ} → from ≤ at → at ≤ length tokens → StopsIn line table f (drop from tokens) (drop at tokens) → StopsAt line table f r at
  known_stops {at} forward within stops =
      subst (λ q. StopsAt line table f q at) (λ i. record { text = is_text i; tokens = are_tokens i; place = is_place i }) (record { forward = forward; within = within; stops = stops })

  pub known_read : {R : Reads} {s : Reading} {to : ℕ} {old new : List (List ℕ)} → s ≡ record r { place = to } → (from ≤ to) × (to ≤ length tokens)
      → ((later : List (List ℕ)) → KeepsNames new later → R later text (drop from tokens) (drop to tokens)) → IsTaken line table f (drop from tokens) (drop to tokens)
      → NamesGrow text (between tokens from to) old new → KeepsNames old new → length new + from ≤ length old + to
      → IsRead line table f R r s old new
  known_read {R} {s} {to} {old} {new} goes place reads takes names keeps few =
      let here : IsRead line table f R (record { text = text; tokens = tokens; place = from }) (record { text = text; tokens = tokens; place = to }) old new =
      record {
        reads = reads;
        takes = takes;
        names = (between tokens from to, sym (between_drop tokens from to place.0), names);
        keeps = keeps;
        goes_on = record { text = refl; tokens = refl; forward = place.0; within = place.1 };
        room = omega (arith, few, place, length-drop from tokens, length-drop to tokens);
        shorter = omega (arith, place, length-drop from tokens, length-drop to tokens);
      } in
      subst (λ s. IsRead line table f R r s old new) (sym goes)
      (subst (λ q. IsRead line table f R q (record q { place = to }) old new) (λ i. record { text = is_text i; tokens = are_tokens i; place = is_place i }) here)
