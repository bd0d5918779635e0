-- What a reader takes and where it stops, whatever is expected behind it: in a grammar where the next token tells how to go on.
use Rattle.std.proofs.Common.{◌≡◌, Bool, true, false, ◌||◌, cond, refl, sym, ◌∙◌, ⊎_elim, List, [], ◌∷◌, length}
use Rattle.std.proofs.lemmas.Bool.{false≢true}
use Rattle.qs_lex.specs.declared.token.Token.{Token}
use Rattle.qs_lex.specs.Grammar.{Sort, sort_of, Form, optional, repeated, Grammar, IsWhole, whole_token, whole_part, whole_sequence, whole_this, whole_other, left_out, not_left_out, no_more, one_more}
use Rattle.qs_lex.specs.Expecting.{NextIsNo}
use Rattle.qs_lex.specs.working.Expecting.{nullable, first, starts, may_end, IsPredictive, Leads, Stops}
use Rattle.qs_lex.proofs.Expected.{Fronts, whole_front}
use Rattle.qs_lex.proofs.Going.{leads_on, leads_token, leads_part, leads_sequence, leads_this, leads_other, leads_without, leads_with, leads_done, stops_here, stops_behind}
use Rattle.qs_lex.proofs.Predictive.{IsPredicted, Refused, next_apart, refused_first, refused_last, refused_this, refused_other, refused_member, refused_again, refused_part, leads_into, leads_round}
use Rattle.qs_reader.specs.working.Readers.{IsTaken, takes_known, takes_token, takes_part, takes_sequence, takes_this, takes_other, leaves_out, takes_member, takes_no_more, takes_more, StopsIn, stops_known, none_fits, stops_in_part, stops_in_first, stops_in_behind, stops_in_this, stops_in_other, stops_in_member, stops_before, stops_in_more, stops_later}

pub taken_whole : {Part : Type 0} {line : Grammar Part} {table : Part → Sort → Bool} {f : Form Part} {ts rest : List Token} → IsTaken line table f ts rest → IsWhole line f ts rest
taken_whole (takes_known w l) = w
taken_whole (takes_token e) = whole_token e
taken_whole (takes_part w) = whole_part (taken_whole w)
taken_whole (takes_sequence w v) = whole_sequence (taken_whole w) (taken_whole v)
taken_whole (takes_this w) = whole_this (taken_whole w)
taken_whole (takes_other w) = whole_other (taken_whole w)
taken_whole (leaves_out n) = left_out
taken_whole (takes_member w) = not_left_out (taken_whole w)
taken_whole (takes_no_more n) = no_more
taken_whole (takes_more w v) = one_more (taken_whole w) (taken_whole v)

-- what can't be left out begins itself
first_only : (c a b : Bool) → c ≡ false → a ≡ false → cond c (a || b) a ≡ false
first_only true a b c e = absurd (false≢true (sym c))
first_only false a b c e = e

not_empty : (c b : Bool) → c ≡ false → cond c b false ≡ false
not_empty true b c = absurd (false≢true (sym c))
not_empty false b c = refl

starts_first : {Part : Type 0} (table : Part → Sort → Bool) (f : Form Part) (behind : List (Form Part)) (ts : List Token) → nullable f ≡ false → NextIsNo (first table f) ts → NextIsNo (starts table (f ∷ behind)) ts
starts_first table f behind [] some n = tt
starts_first table f behind (t ∷ ts) some n = first_only (nullable f) (first table f (sort_of t.kind)) (starts table behind (sort_of t.kind)) some n

module _ {Part : Type 0} {line : Grammar Part} (table more : Part → Sort → Bool) (ok : IsPredicted line table more) where
  front : {f : Form Part} {ts rest : List Token} → nullable f ≡ false → IsTaken line table f ts rest → Fronts (first table f) ts
  front some w = ⊎_elim (λ n. absurd (false≢true (sym some ∙ n.0))) (λ h. h) (whole_front table ok.table_is (taken_whole w))

  pub taken_leads : {f : Form Part} {ts rest : List Token} (behind : List (Form Part)) → IsPredictive table more f → Refused table more f behind
      → IsTaken line table f ts rest → Leads line (f ∷ behind) ts behind rest
  taken_leads behind good refused (takes_known w l) = l behind
  taken_leads behind good refused (takes_token {sort} {t} {rest} e) = leads_token line sort behind t rest e
  taken_leads behind good refused (takes_part {name} {ts} w) =
      leads_on (leads_part line name behind ts) (taken_leads behind (ok.predictive name) (refused_part table more ok name behind refused) w)
  taken_leads behind good refused (takes_sequence {first = f} {behind = g} {ts} w v) =
      leads_on (leads_sequence line f g behind ts)
      (leads_on (taken_leads (g ∷ behind) good.0 (refused_first table more behind f g good.2 refused) w) (taken_leads behind good.1 (refused_last table more behind f g refused) v))
  taken_leads behind good refused (takes_this {this = f} {other = g} {ts} w) =
      leads_on (leads_this f g behind ts ok.table_is good.1 (next_apart (first table f) (first table g) good.2 ts (front good.0 w)))
      (taken_leads behind good.4 (refused_this table more behind f g refused) w)
  taken_leads behind good refused (takes_other {this = f} {other = g} {ts} w) =
      leads_on (leads_other f g behind ts ok.table_is good.0 (next_apart (first table g) (first table f) good.3 ts (front good.1 w)))
      (taken_leads behind good.5 (refused_other table more behind f g refused) w)
  taken_leads behind good refused (leaves_out {member = f} {ts} n) = leads_without f behind ts ok.table_is good.0 n
  taken_leads behind good refused (takes_member {member = f} {ts} w) =
      leads_on (leads_into table more ok f behind ts refused (front good.0 w)) (taken_leads behind good.1 (refused_member table more behind f refused) w)
  taken_leads behind good refused (takes_no_more {member = f} {ts} n) = leads_done f behind ts ok.table_is good.0 n
  taken_leads behind good refused (takes_more {member = f} {ts} w v) =
      leads_on (leads_round table more ok f behind ts refused (front good.0 w))
      (leads_on (taken_leads (repeated f ∷ behind) good.1 (refused_again table more behind f good.2 refused) w) (taken_leads behind good refused v))

  pub stops : {f : Form Part} {ts rest : List Token} (behind : List (Form Part)) → IsPredictive table more f → Refused table more f behind
      → StopsIn line table f ts rest → Stops line (f ∷ behind) ts (length rest)
  stops behind good refused (stops_known s) = s behind
  stops behind good refused (none_fits {form = f} {ts} some n) =
      stops_here (f ∷ behind) ts ok.table_is (λ e. not_empty (nullable f) (may_end behind) some) (starts_first table f behind ts some n)
  stops behind good refused (stops_in_part {name} {ts} s) =
      stops_behind (leads_part line name behind ts) (stops behind (ok.predictive name) (refused_part table more ok name behind refused) s)
  stops behind good refused (stops_in_first {first = f} {behind = g} {ts} s) =
      stops_behind (leads_sequence line f g behind ts) (stops (g ∷ behind) good.0 (refused_first table more behind f g good.2 refused) s)
  stops behind good refused (stops_in_behind {first = f} {behind = g} {ts} w s) =
      stops_behind (leads_on (leads_sequence line f g behind ts) (taken_leads (g ∷ behind) good.0 (refused_first table more behind f g good.2 refused) w))
      (stops behind good.1 (refused_last table more behind f g refused) s)
  stops behind good refused (stops_in_this {this = f} {other = g} {ts} n s) =
      stops_behind (leads_this f g behind ts ok.table_is good.1 n) (stops behind good.4 (refused_this table more behind f g refused) s)
  stops behind good refused (stops_in_other {this = f} {other = g} {ts} n s) =
      stops_behind (leads_other f g behind ts ok.table_is good.0 n) (stops behind good.5 (refused_other table more behind f g refused) s)
  stops behind good refused (stops_in_member {member = f} {t} {ts} e s) =
      stops_behind (leads_into table more ok f behind (t ∷ ts) refused e) (stops behind good.1 (refused_member table more behind f refused) s)
  stops behind good refused (stops_before {member = f} {behind = g} {ts} some n s) =
      stops_behind
      (leads_on (leads_sequence line (optional f) g behind ts) (leads_with f (g ∷ behind) ts ok.table_is (λ e. not_empty (nullable g) (may_end behind) some) (starts_first table g behind ts some n)))
      (stops (g ∷ behind) good.0.1 (refused_member table more (g ∷ behind) f (refused_first table more behind (optional f) g good.2 refused)) s)
  stops behind good refused (stops_in_more {member = f} {t} {ts} e s) =
      stops_behind (leads_round table more ok f behind (t ∷ ts) refused e) (stops (repeated f ∷ behind) good.1 (refused_again table more behind f good.2 refused) s)
  stops behind good refused (stops_later {member = f} {ts} w s) =
      stops_behind
      (leads_on (leads_round table more ok f behind ts refused (front good.0 w)) (taken_leads (repeated f ∷ behind) good.1 (refused_again table more behind f good.2 refused) w))
      (stops behind good refused s)
