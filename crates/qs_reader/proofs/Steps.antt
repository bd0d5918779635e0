-- The steps of readers: what is known where a token, a label, one thing behind another, or one of two was read, and where that
-- stopped.
use Rattle.std.proofs.Common.{◌≡◌, ℕ, ◌+◌, ◌≤◌, Bool, false, refl, sym, ◌∙◌, ap, subst, List, ◌∷◌, length, drop, arith, Result}
use Rattle.std.specs.Prelude.{IfErr, IsErrAnd}
use Rattle.std.proofs.lemmas.Result.{err_from_is_err_and}
use Rattle.qs_lex.specs.declared.token.Token.{Token}
use Rattle.qs_lex.specs.Grammar.{Sort, a_label as the_label, sort_of, IsOf, Form, one, part, ◌·◌, ◌∣◌, optional, Grammar}
use Rattle.qs_lex.specs.Expecting.{same_sort, NextIsNo}
use Rattle.qs_lex.specs.working.Expecting.{nullable, first}
use Rattle.qs_lex.proofs.Expected.{same_itself}
use Rattle.qs_tree.specs.declared.cell.Label.{Label}
use Rattle.qs_reader.specs.declared.text_end.TextEnd.{TextEnd}
use Rattle.qs_reader.specs.declared.text_end.TextEnd.TheVariants.{Syntax, Memory}
use Rattle.qs_reader.specs.working.Names.{NamesGrowUpTo}
use Rattle.qs_reader.specs.Readers.{Reading, rest_of, GoesOn, IsPassed, Passes, Stays, NamesLabel, IsNoneHere, EndsHere}
use Rattle.qs_reader.specs.working.Readers.{IsTaken, takes_token, takes_part, takes_sequence, takes_this, takes_other, leaves_out, takes_member, StopsIn, none_fits, stops_in_part, stops_in_first, stops_in_behind, stops_in_this, stops_in_other, stops_in_member, stops_before, Reads, IsRead, StopsOr, Ends, AToken, a_token, ALabel, a_label, Nothing, nothing, Then, then}
use Rattle.qs_reader.proofs.Naming.{no_names, names_on, one_name, no_label}
use Rattle.qs_reader.proofs.Tokens.{label_sort}

pub on_and_on : {r s u : Reading} → GoesOn r s → GoesOn s u → GoesOn r u
on_and_on g h = record { text = h.text ∙ g.text; tokens = h.tokens ∙ g.tokens; forward = omega (arith, g.forward, h.forward); within = h.within }

pub passed_length : {t : Token} {r s : Reading} → IsPassed t r s → length (rest_of r) ≡ length (rest_of s) + 1
passed_length p = ap length p.are ∙ omega arith

pub stayed_length : {sort : Sort} {r s : Reading} → Stays sort r s → length (rest_of s) ≡ length (rest_of r)
stayed_length st = ap (λ r. length (rest_of r)) st.same

-- a `?` that hands on an end
pub hands_on : {T E : Type 0} (r : Result T E) {end : E} (P : E → Type 0) → IsErrAnd r (λ e. e ≡ end) → P end → IfErr r P
hands_on r P h x = let p = err_from_is_err_and r h in rw (p.1, p.2) x

none_here : {Part : Type 0} (line : Grammar Part) (table : Part → Sort → Bool) (f : Form Part) (sort : Sort) (r : Reading) (end : TextEnd) → nullable f ≡ false
    → (NextIsNo (same_sort sort) (rest_of r) → NextIsNo (first table f) (rest_of r)) → IsNoneHere sort r end → StopsOr line table f r end
none_here line table f sort r (Syntax at) some none e =
    record {
      forward = omega (arith, e.0);
      within = omega (arith, e.0, e.1);
      stops = subst (λ k. StopsIn line table f (rest_of r) (drop k r.tokens)) (sym e.0) (none_fits some (none e.2));
    }
none_here line table f sort r Memory some none e = tt

-- what holds of the sort holds of the next token, which is of it
pub next_is_no : {sort : Sort} {r s : Reading} (p : Sort → Bool) → p sort ≡ false → Passes sort r s → NextIsNo p (rest_of r)
next_is_no p fails n = subst (λ ts. NextIsNo p ts) (sym n.passed.are) (ap p n.of_sort ∙ fails)

pub stayed_here : {k sort : Sort} {r s : Reading} {end : TextEnd} → Stays sort r s → EndsHere k s end → EndsHere k r end
stayed_here {k} {end} st e = subst (λ r. EndsHere k r end) st.same e

module _ {Part : Type 0} {line : Grammar Part} {table : Part → Sort → Bool} where
  pub passed_read : {sort : Sort} {t : Token} {R : Reads} {r s : Reading} (names : List (List ℕ)) → same_sort the_label sort ≡ false → IsOf sort t
      → ((later : List (List ℕ)) → R later r.text (t ∷ rest_of s) (rest_of s)) → IsPassed t r s → IsRead line table (one sort) R r s names names
  passed_read {sort} {t} {R} {r} {s} names differs of reads p =
      let longer = passed_length p in
      record {
        reads = λ later k. subst (λ us. R later r.text us (rest_of s)) (sym p.are) (reads later);
        takes = subst (λ us. IsTaken line table (one sort) us (rest_of s)) (sym p.are) (takes_token of);
        names = no_label sort r.text (rest_of r) (rest_of s) t names differs of p.are;
        keeps = λ k t i. i;
        goes_on = p.goes_on;
        room = omega (arith, longer);
        shorter = omega (arith, longer);
      }

  pub token_read : {sort : Sort} {r s : Reading} (names : List (List ℕ)) → same_sort the_label sort ≡ false → Passes sort r s → IsRead line table (one sort) (AToken sort) r s names names
  token_read names differs p = passed_read names differs p.of_sort (λ later. a_token p.of_sort) p.passed

  pub label_read : {label : Label} {r s : Reading} {old new : List (List ℕ)} → NamesLabel label r s old new → IsRead line table (one the_label) (ALabel label) r s old new
  label_read {label} {r} {s} {old} {new} n =
      let longer = passed_length n.passed in
      let is = n.is_label new (λ k t i. i) in
      record {
        reads = λ later k. subst (λ us. ALabel label later r.text us (rest_of s)) (sym n.passed.are) (a_label (n.is_label later k));
        takes = subst (λ us. IsTaken line table (one the_label) us (rest_of s)) (sym n.passed.are) (takes_token (label_sort r.text n.token is.spelling is.of_token));
        names = one_name r.text (rest_of r) (rest_of s) n.token old new n.passed.are n.adds;
        keeps = n.keeps;
        goes_on = n.passed.goes_on;
        room = omega (arith, longer, n.few);
        shorter = omega (arith, longer);
      }

  nowhere : {f : Form Part} {r : Reading} (names : List (List ℕ)) → NextIsNo (first table f) (rest_of r) → r.place ≤ length r.tokens → IsRead line table (optional f) Nothing r r names names
  nowhere {r} names none within =
      record {
        reads = λ later k. nothing;
        takes = leaves_out none;
        names = no_names r.text (rest_of r) names;
        keeps = λ k t i. i;
        goes_on = record { text = refl; tokens = refl; forward = omega arith; within = within };
        room = omega arith;
        shorter = omega arith;
      }

  -- what may be left out, and isn't there
  pub left_out_read : {f : Form Part} {sort : Sort} {r s : Reading} (names : List (List ℕ)) → NextIsNo (first table f) (rest_of r) → Stays sort r s → IsRead line table (optional f) Nothing r s names names
  left_out_read {f} {r} names none st = subst (λ s. IsRead line table (optional f) Nothing r s names names) (sym st.same) (nowhere names none st.within)

  -- the next token is none with which it may begin
  pub absent_read : {f : Form Part} {sort : Sort} {r s : Reading} (names : List (List ℕ)) → first table f sort ≡ false → Passes sort r s → IsRead line table (optional f) Nothing r r names names
  absent_read {f} {r} names none p =
      let on = p.passed.goes_on in
      nowhere names (next_is_no (first table f) none p) (omega (arith, on.forward, on.within, ap length on.tokens))

  -- one thing, and then another
  pub then_read : {f g : Form Part} {R S : Reads} {r s u : Reading} {old middle new : List (List ℕ)}
      → IsRead line table f R r s old middle → IsRead line table g S s u middle new → IsRead line table (f · g) (Then R S) r u old new
  then_read {S} {r} {s} {u} {old} {middle} {new} a b =
      record {
        reads = λ later k. then (a.reads later (λ j x i. k j x (b.keeps j x i))) (subst (λ text. S later text (rest_of s) (rest_of u)) a.goes_on.text (b.reads later k));
        takes = takes_sequence a.takes b.takes;
        names = names_on r.text (rest_of r) (rest_of s) (rest_of u) old middle new a.names (subst (λ text. NamesGrowUpTo text (rest_of s) (rest_of u) middle new) a.goes_on.text b.names);
        keeps = λ j x i. b.keeps j x (a.keeps j x i);
        goes_on = on_and_on a.goes_on b.goes_on;
        room = omega (arith, a.room, b.room);
        shorter = omega (arith, a.shorter, b.shorter);
      }

  -- what was read so is read so too, and takes another form
  pub read_at : {f g : Form Part} {R S : Reads} {r s : Reading} {old new : List (List ℕ)}
      → (IsTaken line table f (rest_of r) (rest_of s) → IsTaken line table g (rest_of r) (rest_of s)) → ((later : List (List ℕ)) → R later r.text (rest_of r) (rest_of s) → S later r.text (rest_of r) (rest_of s))
      → IsRead line table f R r s old new → IsRead line table g S r s old new
  read_at takes reads a =
      record {
        reads = λ later k. reads later (a.reads later k);
        takes = takes a.takes;
        names = a.names;
        keeps = a.keeps;
        goes_on = a.goes_on;
        room = a.room;
        shorter = a.shorter;
      }

  pub read_so : {f : Form Part} {R S : Reads} {r s : Reading} {old new : List (List ℕ)} → ((names : List (List ℕ)) (text : List ℕ) (ts rest : List Token) → R names text ts rest → S names text ts rest)
      → IsRead line table f R r s old new → IsRead line table f S r s old new
  read_so {r} {s} reads a = read_at (λ w. w) (λ later x. reads later r.text (rest_of r) (rest_of s) x) a

  pub part_read : {p : Part} {R : Reads} {r s : Reading} {old new : List (List ℕ)} → IsRead line table (line p) R r s old new → IsRead line table (part p) R r s old new
  part_read a = read_at (λ w. takes_part w) (λ later x. x) a

  pub this_read : {f g : Form Part} {R : Reads} {r s : Reading} {old new : List (List ℕ)} → IsRead line table f R r s old new → IsRead line table (f ∣ g) R r s old new
  this_read a = read_at (λ w. takes_this w) (λ later x. x) a

  pub other_read : {f g : Form Part} {R : Reads} {r s : Reading} {old new : List (List ℕ)} → IsRead line table g R r s old new → IsRead line table (f ∣ g) R r s old new
  other_read a = read_at (λ w. takes_other w) (λ later x. x) a

  pub member_read : {f : Form Part} {R : Reads} {r s : Reading} {old new : List (List ℕ)} → IsRead line table f R r s old new → IsRead line table (optional f) R r s old new
  member_read a = read_at (λ w. takes_member w) (λ later x. x) a

  -- from where it stayed
  pub stayed_read : {f : Form Part} {R : Reads} {sort : Sort} {r s u : Reading} {old new : List (List ℕ)} → Stays sort r s → IsRead line table f R s u old new → IsRead line table f R r u old new
  stayed_read {f} {R} {u} {old} {new} st a = subst (λ r. IsRead line table f R r u old new) st.same a

  -- where it stops
  pub stayed_ends : {f : Form Part} {sort : Sort} {r s : Reading} {end : TextEnd} → Stays sort r s → Ends line table f s end → Ends line table f r end
  stayed_ends {f} {end} st e = subst (λ r. Ends line table f r end) st.same e

  from_behind : {f g : Form Part} {r s : Reading} (end : TextEnd) → GoesOn r s → ((rest : List Token) → StopsIn line table g (rest_of s) rest → StopsIn line table f (rest_of r) rest)
      → StopsOr line table g s end → StopsOr line table f r end
  from_behind {f} {r} {s} (Syntax at) on stops e =
      record {
        forward = omega (arith, on.forward, e.forward);
        within = subst (λ ts. at ≤ length ts) on.tokens e.within;
        stops = subst (λ ts. StopsIn line table f (rest_of r) (drop at ts)) on.tokens (stops (drop at s.tokens) e.stops);
      }
  from_behind Memory on stops e = tt

  from_here : {f g : Form Part} (r : Reading) (end : TextEnd) → ((rest : List Token) → StopsIn line table g (rest_of r) rest → StopsIn line table f (rest_of r) rest)
      → StopsOr line table g r end → StopsOr line table f r end
  from_here r (Syntax at) stops e = record { forward = e.forward; within = e.within; stops = stops (drop at r.tokens) e.stops }
  from_here r Memory stops e = tt

  pub ends_from : {f g : Form Part} {r s : Reading} {end : TextEnd} → GoesOn r s → ((rest : List Token) → StopsIn line table g (rest_of s) rest → StopsIn line table f (rest_of r) rest)
      → Ends line table g s end → Ends line table f r end
  ends_from {end} on stops e = record { stops = from_behind end on stops e.stops }

  pub ends_as : {f g : Form Part} {r : Reading} {end : TextEnd} → ((rest : List Token) → StopsIn line table g (rest_of r) rest → StopsIn line table f (rest_of r) rest)
      → Ends line table g r end → Ends line table f r end
  ends_as {r} {end} stops e = record { stops = from_here r end stops e.stops }

  -- none of what has to come stands next
  pub ends_here : {f : Form Part} {sort : Sort} {r : Reading} {end : TextEnd} → nullable f ≡ false → (NextIsNo (same_sort sort) (rest_of r) → NextIsNo (first table f) (rest_of r)) → EndsHere sort r end → Ends line table f r end
  ends_here {f} {sort} {r} {end} some none e = record { stops = none_here line table f sort r end some none e.none }

  pub token_ends : {sort : Sort} {r : Reading} {end : TextEnd} → EndsHere sort r end → Ends line table (one sort) r end
  token_ends e = ends_here refl (λ n. n) e

  pub part_ends : {p : Part} {r : Reading} {end : TextEnd} → Ends line table (line p) r end → Ends line table (part p) r end
  part_ends e = ends_as (λ rest s. stops_in_part s) e

  pub first_ends : {f g : Form Part} {r : Reading} {end : TextEnd} → Ends line table f r end → Ends line table (f · g) r end
  first_ends e = ends_as (λ rest s. stops_in_first s) e

  pub then_ends : {f g : Form Part} {R : Reads} {r s : Reading} {old new : List (List ℕ)} {end : TextEnd} → IsRead line table f R r s old new → Ends line table g s end → Ends line table (f · g) r end
  then_ends a e = ends_from a.goes_on (λ rest s. stops_in_behind a.takes s) e

  pub this_ends : {f g : Form Part} {r : Reading} {end : TextEnd} → NextIsNo (first table g) (rest_of r) → Ends line table f r end → Ends line table (f ∣ g) r end
  this_ends n e = ends_as (λ rest s. stops_in_this n s) e

  pub other_ends : {f g : Form Part} {r : Reading} {end : TextEnd} → NextIsNo (first table f) (rest_of r) → Ends line table g r end → Ends line table (f ∣ g) r end
  other_ends n e = ends_as (λ rest s. stops_in_other n s) e

  -- a member that a token begins may be left out
  stops_behind_token : {sort : Sort} {g : Form Part} {t : Token} {ts us rest : List Token} → ts ≡ t ∷ us → sort_of t.kind ≡ sort → StopsIn line table g us rest → StopsIn line table (optional (one sort · g)) ts rest
  stops_behind_token {sort} {g} {t} {rest} are of s =
      subst (λ vs. StopsIn line table (optional (one sort · g)) vs rest) (sym are) (stops_in_member (same_itself sort (sort_of t.kind) of) (stops_in_behind (takes_token of) s))

  pub member_ends : {sort : Sort} {g : Form Part} {r s : Reading} {end : TextEnd} → Passes sort r s → Ends line table g s end → Ends line table (optional (one sort · g)) r end
  member_ends p e = ends_from p.passed.goes_on (λ rest s. stops_behind_token p.passed.are p.of_sort s) e

  -- a member may be left out, and what stands behind it doesn't stand next
  pub before_ends : {f g : Form Part} {r : Reading} {end : TextEnd} → nullable g ≡ false → NextIsNo (first table g) (rest_of r) → Ends line table f r end → Ends line table (optional f · g) r end
  before_ends some n e = ends_as (λ rest s. stops_before some n s) e
