-- What holds between two turns of a loop that reads what may be repeated.
use Rattle.std.proofs.Common.{◌≡◌, ℕ, ◌≤◌, Bool, true, refl, sym, ◌∙◌, ap, subst, List, ◌∷◌, length, arith}
use Rattle.qs_lex.specs.declared.token.Token.{Token}
use Rattle.qs_lex.specs.Grammar.{Sort, sort_of, Form, one, ◌·◌, repeated, Grammar}
use Rattle.qs_lex.specs.Expecting.{NextIsNo}
use Rattle.qs_lex.specs.working.Expecting.{first}
use Rattle.qs_lex.proofs.Expected.{same_itself}
use Rattle.qs_reader.specs.declared.text_end.TextEnd.{TextEnd}
use Rattle.qs_reader.specs.working.Names.{NamesGrowUpTo}
use Rattle.qs_reader.specs.Readers.{Reading, rest_of, IsAt, Passes, Stays}
use Rattle.qs_reader.specs.working.Readers.{takes_token, takes_sequence, takes_no_more, takes_more, StopsIn, stops_in_behind, stops_in_more, stops_later, Reads, IsRead, IsReadSoFar, Ends}
use Rattle.qs_reader.proofs.Naming.{no_names, names_on}
use Rattle.qs_reader.proofs.Steps.{on_and_on, ends_from}

module _ {Part : Type 0} {line : Grammar Part} {table : Part → Sort → Bool} where
  -- the first member was read
  pub first_read : {f m : Form Part} {R S : Reads} {r s : Reading} {old new : List (List ℕ)} → ((names : List (List ℕ)) (text : List ℕ) (ts rest : List Token) → R names text ts rest → S names text ts rest)
      → IsRead line table f R r s old new → IsReadSoFar line table (f · repeated m) m S r s old new
  first_read {r} {s} reads a =
      record {
        reads = λ later k. reads later r.text (rest_of r) (rest_of s) (a.reads later k);
        takes = λ rest t. takes_sequence a.takes t;
        stops = λ rest t. stops_in_behind a.takes t;
        names = a.names;
        keeps = a.keeps;
        goes_on = a.goes_on;
        room = a.room;
        shorter = a.shorter;
      }

  -- nothing was read yet
  pub none_read : {m : Form Part} {S : Reads} {r : Reading} (names : List (List ℕ)) → r.place ≤ length r.tokens → ((later : List (List ℕ)) → S later r.text (rest_of r) (rest_of r))
      → IsReadSoFar line table (repeated m) m S r r names names
  none_read {r} names within reads =
      record {
        reads = λ later k. reads later;
        takes = λ rest t. t;
        stops = λ rest t. t;
        names = no_names r.text (rest_of r) names;
        keeps = λ k t i. i;
        goes_on = record { text = refl; tokens = refl; forward = omega arith; within = within };
        room = omega arith;
        shorter = omega arith;
      }

  -- one more member was read
  pub next_read : {f m : Form Part} {R S T : Reads} {r s u : Reading} {old middle new : List (List ℕ)}
      → ((names : List (List ℕ)) (text : List ℕ) (ts us rest : List Token) → S names text ts us → R names text us rest → T names text ts rest)
      → IsReadSoFar line table f m S r s old middle → IsRead line table m R s u middle new → IsReadSoFar line table f m T r u old new
  next_read {R} {r} {s} {u} {old} {middle} {new} reads a b =
      record {
        reads = λ later k.
            reads later r.text (rest_of r) (rest_of s) (rest_of u) (a.reads later (λ j x i. k j x (b.keeps j x i)))
            (subst (λ text. R later text (rest_of s) (rest_of u)) a.goes_on.text (b.reads later k));
        takes = λ rest t. a.takes rest (takes_more b.takes t);
        stops = λ rest t. a.stops rest (stops_later b.takes t);
        names = names_on r.text (rest_of r) (rest_of s) (rest_of u) old middle new a.names (subst (λ text. NamesGrowUpTo text (rest_of s) (rest_of u) middle new) a.goes_on.text b.names);
        keeps = λ j x i. b.keeps j x (a.keeps j x i);
        goes_on = on_and_on a.goes_on b.goes_on;
        room = omega (arith, a.room, b.room);
        shorter = omega (arith, a.shorter, b.shorter);
      }

  -- no more members stand here
  pub last_read : {f m : Form Part} {R S : Reads} {r s : Reading} {old new : List (List ℕ)} → ((names : List (List ℕ)) (text : List ℕ) (ts rest : List Token) → R names text ts rest → S names text ts rest)
      → IsReadSoFar line table f m R r s old new → NextIsNo (first table m) (rest_of s) → IsRead line table f S r s old new
  last_read {r} {s} reads a n =
      record {
        reads = λ later k. reads later r.text (rest_of r) (rest_of s) (a.reads later k);
        takes = a.takes (rest_of s) (takes_no_more n);
        names = a.names;
        keeps = a.keeps;
        goes_on = a.goes_on;
        room = a.room;
        shorter = a.shorter;
      }

  pub no_more_read : {f g : Form Part} {sort : Sort} {R S : Reads} {r s u : Reading} {old new : List (List ℕ)} → ((names : List (List ℕ)) (text : List ℕ) (ts rest : List Token) → R names text ts rest → S names text ts rest)
      → IsReadSoFar line table f (one sort · g) R r s old new → Stays sort s u → IsRead line table f S r u old new
  no_more_read {f} {S} {r} {old} {new} reads a st = subst (λ u. IsRead line table f S r u old new) (sym st.same) (last_read reads a st.none)

  -- a next member stops: one that a token begins, or one that the next token begins
  stops_behind_token : {sort : Sort} {g : Form Part} {t : Token} {ts us rest : List Token} → ts ≡ t ∷ us → sort_of t.kind ≡ sort → StopsIn line table g us rest → StopsIn line table (repeated (one sort · g)) ts rest
  stops_behind_token {sort} {g} {t} {rest} are of s =
      subst (λ vs. StopsIn line table (repeated (one sort · g)) vs rest) (sym are) (stops_in_more (same_itself sort (sort_of t.kind) of) (stops_in_behind (takes_token of) s))

  pub next_ends : {f g : Form Part} {sort : Sort} {S : Reads} {r s u : Reading} {old new : List (List ℕ)} {end : TextEnd}
      → IsReadSoFar line table f (one sort · g) S r s old new → Passes sort s u → Ends line table g u end → Ends line table f r end
  next_ends a p e = ends_from (on_and_on a.goes_on p.passed.goes_on) (λ rest t. a.stops rest (stops_behind_token p.passed.are p.of_sort t)) e

  stops_next : {m : Form Part} {t : Token} {ts us rest : List Token} → ts ≡ t ∷ us → first table m (sort_of t.kind) ≡ true → StopsIn line table m ts rest → StopsIn line table (repeated m) ts rest
  stops_next {m} {rest} are begins s = subst (λ vs. StopsIn line table (repeated m) vs rest) (sym are) (stops_in_more begins (subst (λ vs. StopsIn line table m vs rest) are s))

  pub member_ends : {f m : Form Part} {sort : Sort} {S : Reads} {r s : Reading} {old new : List (List ℕ)} {end : TextEnd}
      → IsReadSoFar line table f m S r s old new → IsAt sort s → first table m sort ≡ true → Ends line table m s end → Ends line table f r end
  member_ends {m} a n begins e = ends_from a.goes_on (λ rest t. a.stops rest (stops_next n.next.are (ap (first table m) n.of_sort ∙ begins) t)) e
