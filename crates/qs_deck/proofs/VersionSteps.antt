-- Passing the line of the version.
use Rattle.std.proofs.Common.{◌≡◌, ℕ, suc, ◌+◌, ◌-◌, ◌≤◌, refl, sym, ap, ◌∙◌, subst, ⊎_elim, List, [], ◌∷◌, ◌++◌, length, drop, Some, slice_get, arith, append-nil, length-append, length-drop, false}
use Rattle.std.proofs.lemmas.Bool.{false≢true}
use Rattle.qs_lex.specs.declared.token.Token.{Token}
use Rattle.qs_lex.specs.declared.token.Word.TheVariants.{Version}
use Rattle.qs_lex.specs.Tokens.{version_of}
use Rattle.qs_lex.specs.Grammar.{Sort, sort_of, the_word, stop, Form, part, IsOf}
use Rattle.qs_lex.specs.Expecting.{same_sort, NextIsNo}
use Rattle.qs_lex.specs.working.Expecting.{IsPredictive, Stops}
use Rattle.qs_lex.proofs.Expected.{same_itself}
use Rattle.qs_lex.proofs.Going.{stops_here, stops_behind}
use Rattle.qs_lex.proofs.Stopping as stopping
use Rattle.qs_reader.specs.declared.text_end.TextEnd.{TextEnd}
use Rattle.qs_reader.specs.declared.text_end.TextEnd.TheVariants.{Syntax, Memory}
use Rattle.qs_reader.specs.Names.{NamesGrow}
use Rattle.qs_reader.specs.Readers.{Reading, rest_of, IsNext, IsPassed, Passes, EndsHere}
use Rattle.qs_reader.specs.working.Readers.{Reads, StopsOr}
use Rattle.qs_reader.proofs.Taking.{taken_leads, stops}
use Rattle.qs_reader.proofs.Steps.{on_and_on}
use Rattle.qs_reader.proofs.Tokens.{passed}
use Rattle.qs_deck.specs.WrittenDecks.{WrittenSystem, WrittenDeck}
use Rattle.qs_deck.specs.Grammar.{Part, deck, line as lines}
use Rattle.qs_deck.specs.Versions.{IsTwo, IsVersionLine, no_line, the_line}
use Rattle.qs_deck.specs.Reading.{ReadsSystems, ReadsDeck}
use Rattle.qs_deck.specs.Syntax.{StopsText}
use Rattle.qs_deck.specs.working.Syntax.{StopsBehind}
use Rattle.qs_deck.specs.working.Readers.{table, IsRead, Ends, some_systems, Systems, ADeck}
use Rattle.qs_deck.proofs.Tables.{more, ok}
use Rattle.qs_deck.proofs.Places.{cannot_go_on}
use Rattle.qs_deck.specs.working.Versions.{PassesLine, IsReadAs, AreReadAs, EndsIn}
use Rattle.qs_deck.proofs.Versions.{each_version, stops_at_word, stops_at_number, stops_at_dot, stops_first, stops_second}

-- the next token isn't of this sort
none_of : (sort : Sort) (ts : List Token) → NextIsNo (same_sort sort) ts → (t : Token) → slice_get ts 0 ≡ Some t → IsOf sort t → ⊥
none_of sort [] n t e is = absurd cc
none_of sort (u ∷ ts) n t e is =
    let same : u ≡ t = (let f : Some u ≡ Some t = e in cc) in
    false≢true (sym n ∙ same_itself sort (sort_of u.kind) (subst (IsOf sort) (sym same) is))

-- nor has it a property that it hasn't
pub none_next : {r : Reading} {next : Token} (P : Token → Type 0) → IsNext next r → (P next → ⊥) → (t : Token) → slice_get (rest_of r) 0 ≡ Some t → P t → ⊥
none_next {r} {next} P n never t e p =
    let found : Some next ≡ Some t = ap (λ ts. slice_get ts 0) (sym n.are) ∙ e in
    let same : next ≡ t = cc in
    never (subst P (sym same) p)

pub nothing_next : (r : Reading) (P : Token → Type 0) → rest_of r ≡ [] → (t : Token) → slice_get (rest_of r) 0 ≡ Some t → P t → ⊥
nothing_next r P none t e p = let found = ap (λ ts. slice_get ts 0) (sym none) ∙ e in absurd cc

-- a token that was passed takes one place
one_place : {t : Token} {r s : Reading} → IsPassed t r s → s.place ≡ r.place + 1
one_place {r = r} {s = s} p =
    omega (arith, ap length p.are, length-drop r.place r.tokens, length-drop s.place s.tokens, ap length p.goes_on.tokens, p.goes_on.forward, p.goes_on.within)

all_left : (r : Reading) → r.place ≡ 0 → rest_of r ≡ r.tokens
all_left r start = ap (λ k. drop k r.tokens) start

-- by the version that was looked at
pub second_if : (text : List ℕ) (v : ℕ) → v ≡ version_of text → (v ≡ 1 → ⊥) → version_of text ≡ 2
second_if text v is not = ⊎_elim (λ one. absurd (not (is ∙ one))) (λ two. two) (each_version text)

-- in version 1 there is no line
pub first_passed : {r : Reading} → r.place ≡ 0 → version_of r.text ≡ 1 → PassesLine r r 1
first_passed start first = record {
  version_is = sym first;
  front = [];
  are = refl;
  in_front = no_line;
  goes_on = record { text = refl; tokens = refl; forward = omega arith; within = omega (arith, start) };
}

module _ (form : Form Part) {r : Reading} (start : r.place ≡ 0) where
  module _ (second : version_of r.text ≡ 2) where
    at_word : (end : TextEnd) → EndsHere (the_word Version) r end → EndsIn form r.text r.tokens end
    at_word (Syntax at) e =
        subst (StopsText form r.text r.tokens) (sym (e.none.0 ∙ start))
        (stops_at_word form r.text second r.tokens (none_of (the_word Version) r.tokens (subst (NextIsNo (same_sort (the_word Version))) (all_left r start) e.none.2)))
    at_word Memory e = tt

    pub ends_at_word : {end : TextEnd} → EndsHere (the_word Version) r end → EndsIn form r.text r.tokens end
    ends_at_word {end} e = at_word end e

    module _ {u : Reading} (p : Passes (the_word Version) r u) where
      behind_word : r.tokens ≡ p.token ∷ rest_of u
      behind_word = sym (all_left r start) ∙ p.passed.are

      pub ends_at_number : {end : TextEnd} → end ≡ Syntax u.place → ((t : Token) → slice_get (rest_of u) 0 ≡ Some t → IsTwo u.text t → ⊥) → EndsIn form r.text r.tokens end
      ends_at_number is none =
          let here : StopsText form r.text (p.token ∷ rest_of u) 1 =
          stops_at_number form r.text second p.token (rest_of u) p.of_sort (λ t e two. none t e (subst (λ text. IsTwo text t) (sym p.passed.goes_on.text) two)) in
          let place : u.place ≡ 1 = omega (arith, one_place p.passed, start) in
          subst (EndsIn form r.text r.tokens) (sym is) (subst (StopsText form r.text r.tokens) (sym place) (subst (λ ts. StopsText form r.text ts 1) (sym behind_word) here))

      module _ {number : Token} {v : Reading} (n : IsNext number u) (two : IsTwo u.text number) (taken : v ≡ record u { place = u.place + 1 }) where
        number_passed : IsPassed number u v
        number_passed = passed u v number n taken

        is_two : IsTwo r.text number
        is_two = subst (λ text. IsTwo text number) p.passed.goes_on.text two

        behind_number : r.tokens ≡ p.token ∷ number ∷ rest_of v
        behind_number = behind_word ∙ ap (λ ts. p.token ∷ ts) number_passed.are

        at_dot : (end : TextEnd) → EndsHere stop v end → EndsIn form r.text r.tokens end
        at_dot (Syntax at) e =
            let here : StopsText form r.text (p.token ∷ number ∷ rest_of v) 2 = stops_at_dot form r.text second p.token number (rest_of v) p.of_sort is_two (none_of stop (rest_of v) e.none.2) in
            let place : at ≡ 2 = omega (arith, e.none.0, one_place number_passed, one_place p.passed, start) in
            subst (StopsText form r.text r.tokens) (sym place) (subst (λ ts. StopsText form r.text ts 2) (sym behind_number) here)
        at_dot Memory e = tt

        pub ends_at_dot : {end : TextEnd} → EndsHere stop v end → EndsIn form r.text r.tokens end
        ends_at_dot {end} e = at_dot end e

        pub line_passed : {w : Reading} → Passes stop v w → PassesLine r w 2
        line_passed q = record {
          version_is = sym second;
          front = p.token ∷ number ∷ q.token ∷ [];
          are = p.passed.are ∙ ap (λ ts. p.token ∷ ts) (number_passed.are ∙ ap (λ ts. number ∷ ts) q.passed.are);
          in_front = the_line p.of_sort is_two q.of_sort;
          goes_on = on_and_on p.passed.goes_on (on_and_on number_passed.goes_on q.passed.goes_on);
        }

-- what is read behind the line is read of the whole text
module _ (form : Form Part) (good : IsPredictive table more form) {r s : Reading} {version : ℕ} (start : r.place ≡ 0) (l : PassesLine r s version) where
  -- where it can't go on
  lifted : (k : ℕ) → StopsBehind form (rest_of s) k → StopsText form r.text r.tokens (s.place + k)
  lifted k stops = by l.front l.in_front l.version_is (sym (all_left r start) ∙ l.are)
    where
      by : {v : ℕ} (front : List Token) → IsVersionLine r.text v front → v ≡ version_of r.text → r.tokens ≡ front ++ rest_of s → StopsText form r.text r.tokens (s.place + k)
      by [] no_line is are =
          let place : s.place ≡ 0 = omega (arith, ap length are, length-drop s.place s.tokens, ap length l.goes_on.tokens, l.goes_on.within) in
          let there : k ≡ s.place + k = omega (arith, place) in
          subst (StopsText form r.text r.tokens) there (subst (λ ts. StopsText form r.text ts k) (sym are) (stops_first form r.text (sym is) (rest_of s) k stops))
      by front (the_line {word} {number} {dot} w n d) is are =
          let place : s.place ≡ 3 = omega (arith, ap length are, length-drop s.place s.tokens, ap length l.goes_on.tokens, l.goes_on.within) in
          let there : suc (suc (suc k)) ≡ s.place + k = omega (arith, place) in
          subst (StopsText form r.text r.tokens) there (subst (λ ts. StopsText form r.text ts (suc (suc (suc k)))) (sym are) (stops_second form r.text (sym is) word number dot w n d (rest_of s) k stops))

  behind_line : (end : TextEnd) → StopsOr lines table form s end → EndsIn form r.text r.tokens end
  behind_line (Syntax at) e =
      let many : length (drop at s.tokens) ≡ length (rest_of s) - (at - s.place) = omega (arith, length-drop at s.tokens, length-drop s.place s.tokens, e.forward, e.within) in
      let within : at - s.place ≤ length (rest_of s) = omega (arith, length-drop s.place s.tokens, e.forward, e.within) in
      let here = cannot_go_on form (rest_of s) (at - s.place) within (subst (λ n. Stops lines (form ∷ []) (rest_of s) n) many (stops table more ok [] good (λ k s. absurd (false≢true s)) e.stops)) in
      subst (StopsText form r.text r.tokens) (let back : s.place + (at - s.place) ≡ at = omega (arith, e.forward) in back) (lifted (at - s.place) here)
  behind_line Memory e = tt

  pub ends_behind_line : {end : TextEnd} → Ends form s end → EndsIn form r.text r.tokens end
  ends_behind_line {end} e = behind_line end e.stops

  module _ {R : Reads} {u : Reading} {old new : List (List ℕ)} (read : IsRead form R s u old new) where
    -- a token stands behind the whole form
    pub ends_behind_form : {t : Token} {end : TextEnd} → IsNext t u → end ≡ Syntax u.place → EndsIn form r.text r.tokens end
    ends_behind_form {t} n is =
        let some : rest_of u ≡ [] → ⊥ = λ e. let cut : t ∷ n.behind ≡ [] = sym n.are ∙ e in absurd cc in
        let stopped = stops_behind (taken_leads table more ok [] good (λ k s. absurd (false≢true s)) read.takes) (stops_here [] (rest_of u) ok.table_is (λ e. absurd (some e)) (stopping.nothing_next (λ k. false) (rest_of u) (λ k. refl))) in
        let at : ℕ = u.place - s.place in
        let within : at ≤ length (rest_of s) = omega (arith, length-drop s.place s.tokens, read.goes_on.forward, read.goes_on.within, ap length read.goes_on.tokens) in
        let many : length (rest_of u) ≡ length (rest_of s) - at = omega (arith, length-drop u.place u.tokens, length-drop s.place s.tokens, read.goes_on.forward, read.goes_on.within, ap length read.goes_on.tokens) in
        let here = cannot_go_on form (rest_of s) at within (subst (λ k. Stops lines (form ∷ []) (rest_of s) k) many stopped) in
        let back : s.place + at ≡ u.place = omega (arith, read.goes_on.forward) in
        subst (EndsIn form r.text r.tokens) (sym is) (subst (StopsText form r.text r.tokens) back (lifted at here))

-- what is read behind the line, to the end
module _ {r s u : Reading} {version : ℕ} {old new : List (List ℕ)} (start : r.place ≡ 0) (l : PassesLine r s version) where
  pub deck_read : {d : WrittenDeck} → IsRead (part deck) (ADeck d) s u old new → rest_of u ≡ [] → IsReadAs r.text r.tokens version d old new
  deck_read {d} read ended = record {
    version_is = l.version_is;
    front = l.front;
    body = rest_of s;
    are = sym (all_left r start) ∙ l.are;
    in_front = l.in_front;
    reads = subst (λ text. ReadsDeck new text (rest_of s) d []) l.goes_on.text (subst (λ us. ReadsDeck new s.text (rest_of s) d us) ended (read.reads new (λ k t i. i)));
    names_are =
        let g = read.names in
        subst (λ text. NamesGrow text (rest_of s) old new) l.goes_on.text (subst (λ us. NamesGrow s.text us old new) (sym (g.1 ∙ ap (λ us. g.0 ++ us) ended ∙ append-nil g.0)) g.2);
  }

  pub systems_read : {systems : List WrittenSystem} → IsRead some_systems (Systems systems) s u old new → rest_of u ≡ [] → AreReadAs r.text r.tokens version systems old new
  systems_read {systems} read ended =
      let found = read.reads new (λ k t i. i) in
      record {
        version_is = l.version_is;
        front = l.front;
        body = rest_of s;
        are = sym (all_left r start) ∙ l.are;
        in_front = l.in_front;
        some = found.0;
        reads = subst (λ text. ReadsSystems new text (rest_of s) systems []) l.goes_on.text (subst (λ us. ReadsSystems new s.text (rest_of s) systems us) ended found.1);
        names_are =
            let g = read.names in
            subst (λ text. NamesGrow text (rest_of s) old new) l.goes_on.text (subst (λ us. NamesGrow s.text us old new) (sym (g.1 ∙ ap (λ us. g.0 ++ us) ended ∙ append-nil g.0)) g.2);
      }

-- the names grow by no more than the tokens
pub few_read : {form : Form Part} {R : Reads} {r s u : Reading} {version : ℕ} {old new : List (List ℕ)} → PassesLine r s version → IsRead form R s u old new → length new ≤ length old + length r.tokens
few_read {r = r} {s = s} l read = omega (arith, read.room, ap length l.are, length-append l.front (rest_of s), length-drop r.place r.tokens)
