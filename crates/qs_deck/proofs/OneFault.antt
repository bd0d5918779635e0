-- A text has one first fault, and none where it is a deck.
use Rattle.std.proofs.Common.{◌≡◌, ℕ, zero, suc, ◌<◌, ◌≤◌, refl, sym, ◌∙◌, ap, subst, ⊎_elim, List, [], ◌∷◌, ◌++◌, length, map, take, Some, slice_get, arith}
use Rattle.std.proofs.lemmas.Bool.{cases_order}
use Rattle.std.proofs.lemmas.List.{take_all}
use Rattle.std.proofs.lemmas.List.Elements.{All-head, All-tail}
use Rattle.std.proofs.lemmas.Option.{slice_get_within}
use Rattle.qs_lex.specs.declared.token.Token.{Token}
use Rattle.qs_lex.specs.declared.refusal.Cause.{Cause}
use Rattle.qs_lex.specs.declared.refusal.Refusal.{Refusal}
use Rattle.qs_lex.proofs.Refusing as refusing
use Rattle.qs_lex.specs.Tokens.{AreTokensOf}
use Rattle.qs_lex.specs.Nesting.{IsTooDeep}
use Rattle.qs_lex.proofs.Readings as readings
use Rattle.qs_tree.specs.Names.{AreDistinct}
use Rattle.qs_pattern.specs.Rules.{IsAcceptable}
use Rattle.qs_ruletext.specs.WrittenRules.{WrittenRule}
use Rattle.qs_reader.specs.Names.{NamesGrow}
use Rattle.qs_reader.proofs.Naming.{one_growth, grow_distinct}
use Rattle.qs_check.specs.declared.checking.CheckEnd.TheVariants.{Refused}
use Rattle.qs_check.specs.Checking.{EndsWith}
use Rattle.qs_check.proofs.Limits.{one_cause, none_if_accepted}
use Rattle.qs_graph.specs.Graphs.{QGraph, IsValid}
use Rattle.qs_graphtext.specs.WrittenChains.{WrittenChain}
use Rattle.qs_graphtext.specs.GraphOfChains.{AreFew, AreRefused, graph_of}
use Rattle.qs_graphtext.specs.declared.chain_end.ChainEnd.TheVariants as chain_end
use Rattle.qs_deck.specs.Limits.{most_systems}
use Rattle.qs_deck.specs.WrittenDecks.{WrittenSystem, WrittenDeck}
use Rattle.qs_lex.specs.Grammar.{Form, part}
use Rattle.qs_deck.specs.Grammar.{Part, deck}
use Rattle.qs_deck.specs.Versions.{IsVersionLine, no_line, the_line, IsWholeText, BeginsText}
use Rattle.qs_deck.specs.Reading.{ReadsDeck}
use Rattle.qs_deck.specs.Syntax.{StopsText, CannotGoOn}
use Rattle.qs_deck.specs.working.Checked.{AreAccepted}
use Rattle.qs_deck.specs.Checks.{IsChecked, IsCheckFault, too_many_systems, rule_not_accepted}
use Rattle.qs_deck.specs.Decks.{Grammar, meaning_of, HasTokens, IsWritten, IsDeckOf}
use Rattle.qs_deck.specs.Refusals.{byte_of, IsFirstTooDeep, IsGraphFault, too_many_arcs, cycle, entries, exits, IsFault, bytes, tokens, nesting, syntax, check, graph, IsRefusalOf}
use Rattle.qs_deck.proofs.Versions.{front_begins_text, whole_text_begins}
use Rattle.qs_deck.proofs.WholeDecks.{written_whole}
use Rattle.qs_deck.proofs.OneDeck.{one_deck}

-- ---- nesting

pub one_too_deep : (ts : List Token) (i j : ℕ) → IsFirstTooDeep ts i → IsFirstTooDeep ts j → i ≡ j
one_too_deep ts i j a b = ⊎_elim (λ e. e) (λ o. absurd (⊎_elim (λ l. b.first i l a.deep) (λ l. a.first j l b.deep) o)) (cases_order i j)

-- ---- syntax

-- a longer front has the token at the end of a shorter one
record GoesOn (ts : List Token) (i j : ℕ) : Type 0 where
  token : Token
  there : slice_get ts i ≡ Some token
  more : List Token
  are : take j ts ≡ (take i ts ++ token ∷ []) ++ more

goes_on : (ts : List Token) (i j : ℕ) → i < j → j ≤ length ts → GoesOn ts i j
goes_on ts i zero l within = absurd (omega arith)
goes_on [] i (suc j) l within = absurd (omega arith)
goes_on (t ∷ ts) zero (suc j) l within = record { token = t; there = refl; more = take j ts; are = refl }
goes_on (t ∷ ts) (suc i) (suc j) l within =
    let on = goes_on ts i j (omega arith) (omega arith) in
    record { token = on.token; there = on.there; more = on.more; are = ap (λ us. t ∷ us) on.are }

-- no front past the place begins a deck
none_longer : (form : Form Part) (text : List ℕ) (ts : List Token) (i j : ℕ) → i < j → j ≤ length ts → StopsText form text ts i → BeginsText form text (take j ts) → ⊥
none_longer form text ts i j l within stops begins =
    let on = goes_on ts i j l within in
    stops.no_further on.token on.there (front_begins_text form text (take j ts) (take i ts ++ on.token ∷ []) on.more begins on.are)

pub one_stop : (form : Form Part) (text : List ℕ) (ts : List Token) (i j : ℕ) → StopsText form text ts i → StopsText form text ts j → i ≡ j
one_stop form text ts i j a b =
    ⊎_elim (λ e. e)
    (λ o. absurd (⊎_elim (λ l. none_longer form text ts i j l b.within a b.begins) (λ l. none_longer form text ts j i l a.within b a.begins) o))
    (cases_order i j)

pub never_whole : (form : Form Part) (text : List ℕ) (ts : List Token) (i : ℕ) → StopsText form text ts i → IsWholeText form text ts → ⊥
never_whole form text ts i stops whole =
    let begins : BeginsText form text (take (length ts) ts) = subst (λ us. BeginsText form text us) (sym (take_all (length ts) ts (omega arith))) (whole_text_begins whole) in
    ⊎_elim (λ e. stops.not_whole e whole)
    (λ o. ⊎_elim (λ l. none_longer form text ts i (length ts) l (omega arith) stops begins) (λ l. let within = stops.within in omega arith) o)
    (cases_order i (length ts))

-- ---- checks

accepted_first : (raw : WrittenRule) (raws : List WrittenRule) → AreAccepted (raw ∷ raws) → IsAcceptable raw.rule
accepted_first raw raws all = All-head (λ r. IsAcceptable r.rule) raw raws all

accepted_rest : (raw : WrittenRule) (raws : List WrittenRule) → AreAccepted (raw ∷ raws) → AreAccepted raws
accepted_rest raw raws all = All-tail (λ r. IsAcceptable r.rule) raw raws all

-- a rule that is accepted isn't refused
not_refused : (r : WrittenRule) (cause : Cause) (at : ℕ) → IsAcceptable r.rule → EndsWith r (Refused cause at) → ⊥
not_refused r cause at accepted ends = none_if_accepted r.rule cause ends.0 accepted ends.1

one_end : (r : WrittenRule) (c d : Cause) (p q : ℕ) → EndsWith r (Refused c p) → EndsWith r (Refused d q) → (p ≡ q) × (c ≡ d)
one_end r c d p q a b =
    let one = one_cause r.rule c d a.0 b.0 a.1 b.1 in
    let found : Some p ≡ Some q = sym a.2 ∙ ap (λ k. slice_get r.at k) one.1 ∙ b.2 in
    (cc, one.0)

-- the first rule that isn't accepted is one
first_refused : (front others behind more : List WrittenRule) (r s : WrittenRule) (c d : Cause) (p q : ℕ) → front ++ r ∷ behind ≡ others ++ s ∷ more
    → AreAccepted front → AreAccepted others → EndsWith r (Refused c p) → EndsWith s (Refused d q) → (p ≡ q) × (c ≡ d)
first_refused [] [] behind more r s c d p q same ok also a b =
    let here : s ≡ r = cc in one_end r c d p q a (subst (λ (raw : WrittenRule). EndsWith raw (Refused d q)) here b)
first_refused [] (x ∷ others) behind more r s c d p q same ok also a b =
    let here : r ≡ x = cc in absurd (not_refused x c p (accepted_first x others also) (subst (λ (raw : WrittenRule). EndsWith raw (Refused c p)) here a))
first_refused (x ∷ front) [] behind more r s c d p q same ok also a b =
    let here : s ≡ x = cc in absurd (not_refused x d q (accepted_first x front ok) (subst (λ (raw : WrittenRule). EndsWith raw (Refused d q)) here b))
first_refused (x ∷ front) (y ∷ others) behind more r s c d p q same ok also a b =
    let rest : front ++ r ∷ behind ≡ others ++ s ∷ more = cc in
    first_refused front others behind more r s c d p q rest (accepted_rest x front ok) (accepted_rest y others also) a b

none_refused : (front behind : List WrittenRule) (r : WrittenRule) (c : Cause) (p : ℕ) → AreAccepted (front ++ r ∷ behind) → EndsWith r (Refused c p) → ⊥
none_refused [] behind r c p ok ends = not_refused r c p (accepted_first r behind ok) ends
none_refused (x ∷ front) behind r c p ok ends = none_refused front behind r c p (accepted_rest x (front ++ r ∷ behind) ok) ends

not_many : (systems : List WrittenSystem) (system : WrittenSystem) → slice_get systems most_systems ≡ Some system → length systems ≤ most_systems → ⊥
not_many systems system there few = omega (arith, slice_get_within systems most_systems system there)

pub one_check : (systems : List WrittenSystem) {p q : ℕ} {c f : Cause} → IsCheckFault systems p c → IsCheckFault systems q f → (p ≡ q) × (c ≡ f)
one_check d (too_many_systems a there) (too_many_systems b also) =
    let found : Some a ≡ Some b = sym there ∙ also in
    let same : a ≡ b = cc in
    (ap (λ (s : WrittenSystem). s.at) same, refl)
one_check d (too_many_systems a there) (rule_not_accepted front behind raw few are ok ends) = absurd (not_many d a there few)
one_check d (rule_not_accepted front behind raw few are ok ends) (too_many_systems b also) = absurd (not_many d b also few)
one_check d (rule_not_accepted front behind raw {at} {cause} few are ok ends) (rule_not_accepted others more rule {at = place} {cause = other} fewer is also stops) =
    first_refused front others behind more raw rule cause other at place (sym are ∙ is) ok also ends stops

pub not_checked : (systems : List WrittenSystem) {p : ℕ} {c : Cause} → IsChecked systems → IsCheckFault systems p c → ⊥
not_checked d ok (too_many_systems a there) = not_many d a there ok.few
not_checked d ok (rule_not_accepted front behind raw {at} {cause} few are good ends) = none_refused front behind raw cause at (subst AreAccepted are ok.accepted) ends

-- ---- graphs

not_few : (chains : List WrittenChain) (at : ℕ) → AreRefused chains (chain_end.TooManyArcs at) → AreFew chains → ⊥
not_few chains at many few = omega (arith, many.0, few)

one_graph_fault : (d : WrittenDeck) {p q : ℕ} {c f : Cause} → IsGraphFault d p c → IsGraphFault d q f → (p ≡ q) × (c ≡ f)
one_graph_fault d (too_many_arcs {at} a) (too_many_arcs {at = place} b) =
    let found : Some at ≡ Some place = sym a.1 ∙ b.1 in
    (cc, refl)
one_graph_fault d (too_many_arcs {at} a) (cycle b) = absurd (not_few d.chains at a b.0)
one_graph_fault d (too_many_arcs {at} a) (entries b) = absurd (not_few d.chains at a b.0)
one_graph_fault d (too_many_arcs {at} a) (exits b) = absurd (not_few d.chains at a b.0)
one_graph_fault d (cycle a) (too_many_arcs {at} b) = absurd (not_few d.chains at b a.0)
one_graph_fault d (cycle a) (cycle b) = (refl, refl)
one_graph_fault d (cycle a) (entries b) = absurd (b.1.0 a.1)
one_graph_fault d (cycle a) (exits b) = absurd (b.1.0 a.1)
one_graph_fault d (entries a) (too_many_arcs {at} b) = absurd (not_few d.chains at b a.0)
one_graph_fault d (entries a) (cycle b) = absurd (a.1.0 b.1)
one_graph_fault d (entries a) (entries b) = (refl, refl)
one_graph_fault d (entries a) (exits b) = absurd (a.1.1 b.1.1)
one_graph_fault d (exits a) (too_many_arcs {at} b) = absurd (not_few d.chains at b a.0)
one_graph_fault d (exits a) (cycle b) = absurd (a.1.0 b.1)
one_graph_fault d (exits a) (entries b) = absurd (b.1.1 a.1.1)
one_graph_fault d (exits a) (exits b) = (refl, refl)

no_graph_fault : (d : WrittenDeck) {p : ℕ} {c : Cause} → AreFew d.chains → IsValid (graph_of d.chains) → IsGraphFault d p c → ⊥
no_graph_fault d few valid (too_many_arcs {at} b) = not_few d.chains at b few
no_graph_fault d few valid (cycle b) = let round = b.1 in valid.no_cycle round.node round.path round.is
no_graph_fault d few valid (entries b) = b.1.1 valid.entry
no_graph_fault d few valid (exits b) = b.1.2 valid.exit

-- ---- texts

-- the line of a version is told by its tokens, and what stands behind it too
pub one_line : (text : List ℕ) (v : ℕ) (front body others more : List Token) → IsVersionLine text v front → IsVersionLine text v others → front ++ body ≡ others ++ more → body ≡ more
one_line text v [] body others more no_line b e = by others b e
  where
    by : (others : List Token) → IsVersionLine text 1 others → body ≡ others ++ more → body ≡ more
    by [] no_line e = e
    by (t ∷ others) x e = elim x [ ]
one_line text v front body others more (the_line w n d) b e = by others b e
  where
    by : (others : List Token) → IsVersionLine text 2 others → front ++ body ≡ others ++ more → body ≡ more
    by others (the_line x m p) e = cc

-- a text is one written deck at most
record IsOneWritten (v w : ℕ) (names others : List (List ℕ)) (d e : WrittenDeck) : Type 0 where
  versions_are : v ≡ w
  names_are : names ≡ others
  same : d ≡ e

pub none_twice : AreDistinct []
none_twice i j t e f = absurd cc

one_written : {text : List ℕ} {v w : ℕ} {names others : List (List ℕ)} {d e : WrittenDeck} → IsWritten text v names d → IsWritten text w others e → IsOneWritten v w names others d e
one_written {text} {v} {w} {names} {others} {d} {e} a b =
    let ts : a.tokens ≡ b.tokens = readings.one_list text a.tokens b.tokens a.has_tokens.are_tokens b.has_tokens.are_tokens in
    let versions : v ≡ w = a.version_is ∙ sym b.version_is in
    let bodies : a.body ≡ b.body = one_line text v a.front a.body b.front b.body a.in_front (subst (λ u. IsVersionLine text u b.front) (sym versions) b.in_front) (sym a.are ∙ ts ∙ b.are) in
    let reads = subst (λ us. ReadsDeck others text us e []) (sym bodies) b.reads in
    let grow = subst (λ us. NamesGrow text us [] others) (sym bodies) b.names_are in
    let same_names : names ≡ others = one_growth text a.body [] names others a.names_are grow in
    let distinct = grow_distinct text a.body [] names none_twice a.names_are in
    record { versions_are = versions; names_are = same_names; same = one_deck names text distinct a.reads (subst (λ ns. ReadsDeck ns text a.body e []) (sym same_names) reads) }

-- so a fault of the one is a fault of the other
check_moved : {d e : WrittenDeck} {p : ℕ} {c : Cause} → d ≡ e → IsCheckFault e.systems p c → IsCheckFault d.systems p c
check_moved {p} {c} same f = subst (λ (x : WrittenDeck). IsCheckFault x.systems p c) (sym same) f

graph_moved : {d e : WrittenDeck} {p : ℕ} {c : Cause} → d ≡ e → IsGraphFault e p c → IsGraphFault d p c
graph_moved {p} {c} same f = subst (λ (x : WrittenDeck). IsGraphFault x p c) (sym same) f

pub same_tokens : {text : List ℕ} {ts us : List Token} → HasTokens text ts → HasTokens text us → ts ≡ us
same_tokens {text} {ts} {us} a b = readings.one_list text ts us a.are_tokens b.are_tokens

-- tokens of which none is too deep
pub deep_nowhere : {text : List ℕ} {ts us : List Token} {i : ℕ} → AreTokensOf text ts → IsFirstTooDeep ts i → HasTokens text us → ⊥
deep_nowhere {text} {ts} {us} {i} are deep has =
    has.shallow i (subst (λ vs. IsTooDeep vs i) (readings.one_list text ts us are has.are_tokens) deep.deep)

-- a written deck goes on up to its end
goes_through : {text : List ℕ} {version : ℕ} {names : List (List ℕ)} {ts : List Token} {d : WrittenDeck} {i : ℕ} → HasTokens text ts → CannotGoOn text ts i → IsWritten text version names d → ⊥
goes_through {text} {ts = ts} {i = i} has stops w =
    never_whole (part deck) text ts i stops (subst (IsWholeText (part deck) text) (same_tokens w.has_tokens has) (written_whole w))

-- each phase finds a fault only where those in front of it find none
one_fault : {text : List ℕ} {p q : ℕ} {c d : Cause} → IsFault text p c → IsFault text q d → (p ≡ q) × (c ≡ d)
one_fault (bytes not) (bytes never) = (refl, refl)
one_fault (bytes not) (tokens utf8 f) = absurd (not utf8)
one_fault (bytes not) (nesting us j utf8 are g) = absurd (not utf8)
one_fault (bytes not) (syntax us j has g) = absurd (not has.utf8)
one_fault (bytes not) (check version others e w g) = absurd (not w.has_tokens.utf8)
one_fault (bytes not) (graph version others e w ok g) = absurd (not w.has_tokens.utf8)
one_fault (tokens utf8 f) (bytes never) = absurd (never utf8)
one_fault (tokens utf8 f) (tokens too g) = readings.one_fault f g
one_fault {text} (tokens utf8 f) (nesting us j too are g) = absurd (readings.not_both text us are f)
one_fault {text} (tokens utf8 f) (syntax us j has g) = absurd (readings.not_both text us has.are_tokens f)
one_fault {text} (tokens utf8 f) (check version others e w g) = absurd (readings.not_both text w.tokens w.has_tokens.are_tokens f)
one_fault {text} (tokens utf8 f) (graph version others e w ok g) = absurd (readings.not_both text w.tokens w.has_tokens.are_tokens f)
one_fault (nesting ts i utf8 are f) (bytes never) = absurd (never utf8)
one_fault {text} (nesting ts i utf8 are f) (tokens too g) = absurd (readings.not_both text ts are g)
one_fault {text} (nesting ts i utf8 are f) (nesting us j too also g) =
    let same = readings.one_list text ts us are also in
    let index = one_too_deep us i j (subst (λ vs. IsFirstTooDeep vs i) same f) g in
    (λ k. byte_of text (same k) (index k), refl)
one_fault (nesting ts i utf8 are f) (syntax us j has g) = absurd (deep_nowhere are f has)
one_fault (nesting ts i utf8 are f) (check version others e w g) = absurd (deep_nowhere are f w.has_tokens)
one_fault (nesting ts i utf8 are f) (graph version others e w ok g) = absurd (deep_nowhere are f w.has_tokens)
one_fault (syntax ts i has f) (bytes never) = absurd (never has.utf8)
one_fault {text} (syntax ts i has f) (tokens too g) = absurd (readings.not_both text ts has.are_tokens g)
one_fault (syntax ts i has f) (nesting us j too are g) = absurd (deep_nowhere are g has)
one_fault {text} (syntax ts i has f) (syntax us j also g) =
    let same = same_tokens has also in
    let index = one_stop (part deck) text us i j (subst (λ vs. CannotGoOn text vs i) same f) g in
    (λ k. byte_of text (same k) (index k), refl)
one_fault (syntax ts i has f) (check version others e w g) = absurd (goes_through has f w)
one_fault (syntax ts i has f) (graph version others e w ok g) = absurd (goes_through has f w)
one_fault (check version names d v f) (bytes never) = absurd (never v.has_tokens.utf8)
one_fault {text} (check version names d v f) (tokens too g) = absurd (readings.not_both text v.tokens v.has_tokens.are_tokens g)
one_fault (check version names d v f) (nesting us j too are g) = absurd (deep_nowhere are g v.has_tokens)
one_fault (check version names d v f) (syntax us j has g) = absurd (goes_through has g v)
one_fault (check version names d v f) (check other others e w g) = one_check d.systems f (check_moved (one_written v w).same g)
one_fault (check version names d v f) (graph other others e w ok g) = absurd (not_checked e.systems ok (check_moved (one_written w v).same f))
one_fault (graph version names d v ok f) (bytes never) = absurd (never v.has_tokens.utf8)
one_fault {text} (graph version names d v ok f) (tokens too g) = absurd (readings.not_both text v.tokens v.has_tokens.are_tokens g)
one_fault (graph version names d v ok f) (nesting us j too are g) = absurd (deep_nowhere are g v.has_tokens)
one_fault (graph version names d v ok f) (syntax us j has g) = absurd (goes_through has g v)
one_fault (graph version names d v ok f) (check other others e w g) = absurd (not_checked d.systems ok (check_moved (one_written v w).same g))
one_fault (graph version names d v ok f) (graph other others e w fine g) = one_graph_fault d f (graph_moved (one_written v w).same g)

no_fault : {text : List ℕ} {version : ℕ} {names : List (List ℕ)} {grammars : List Grammar} {G : QGraph} {p : ℕ} {c : Cause} → IsDeckOf text version names grammars G → IsFault text p c → ⊥
no_fault of (bytes never) = never of.is_written.has_tokens.utf8
no_fault {text} of (tokens utf8 f) = readings.not_both text of.is_written.tokens of.is_written.has_tokens.are_tokens f
no_fault of (nesting ts i utf8 are f) = deep_nowhere are f of.is_written.has_tokens
no_fault of (syntax ts i has f) = goes_through has f of.is_written
no_fault of (check version others e w f) = not_checked of.written.systems of.checked (check_moved (one_written of.is_written w).same f)
no_fault of (graph version others e w ok f) =
    no_graph_fault of.written of.few (subst IsValid of.graph_is of.valid) (graph_moved (one_written of.is_written w).same f)

-- ---- the answers

-- a text has at most one meaning
pub one_meaning : {text : List ℕ} {v w : ℕ} {names others : List (List ℕ)} {grammars more : List Grammar} {G H : QGraph}
    → IsDeckOf text v names grammars G → IsDeckOf text w others more H → (v ≡ w) × (names ≡ others) × (grammars ≡ more) × (G ≡ H)
one_meaning a b =
    let one = one_written a.is_written b.is_written in
    let grammars = ap (λ (d : WrittenDeck). map meaning_of d.systems) one.same in
    let graphs = ap (λ (d : WrittenDeck). graph_of d.chains) one.same in
    (one.versions_are, one.names_are, a.grammars_are ∙ grammars ∙ sym b.grammars_are, a.graph_is ∙ graphs ∙ sym b.graph_is)

-- it has at most one refusal
pub one_refusal : {text : List ℕ} {r s : Refusal} → IsRefusalOf text r → IsRefusalOf text s → r ≡ s
one_refusal a b = refusing.one_refusal (λ p q c d f g. one_fault f g) a b

-- and not both
pub not_both : {text : List ℕ} {version : ℕ} {names : List (List ℕ)} {grammars : List Grammar} {G : QGraph} {r : Refusal} → IsDeckOf text version names grammars G → IsRefusalOf text r → ⊥
not_both of refused = no_fault of refused.fault
