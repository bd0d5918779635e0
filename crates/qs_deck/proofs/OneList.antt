-- A text means one list of grammars, or has one first fault of such a list, and not both.
use Rattle.std.proofs.Common.{◌≡◌, ℕ, refl, sym, ◌∙◌, ap, subst, List, [], map}
use Rattle.qs_lex.specs.declared.token.Token.{Token}
use Rattle.qs_lex.specs.declared.refusal.Cause.{Cause}
use Rattle.qs_lex.specs.declared.refusal.Refusal.{Refusal}
use Rattle.qs_lex.specs.Refusals.{IsRefusedFor}
use Rattle.qs_lex.proofs.Refusing as refusing
use Rattle.qs_lex.proofs.Readings as readings
use Rattle.qs_reader.specs.Names.{NamesGrow}
use Rattle.qs_reader.proofs.Naming.{one_growth, grow_distinct}
use Rattle.qs_deck.specs.WrittenDecks.{WrittenSystem}
use Rattle.qs_deck.specs.Grammar as parts
use Rattle.qs_deck.specs.Versions.{IsVersionLine, IsWholeText}
use Rattle.qs_deck.specs.Reading.{ReadsSystems}
use Rattle.qs_deck.specs.Syntax.{StopsText}
use Rattle.qs_deck.specs.Checks.{IsCheckFault}
use Rattle.qs_deck.specs.Decks.{Grammar, meaning_of, HasTokens}
use Rattle.qs_deck.specs.Refusals.{byte_of, IsFirstTooDeep}
use Rattle.qs_deck.specs.GrammarLists.{AreWritten, AreGrammarsOf, IsListFault, tokens, nesting, syntax, IsGrammarsFault, bytes, unwritten, check}
use Rattle.qs_deck.proofs.OneDeck.{one_list}
use Rattle.qs_deck.proofs.WholeDecks.{written_list_whole}
use Rattle.qs_deck.proofs.OneFault.{one_too_deep, one_stop, never_whole, one_check, not_checked, one_line, none_twice, same_tokens, deep_nowhere}

-- a text is one written list at most
pub record AreOneWritten (v w : ℕ) (names others : List (List ℕ)) (systems more : List WrittenSystem) : Type 0 where
  pub versions_are : v ≡ w
  pub names_are : names ≡ others
  pub same : systems ≡ more

pub one_written : {text : List ℕ} {v w : ℕ} {names others : List (List ℕ)} {systems more : List WrittenSystem} → AreWritten text v names systems → AreWritten text w others more → AreOneWritten v w names others systems more
one_written {text} {v} {w} {names} {others} {systems} {more} a b =
    let ts : a.tokens ≡ b.tokens = readings.one_list text a.tokens b.tokens a.has_tokens.are_tokens b.has_tokens.are_tokens in
    let versions : v ≡ w = a.version_is ∙ sym b.version_is in
    let bodies : a.body ≡ b.body = one_line text v a.front a.body b.front b.body a.in_front (subst (λ u. IsVersionLine text u b.front) (sym versions) b.in_front) (sym a.are ∙ ts ∙ b.are) in
    let reads = subst (λ us. ReadsSystems others text us more []) (sym bodies) b.reads in
    let grow = subst (λ us. NamesGrow text us [] others) (sym bodies) b.names_are in
    let same_names : names ≡ others = one_growth text a.body [] names others a.names_are grow in
    let distinct = grow_distinct text a.body [] names none_twice a.names_are in
    record { versions_are = versions; names_are = same_names; same = one_list names text distinct systems more a.body a.reads (subst (λ ns. ReadsSystems ns text a.body more []) (sym same_names) reads) }

moved : {systems more : List WrittenSystem} {p : ℕ} {c : Cause} → systems ≡ more → IsCheckFault more p c → IsCheckFault systems p c
moved {p} {c} same f = subst (λ xs. IsCheckFault xs p c) (sym same) f

goes_through : {text : List ℕ} {version : ℕ} {names : List (List ℕ)} {ts : List Token} {systems : List WrittenSystem} {i : ℕ} → HasTokens text ts → StopsText parts.grammars text ts i → AreWritten text version names systems → ⊥
goes_through {text} {ts = ts} {i = i} has stops w =
    never_whole parts.grammars text ts i stops (subst (IsWholeText parts.grammars text) (same_tokens w.has_tokens has) (written_list_whole w))

-- each phase finds a fault only where those in front of it find none
pub one_list_fault : {text : List ℕ} {p q : ℕ} {c d : Cause} → IsListFault text p c → IsListFault text q d → (p ≡ q) × (c ≡ d)
one_list_fault (tokens f) (tokens g) = readings.one_fault f g
one_list_fault {text} (tokens f) (nesting us j are g) = absurd (readings.not_both text us are f)
one_list_fault {text} (tokens f) (syntax us j has g) = absurd (readings.not_both text us has.are_tokens f)
one_list_fault {text} (nesting ts i are f) (tokens g) = absurd (readings.not_both text ts are g)
one_list_fault {text} (nesting ts i are f) (nesting us j also g) =
    let same = readings.one_list text ts us are also in
    let index = one_too_deep us i j (subst (λ vs. IsFirstTooDeep vs i) same f) g in
    (λ k. byte_of text (same k) (index k), refl)
one_list_fault (nesting ts i are f) (syntax us j has g) = absurd (deep_nowhere are f has)
one_list_fault {text} (syntax ts i has f) (tokens g) = absurd (readings.not_both text ts has.are_tokens g)
one_list_fault (syntax ts i has f) (nesting us j are g) = absurd (deep_nowhere are g has)
one_list_fault {text} (syntax ts i has f) (syntax us j also g) =
    let same = same_tokens has also in
    let index = one_stop parts.grammars text us i j (subst (λ vs. StopsText parts.grammars text vs i) same f) g in
    (λ k. byte_of text (same k) (index k), refl)

pub written_without_fault : {text : List ℕ} {version : ℕ} {names : List (List ℕ)} {systems : List WrittenSystem} {p : ℕ} {c : Cause} → AreWritten text version names systems → IsListFault text p c → ⊥
written_without_fault {text} w (tokens f) = readings.not_both text w.tokens w.has_tokens.are_tokens f
written_without_fault w (nesting ts i are f) = deep_nowhere are f w.has_tokens
written_without_fault w (syntax ts i has f) = goes_through has f w

pub one_check_fault : {text : List ℕ} {v w : ℕ} {names others : List (List ℕ)} {systems more : List WrittenSystem} {p q : ℕ} {c d : Cause} → AreWritten text v names systems → AreWritten text w others more → IsCheckFault systems p c → IsCheckFault more q d → (p ≡ q) × (c ≡ d)
one_check_fault {systems = systems} a b f g = one_check systems f (moved (one_written a b).same g)

pub grammars_without_check : {text : List ℕ} {v w : ℕ} {names others : List (List ℕ)} {grammars : List Grammar} {systems : List WrittenSystem} {p : ℕ} {c : Cause} → AreGrammarsOf text v names grammars → AreWritten text w others systems → IsCheckFault systems p c → ⊥
grammars_without_check of w f = not_checked of.written of.checked (moved (one_written of.are_written w).same f)

one_fault : {text : List ℕ} {p q : ℕ} {c d : Cause} → IsGrammarsFault text p c → IsGrammarsFault text q d → (p ≡ q) × (c ≡ d)
one_fault (bytes not) (bytes never) = (refl, refl)
one_fault (bytes not) (unwritten utf8 g) = absurd (not utf8)
one_fault (bytes not) (check version others e w g) = absurd (not w.has_tokens.utf8)
one_fault (unwritten utf8 f) (bytes never) = absurd (never utf8)
one_fault (unwritten utf8 f) (unwritten too g) = one_list_fault f g
one_fault (unwritten utf8 f) (check version others e w g) = absurd (written_without_fault w f)
one_fault (check version names d v f) (bytes never) = absurd (never v.has_tokens.utf8)
one_fault (check version names d v f) (unwritten utf8 g) = absurd (written_without_fault v g)
one_fault (check version names d v f) (check other others e w g) = one_check_fault v w f g

no_fault : {text : List ℕ} {version : ℕ} {names : List (List ℕ)} {grammars : List Grammar} {p : ℕ} {c : Cause} → AreGrammarsOf text version names grammars → IsGrammarsFault text p c → ⊥
no_fault of (bytes never) = never of.are_written.has_tokens.utf8
no_fault of (unwritten utf8 f) = written_without_fault of.are_written f
no_fault of (check version others e w f) = grammars_without_check of w f

-- ---- the answers

pub one_meaning : {text : List ℕ} {v w : ℕ} {names others : List (List ℕ)} {grammars more : List Grammar}
    → AreGrammarsOf text v names grammars → AreGrammarsOf text w others more → (v ≡ w) × (names ≡ others) × (grammars ≡ more)
one_meaning a b =
    let one = one_written a.are_written b.are_written in
    (one.versions_are, one.names_are, a.grammars_are ∙ ap (λ (ws : List WrittenSystem). map meaning_of ws) one.same ∙ sym b.grammars_are)

pub one_refusal : {text : List ℕ} {r s : Refusal} → IsRefusedFor IsGrammarsFault text r → IsRefusedFor IsGrammarsFault text s → r ≡ s
one_refusal a b = refusing.one_refusal (λ p q c d f g. one_fault f g) a b

pub not_both : {text : List ℕ} {version : ℕ} {names : List (List ℕ)} {grammars : List Grammar} {r : Refusal} → AreGrammarsOf text version names grammars → IsRefusedFor IsGrammarsFault text r → ⊥
not_both of refused = no_fault of refused.fault
