-- Each text means a list of grammars or has a first fault of such a list.
use Rattle.std.proofs.Common.{◌≡◌, ◌⊎◌, ℕ, Bool, true, false, refl, sym, ◌∙◌, subst, inl, inr, ⊎_elim, List, map}
use Rattle.std.specs.Str.{IsUtf8, is_utf8}
use Rattle.std.specs.Str.Lossy.{utf8_valid_len}
use Rattle.std.specs.List.{All}
use Rattle.std.proofs.lemmas.Bool.{false≢true}
use Rattle.std.proofs.lemmas.Str.{IsUtf8-from_is_utf8, is_utf8-from_IsUtf8}
use Rattle.qs_lex.specs.declared.token.Token.{Token}
use Rattle.qs_lex.specs.declared.refusal.Cause.{Cause}
use Rattle.qs_lex.specs.declared.refusal.Cause.TheVariants.{NotUtf8, TooDeep, Syntax}
use Rattle.qs_lex.specs.declared.refusal.Refusal.{Refusal}
use Rattle.qs_lex.specs.Refusals.{IsRefusedFor}
use Rattle.qs_lex.proofs.Refusing.{some_refusal}
use Rattle.qs_lex.specs.Tokens.{version_of, AreTokensOf, IsTokenOf}
use Rattle.qs_lex.proofs.Totality.{a_reading}
use Rattle.qs_lex.proofs.OpenParentheses.{first_too_deep}
use Rattle.qs_deck.specs.WrittenDecks.{WrittenSystem}
use Rattle.qs_deck.specs.Grammar.{grammars}
use Rattle.qs_deck.specs.Decks.{Grammar, meaning_of, HasTokens}
use Rattle.qs_deck.specs.Refusals.{byte_of}
use Rattle.qs_deck.specs.GrammarLists.{AreWritten, AreGrammarsOf, IsListFault, tokens, nesting, syntax, IsGrammarsFault, bytes, unwritten, check}
use Rattle.qs_deck.proofs.Meanings.{list_can}
use Rattle.qs_deck.proofs.Tables.{grammars_good}
use Rattle.qs_deck.proofs.Versions.{syntax_decided_by}
use Rattle.qs_deck.proofs.WritableDecks.{all_behind, tokens_are}
use Rattle.qs_deck.proofs.WholeRead.{whole_list_is_read}
use Rattle.qs_deck.proofs.EachText.{decided_behind, checks_decided}

-- a text in UTF-8 is a written list of grammars, or has a fault before that
abbrev pub IsWrittenOrNot : List ℕ → Type 0
IsWrittenOrNot text =
    ((version : ℕ) × (names : List (List ℕ)) × (systems : List WrittenSystem) × AreWritten text version names systems) ⊎ ((at : ℕ) × (cause : Cause) × IsListFault text at cause)

of_shallow : (text : List ℕ) (ts : List Token) → HasTokens text ts → IsWrittenOrNot text
of_shallow text ts has =
    ⊎_elim
    (λ w. let d = whole_list_is_read text w.body (all_behind (IsTokenOf text) w.front w.body (subst (All (IsTokenOf text)) w.are (tokens_are text ts has.are_tokens))) w.whole in
    inl (
      version_of text,
      d.names,
      d.written,
      record {
        version_is = refl;
        tokens = ts;
        has_tokens = has;
        front = w.front;
        body = w.body;
        are = w.are;
        in_front = w.in_front;
        some = d.some;
        reads = d.reads;
        names_are = d.names_are;
      },
    ))
    (λ s. inr (byte_of text ts s.0, Syntax, syntax ts s.0 has s.1))
    (syntax_decided_by grammars text (decided_behind grammars grammars_good) ts)

of_tokens : (text : List ℕ) (ts : List Token) → IsUtf8 text → AreTokensOf text ts → IsWrittenOrNot text
of_tokens text ts utf8 are =
    ⊎_elim
    (λ none. of_shallow text ts (record { utf8 = utf8; are_tokens = are; shallow = none }))
    (λ d. inr (byte_of text ts d.0, TooDeep, nesting ts d.0 are (record { deep = d.1; first = d.2 })))
    (first_too_deep ts)

pub written_or_not : (text : List ℕ) → IsUtf8 text → IsWrittenOrNot text
written_or_not text utf8 = ⊎_elim (λ r. of_tokens text r.0 utf8 r.1) (λ f. inr (f.0, f.1, tokens f.2)) (a_reading text)

-- a text means a list of grammars or has a first fault
abbrev IsDecided : List ℕ → Type 0
IsDecided text = ((version : ℕ) × (names : List (List ℕ)) × (grammars : List Grammar) × AreGrammarsOf text version names grammars) ⊎ ((at : ℕ) × (cause : Cause) × IsGrammarsFault text at cause)

of_written : (text : List ℕ) (version : ℕ) (names : List (List ℕ)) (systems : List WrittenSystem) → AreWritten text version names systems → IsDecided text
of_written text version names systems w =
    ⊎_elim
    (λ good. inl (version, names, map meaning_of systems, record { written = systems; are_written = w; checked = good; grammars_are = refl }))
    (λ f. inr (f.0, f.1, check version names systems w f.2))
    (checks_decided systems (list_can text version names systems w))

of_bytes : (text : List ℕ) → IsDecided text
of_bytes text = by (is_utf8 text) refl
  where
    by : (b : Bool) → is_utf8 text ≡ b → IsDecided text
    by true e =
        let utf8 = IsUtf8-from_is_utf8 text e in
        ⊎_elim (λ w. of_written text w.0 w.1 w.2 w.3) (λ f. inr (f.0, f.1, unwritten utf8 f.2)) (written_or_not text utf8)
    by false e = inr (utf8_valid_len text, NotUtf8, bytes (λ utf8. false≢true (sym e ∙ is_utf8-from_IsUtf8 text utf8)))

-- a text means a list of grammars or is refused
pub each_list : (text : List ℕ) → ((version : ℕ) × (names : List (List ℕ)) × (grammars : List Grammar) × AreGrammarsOf text version names grammars) ⊎ ((r : Refusal) × IsRefusedFor IsGrammarsFault text r)
each_list text =
    ⊎_elim (λ d. inl d)
    (λ f. inr (some_refusal IsGrammarsFault text f.0 f.1 f.2))
    (of_bytes text)
