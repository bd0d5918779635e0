-- Lists of grammars: which a text means, and why it means none. (This project.)
use Rattle.std.specs.Prelude.{◌≡◌, ℕ, ◌≤◌, List, [], ◌++◌, length, map}
use Rattle.std.specs.Str.{IsUtf8}
use Rattle.std.specs.Str.Lossy.{utf8_valid_len}
use Rattle.qs_lex.specs.declared.token.Token.{Token}
use Rattle.qs_lex.specs.declared.refusal.Cause.{Cause}
use Rattle.qs_lex.specs.declared.refusal.Cause.TheVariants.{NotUtf8, TooDeep, Syntax}
use Rattle.qs_lex.specs.Tokens.{version_of, AreTokensOf}
use Rattle.qs_lex.specs.Refusals.{IsFirstFault, IsRefusedFor}
use Rattle.qs_reader.specs.Names.{NamesGrow}
use Rattle.qs_deck.specs.declared.deck.DeckEnd.{DeckEnd}
use Rattle.qs_deck.specs.declared.deck.DeckEnd.TheVariants.{Refused, Memory}
use Rattle.qs_deck.specs.WrittenDecks.{WrittenSystem}
use Rattle.qs_deck.specs.Grammar as parts
use Rattle.qs_deck.specs.Versions.{IsVersionLine}
use Rattle.qs_deck.specs.Reading.{ReadsSystems}
use Rattle.qs_deck.specs.Syntax.{StopsText}
use Rattle.qs_deck.specs.Checks.{IsChecked, IsCheckFault}
use Rattle.qs_deck.specs.Decks.{Grammar, meaning_of, HasTokens}
use Rattle.qs_deck.specs.Refusals.{byte_of, IsFirstTooDeep}

-- The text is of this version and has these tokens, and they are the line of the version and then these written
-- grammars, of which there is at least one. Its names are the texts of its labels, each once, in the order in which
-- they occur first.
pub record AreWritten (text : List ℕ) (version : ℕ) (names : List (List ℕ)) (systems : List WrittenSystem)
    : Type 0 where
  pub version_is : version ≡ version_of text
  pub tokens : List Token
  pub has_tokens : HasTokens text tokens
  pub front : List Token
  pub body : List Token
  pub are : tokens ≡ front ++ body
  pub in_front : IsVersionLine text version front
  pub some : 1 ≤ length systems
  pub reads : ReadsSystems names text body systems []
  pub names_are : NamesGrow text body [] names

-- The text means these grammars, in this version and with these names for the labels: it is written grammars that pass
-- the checks.
pub record AreGrammarsOf (text : List ℕ) (version : ℕ) (names : List (List ℕ)) (grammars : List Grammar)
    : Type 0 where
  pub written : List WrittenSystem
  pub are_written : AreWritten text version names written
  pub checked : IsChecked written
  pub grammars_are : grammars ≡ map meaning_of written

-- The first fault of a text in UTF-8 that is no written list of grammars: its first faulty place, a parenthesis that is
-- one too many, or the first token with which it begins none.
pub data IsListFault (text : List ℕ) : ℕ → Cause → Type 0 where
  tokens : {at : ℕ} {cause : Cause} → IsFirstFault text at cause → IsListFault text at cause
  nesting : (ts : List Token) (index : ℕ) → AreTokensOf text ts → IsFirstTooDeep ts index
      → IsListFault text (byte_of text ts index) TooDeep
  syntax : (ts : List Token) (index : ℕ) → HasTokens text ts → StopsText parts.grammars text ts index
      → IsListFault text (byte_of text ts index) Syntax

-- The first fault of a text that means no list of grammars: as of a deck, but that a list of grammars should stand
-- there, so that the graph has no part in it.
pub data IsGrammarsFault (text : List ℕ) : ℕ → Cause → Type 0 where
  bytes : (IsUtf8 text → ⊥) → IsGrammarsFault text (utf8_valid_len text) NotUtf8
  unwritten : {at : ℕ} {cause : Cause} → IsUtf8 text → IsListFault text at cause → IsGrammarsFault text at cause
  check : (version : ℕ) (names : List (List ℕ)) (systems : List WrittenSystem) {at : ℕ} {cause : Cause}
      → AreWritten text version names systems → IsCheckFault systems at cause → IsGrammarsFault text at cause

-- Why no grammars were read: the text is refused for its first fault, or there was no memory, which may come for any
-- text.
abbrev pub EndsForGrammars : List ℕ → DeckEnd → Type 0
EndsForGrammars text (Refused refusal) = IsRefusedFor IsGrammarsFault text refusal
EndsForGrammars text Memory = Unit {0}
