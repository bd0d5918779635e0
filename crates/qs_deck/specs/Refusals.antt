-- The first fault of a text that isn't accepted. The phases stand in an order: bytes, tokens, nesting,
-- syntax, check, graph. The first phase that finds a fault answers, with its first fault.
use Rattle.std.specs.Prelude.{ℕ, ◌<◌, List, length, Option, Some, None, slice_get}
use Rattle.std.specs.Str.{IsUtf8}
use Rattle.std.specs.Str.Lossy.{utf8_valid_len}
use Rattle.qs_lex.specs.declared.token.Token.{Token}
use Rattle.qs_lex.specs.declared.refusal.Cause.{Cause}
use Rattle.qs_lex.specs.declared.refusal.Cause.TheVariants.{NotUtf8, TooDeep, Syntax, TooManyArcs, Cycle, Entries}
use Rattle.qs_lex.specs.declared.refusal.Cause.TheVariants.{Exits}
use Rattle.qs_lex.specs.declared.refusal.Refusal.{Refusal}
use Rattle.qs_lex.specs.Tokens.{AreTokensOf}
use Rattle.qs_lex.specs.Nesting.{IsTooDeep}
use Rattle.qs_lex.specs.Refusals.{IsFirstFault, IsRefusedFor}
use Rattle.qs_graphtext.specs.GraphOfChains.{AreRefused}
use Rattle.qs_graphtext.specs.declared.chain_end.ChainEnd.TheVariants as chain_end
use Rattle.qs_deck.specs.WrittenDecks.{WrittenDeck}
use Rattle.qs_deck.specs.declared.deck.DeckEnd.{DeckEnd}
use Rattle.qs_deck.specs.declared.deck.DeckEnd.TheVariants.{Refused, Memory}
use Rattle.qs_deck.specs.Syntax.{CannotGoOn}
use Rattle.qs_deck.specs.Checks.{IsChecked, IsCheckFault}
use Rattle.qs_deck.specs.Decks.{HasTokens, IsWritten}

-- The byte at which a token begins, and the token with an index; the length of the text where there is no such token.
abbrev pub start_of : List ℕ → Option Token → ℕ
start_of text None = length text
start_of text (Some t) = t.from

abbrev pub byte_of : List ℕ → List Token → ℕ → ℕ
byte_of text tokens index = start_of text (slice_get tokens index)

-- This token is the first opening parenthesis behind which more than 1,000 are open.
pub record IsFirstTooDeep (tokens : List Token) (index : ℕ) : Type 0 where
  pub deep : IsTooDeep tokens index
  pub first : (earlier : ℕ) → earlier < index → IsTooDeep tokens earlier → ⊥

-- The chains of the deck make no graph: there are too many trees, and the 65,537th begins at this byte; or what they
-- make isn't valid, for the first of three causes, of which the word -GRAPHE- is the place.
pub data IsGraphFault (deck : WrittenDeck) : ℕ → Cause → Type 0 where
  too_many_arcs : {at : ℕ} → AreRefused deck.chains (chain_end.TooManyArcs at) → IsGraphFault deck at TooManyArcs
  cycle : AreRefused deck.chains chain_end.Cycle → IsGraphFault deck deck.graph_at Cycle
  entries : AreRefused deck.chains chain_end.Entries → IsGraphFault deck deck.graph_at Entries
  exits : AreRefused deck.chains chain_end.Exits → IsGraphFault deck deck.graph_at Exits

-- The first fault of a text: the byte of its place, and its cause. The place of bytes that aren't UTF-8 is behind the
-- longest front that is.
pub data IsFault (text : List ℕ) : ℕ → Cause → Type 0 where
  bytes : (IsUtf8 text → ⊥) → IsFault text (utf8_valid_len text) NotUtf8
  tokens : {at : ℕ} {cause : Cause} → IsUtf8 text → IsFirstFault text at cause → IsFault text at cause
  nesting : (ts : List Token) (index : ℕ) → IsUtf8 text → AreTokensOf text ts → IsFirstTooDeep ts index
      → IsFault text (byte_of text ts index) TooDeep
  syntax : (ts : List Token) (index : ℕ) → HasTokens text ts → CannotGoOn text ts index
      → IsFault text (byte_of text ts index) Syntax
  check : (version : ℕ) (names : List (List ℕ)) (deck : WrittenDeck) {at : ℕ} {cause : Cause}
      → IsWritten text version names deck → IsCheckFault deck.systems at cause → IsFault text at cause
  graph : (version : ℕ) (names : List (List ℕ)) (deck : WrittenDeck) {at : ℕ} {cause : Cause}
      → IsWritten text version names deck → IsChecked deck.systems → IsGraphFault deck at cause → IsFault text at cause

-- The text is refused for its first fault.
abbrev pub IsRefusalOf : List ℕ → Refusal → Type 0
IsRefusalOf text refusal = IsRefusedFor IsFault text refusal

-- Why no deck was read: the text is refused so, or there was no memory, which may come for any text.
abbrev pub EndsFor : List ℕ → DeckEnd → Type 0
EndsFor text (Refused refusal) = IsRefusalOf text refusal
EndsFor text Memory = Unit {0}
