-- What the reader of a deck and of the line of its version promises.
use Rattle.std.specs.Prelude.{◌≡◌, ℕ, ◌≤◌, List, [], ◌++◌, length}
use Rattle.qs_lex.specs.declared.token.Token.{Token}
use Rattle.qs_lex.specs.Tokens.{version_of}
use Rattle.qs_reader.specs.declared.text_end.TextEnd.{TextEnd}
use Rattle.qs_reader.specs.declared.text_end.TextEnd.TheVariants.{Syntax, Memory}
use Rattle.qs_reader.specs.Names.{NamesGrow}
use Rattle.qs_reader.specs.Readers.{Reading, rest_of, GoesOn}
use Rattle.qs_lex.specs.Grammar.{Form, part}
use Rattle.qs_deck.specs.Grammar.{Part, deck}
use Rattle.qs_deck.specs.WrittenDecks.{WrittenSystem, WrittenDeck}
use Rattle.qs_deck.specs.Versions.{IsVersionLine, IsWholeText, BeginsText}
use Rattle.qs_deck.specs.Reading.{ReadsSystems, ReadsDeck}
use Rattle.qs_deck.specs.Syntax.{StopsText}

-- these tokens of the text are a deck, whole, or begin one
abbrev pub IsWholeDeck : List ℕ → List Token → Type 0
IsWholeDeck text tokens = IsWholeText (part deck) text tokens

abbrev pub BeginsDeck : List ℕ → List Token → Type 0
BeginsDeck text tokens = BeginsText (part deck) text tokens

-- the line of this version, which is that of the text, was passed
pub record PassesLine (r s : Reading) (version : ℕ) : Type 0 where
  pub version_is : version ≡ version_of r.text
  pub front : List Token
  pub are : rest_of r ≡ front ++ rest_of s
  pub in_front : IsVersionLine r.text version front
  pub goes_on : GoesOn r s

-- the tokens were read as this deck of a text of this version, in names that grew by those of its labels
pub record IsReadAs (text : List ℕ) (tokens : List Token) (version : ℕ) (deck : WrittenDeck)
    (old new : List (List ℕ)) : Type 0 where
  pub version_is : version ≡ version_of text
  pub front : List Token
  pub body : List Token
  pub are : tokens ≡ front ++ body
  pub in_front : IsVersionLine text version front
  pub reads : ReadsDeck new text body deck []
  pub names_are : NamesGrow text body old new

-- the tokens were read as these systems of a text of this version, in names that grew by those of its labels
pub record AreReadAs (text : List ℕ) (tokens : List Token) (version : ℕ) (systems : List WrittenSystem)
    (old new : List (List ℕ)) : Type 0 where
  pub version_is : version ≡ version_of text
  pub front : List Token
  pub body : List Token
  pub are : tokens ≡ front ++ body
  pub in_front : IsVersionLine text version front
  pub some : 1 ≤ length systems
  pub reads : ReadsSystems new text body systems []
  pub names_are : NamesGrow text body old new

-- why the form wasn't read: the tokens can't go on at this place, or there was no memory, which may come at any time
abbrev pub EndsIn : Form Part → List ℕ → List Token → TextEnd → Type 0
EndsIn form text tokens (Syntax at) = StopsText form text tokens at
EndsIn form text tokens Memory = Unit {0}

abbrev pub EndsAt : List ℕ → List Token → TextEnd → Type 0
EndsAt text tokens end = EndsIn (part deck) text tokens end

-- whatever should stand behind the line of the version, it wasn't read
abbrev pub EndsInLine : List ℕ → List Token → TextEnd → Type 0
EndsInLine text tokens end = (form : Form Part) → EndsIn form text tokens end
