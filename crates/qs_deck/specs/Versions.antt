-- The line with which a text of version 2 begins: `-VERSION- 2.` (This project's own.)
use Rattle.std.specs.Prelude.{◌≡◌, ℕ, List, [], ◌∷◌, ◌++◌, codes}
use Rattle.qs_lex.specs.declared.token.Token.{Token}
use Rattle.qs_lex.specs.declared.token.Kind.TheVariants.{Bare}
use Rattle.qs_lex.specs.declared.token.Word.TheVariants.{Version}
use Rattle.qs_lex.specs.Tokens.{version_of, bytes_of}
use Rattle.qs_lex.specs.Grammar.{the_word, stop, Form, IsOf, IsWhole, Begins}
use Rattle.qs_deck.specs.Grammar.{Part, line}

-- The token is the bare label 2.
pub record IsTwo (text : List ℕ) (t : Token) : Type 0 where
  pub bare : t.kind ≡ Bare
  pub two : bytes_of text t ≡ codes "2"

-- These tokens are the line of the version: in version 1 there are none; in version 2 they are the word -VERSION-, the
-- bare label 2, and a stop.
pub data IsVersionLine (text : List ℕ) : ℕ → List Token → Type 0 where
  no_line : IsVersionLine text 1 []
  the_line : {word number dot : Token} → IsOf (the_word Version) word → IsTwo text number → IsOf stop dot
      → IsVersionLine text 2 (word ∷ number ∷ dot ∷ [])

-- These tokens begin the line of version 2, and are not the whole of it.
pub data BeginsVersionLine (text : List ℕ) : List Token → Type 0 where
  no_token : BeginsVersionLine text []
  word_alone : {word : Token} → IsOf (the_word Version) word → BeginsVersionLine text (word ∷ [])
  without_stop : {word number : Token} → IsOf (the_word Version) word → IsTwo text number
      → BeginsVersionLine text (word ∷ number ∷ [])

-- These tokens of the text are the form, whole: the line of the text's version, and then what the form is in each
-- version.
pub record IsWholeText (form : Form Part) (text : List ℕ) (tokens : List Token) : Type 0 where
  pub front : List Token
  pub body : List Token
  pub are : tokens ≡ front ++ body
  pub in_front : IsVersionLine text (version_of text) front
  pub whole : IsWhole line form body []

-- These tokens of the text begin the form, with the line of the text's version in front of it.
pub data BeginsText (form : Form Part) (text : List ℕ) (tokens : List Token) : Type 0 where
  in_the_line : version_of text ≡ 2 → BeginsVersionLine text tokens → BeginsText form text tokens
  behind_the_line : {front body : List Token} → tokens ≡ front ++ body → IsVersionLine text (version_of text) front
      → Begins line form body → BeginsText form text tokens
