-- Where decks, and lists of grammars, can't go on.
use Rattle.std.specs.Prelude.{◌≡◌, ℕ, ◌≤◌, List, [], ◌∷◌, ◌++◌, length, take, Some, slice_get}
use Rattle.qs_lex.specs.declared.token.Token.{Token}
use Rattle.qs_lex.specs.Grammar.{Form, part}
use Rattle.qs_deck.specs.Grammar.{Part, deck}
use Rattle.qs_deck.specs.Versions.{IsWholeText, BeginsText}

-- The tokens of the text before `at` begin the form, and with the token at `at` they begin none; or there is no such
-- token, they begin the form, and they aren't it whole.
pub record StopsText (form : Form Part) (text : List ℕ) (tokens : List Token) (at : ℕ) : Type 0 where
  pub within : at ≤ length tokens
  pub begins : BeginsText form text (take at tokens)
  pub no_further : (t : Token) → slice_get tokens at ≡ Some t → BeginsText form text (take at tokens ++ t ∷ []) → ⊥
  pub not_whole : at ≡ length tokens → IsWholeText form text tokens → ⊥

-- The tokens of the text can't go on there to a deck.
abbrev pub CannotGoOn : List ℕ → List Token → ℕ → Type 0
CannotGoOn text tokens at = StopsText (part deck) text tokens at
