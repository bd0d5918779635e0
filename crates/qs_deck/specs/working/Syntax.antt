-- Where what stands behind the line of the version can't go on.
use Rattle.std.specs.Prelude.{◌≡◌, ℕ, ◌≤◌, List, [], ◌∷◌, ◌++◌, length, take, Some, slice_get}
use Rattle.qs_lex.specs.declared.token.Token.{Token}
use Rattle.qs_lex.specs.Grammar.{Form, IsWhole, Begins}
use Rattle.qs_deck.specs.Grammar.{Part, line}

-- the same as StopsText, of what stands behind the line
pub record StopsBehind (form : Form Part) (tokens : List Token) (at : ℕ) : Type 0 where
  pub within : at ≤ length tokens
  pub begins : Begins line form (take at tokens)
  pub no_further : (t : Token) → slice_get tokens at ≡ Some t → Begins line form (take at tokens ++ t ∷ []) → ⊥
  pub not_whole : at ≡ length tokens → IsWhole line form tokens [] → ⊥
