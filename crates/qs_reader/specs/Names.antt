-- What naming does: which names a reader leaves, the old ones and behind them the texts of the labels that it read,
-- each once, in the order of their first occurrence; and which label a token is in these names.
use Rattle.std.specs.Prelude.{◌≡◌, ℕ, ◌⊎◌, List, [], ◌∷◌, ◌++◌, Contains, Some, slice_get}
use Rattle.qs_lex.specs.declared.token.Token.{Token}
use Rattle.qs_lex.specs.Tokens.{IsLabel, HasLabelText}
use Rattle.qs_tree.specs.declared.cell.Label.{Label}

-- the token is a label, bare or quoted, and this label is the number of its text
pub record IsLabelOf (names : List (List ℕ)) (text : List ℕ) (t : Token) (label : Label) : Type 0 where
  pub spelling : List ℕ
  pub of_token : HasLabelText text t spelling
  pub named : slice_get names label.0 ≡ Some spelling

-- the texts of `new` begin with those of `old`: each keeps its number
abbrev pub KeepsNames : List (List ℕ) → List (List ℕ) → Type 0
KeepsNames old new = (k : ℕ) (text : List ℕ) → slice_get old k ≡ Some text → slice_get new k ≡ Some text

-- a text comes behind the names where it isn't one of them
abbrev pub AddsName : List (List ℕ) → List ℕ → List (List ℕ) → Type 0
AddsName old label new = (Contains old label × (new ≡ old)) ⊎ ((¬ Contains old label) × (new ≡ old ++ label ∷ []))

-- the text of the token comes behind the names where the token is a label; any other token leaves them as they are
abbrev pub AddsNameOf : List ℕ → Token → List (List ℕ) → List (List ℕ) → Type 0
AddsNameOf text t old new =
    ((¬ IsLabel t) × (new ≡ old)) ⊎ ((label : List ℕ) × HasLabelText text t label × AddsName old label new)

-- the texts of the labels among these tokens come behind the names, one after the other
abbrev pub NamesGrow : List ℕ → List Token → List (List ℕ) → List (List ℕ) → Type 0
NamesGrow text [] old new = new ≡ old
NamesGrow text (t ∷ ts) old new = (next : List (List ℕ)) × AddsNameOf text t old next × NamesGrow text ts next new
