-- The tokens of a text.
use Rattle.std.specs.Prelude.{◌≡◌, ℕ, suc, ◌+◌, ◌<◌, ◌≤◌, ◌==◌, List, [], ◌∷◌, length, drop, slice_range, slice_get}
use Rattle.std.specs.Prelude.{Some, ◌⊎◌, if◌then◌else◌, IsCharBoundary}
use Rattle.std.specs.List.{starts_with}
use Rattle.qs_lex.specs.Characters.{line_feed, number_sign, is_space}
use Rattle.qs_lex.specs.Spelling.{name_of, between_dashes, Spells, IsInVersion, EndsBefore, IsLabelText}
use Rattle.qs_lex.specs.declared.token.Word.TheVariants.{Version}
use Rattle.qs_lex.specs.declared.token.Kind.TheVariants.{Bare, Quoted}
use Rattle.qs_lex.specs.declared.token.Token.{Token}

-- how many bytes of white space and comments stand at the front; and how many do behind a '#', whose comment goes to
-- the next line feed or the end
abbrev mutual
  pub blank_len : List ℕ → ℕ
  blank_len [] = 0
  blank_len (b ∷ bs) = if b == number_sign then suc (comment_len bs) else (if is_space b then suc (blank_len bs) else 0)

  pub comment_len : List ℕ → ℕ
  comment_len [] = 0
  comment_len (b ∷ bs) = suc (if b == line_feed then blank_len bs else comment_len bs)

-- the next place of a text, from `at` on, that isn't white space or in a comment
abbrev pub next_place : List ℕ → ℕ → ℕ
next_place text at = at + blank_len (drop at text)

-- the version of a text: 2 where, behind white space and comments, it begins with `-VERSION-`, otherwise 1
abbrev pub version_of : List ℕ → ℕ
version_of text =
    if starts_with (λ b c. b == c) (drop (blank_len text) text) (between_dashes (name_of Version)) then 2 else 1

-- the bytes of the text that the token takes
abbrev pub bytes_of : List ℕ → Token → List ℕ
bytes_of text t = slice_range text t.from t.to

-- the token stands in the text: texts of its version have such tokens, its bytes are written as its kind is, and what
-- follows lets it end
pub record StandsIn (text : List ℕ) (t : Token) : Type 0 where
  pub known : IsInVersion (version_of text) t.kind
  pub within : t.to ≤ length text
  pub spelled : Spells t.kind (bytes_of text t)
  pub ended : EndsBefore t.kind (drop t.to text)

-- from `at` on, these tokens stand in the text, each at the next place behind the one before; `next` is the next place
-- behind them all
abbrev pub Reads : List ℕ → ℕ → List Token → ℕ → Type 0
Reads text at [] next = next ≡ next_place text at
Reads text at (t ∷ ts) next = (t.from ≡ next_place text at) × StandsIn text t × Reads text t.to ts next

-- these are the tokens of the text: read from its start, they leave nothing
abbrev pub AreTokensOf : List ℕ → List Token → Type 0
AreTokensOf text ts = Reads text 0 ts (length text)

-- this is one of the tokens of the text
pub record IsTokenOf (text : List ℕ) (t : Token) : Type 0 where
  pub tokens : List Token
  pub are : AreTokensOf text tokens
  pub index : ℕ
  pub there : slice_get tokens index ≡ Some t

-- from `at` on, the spans of these tokens ascend, and each begins and ends between characters
abbrev pub AreSpansFrom : List ℕ → ℕ → List Token → Type 0
AreSpansFrom text at [] = Unit {0}
AreSpansFrom text at (t ∷ ts) =
    (at ≤ t.from) × (t.from < t.to) × IsCharBoundary text t.from × IsCharBoundary text t.to × AreSpansFrom text t.to ts

-- the token is a label, bare or quoted
abbrev pub IsLabel : Token → Type 0
IsLabel t = (t.kind ≡ Bare) ⊎ (t.kind ≡ Quoted)

-- the token is a label, and this is its text
abbrev pub HasLabelText : List ℕ → Token → List ℕ → Type 0
HasLabelText text t label = IsLabelText t.kind (bytes_of text t) label
