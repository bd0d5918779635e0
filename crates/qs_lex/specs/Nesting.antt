-- How many parentheses are open.
use Rattle.std.specs.Prelude.{◌≡◌, ℕ, ◌+◌, ◌-◌, ◌<◌, List, take, fold, slice_get, Some}
use Rattle.qs_lex.specs.Limits.{most_open}
use Rattle.qs_lex.specs.declared.token.Token.{Token}
use Rattle.qs_lex.specs.declared.token.Kind.{Kind}
use Rattle.qs_lex.specs.declared.token.Kind.TheVariants.{Opening, Closing}

-- how many are open behind a token of this kind, where n are before it. A closing one lowers the number, never below 0:
-- numbers are natural, and 0 - 1 is 0.
abbrev pub open_behind : ℕ → Kind → ℕ
open_behind n Opening = n + 1
open_behind n Closing = n - 1
open_behind n _ = n

-- how many are open behind these tokens
abbrev pub open_count : List Token → ℕ
open_count ts = fold (λ n t. open_behind n t.kind) 0 ts

-- the token at this index is an opening parenthesis behind which more than `most_open` are open
pub record IsTooDeep (ts : List Token) (index : ℕ) : Type 0 where
  pub token : Token
  pub there : slice_get ts index ≡ Some token
  pub opening : token.kind ≡ Opening
  pub deep : most_open < open_count (take (index + 1) ts)
