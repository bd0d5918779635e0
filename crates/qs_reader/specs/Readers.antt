-- What a step of a reader means, whatever the grammar, and where a form of a grammar can't go on.
use Rattle.std.specs.Prelude.{◌≡◌, ℕ, ◌+◌, ◌-◌, ◌<◌, ◌≤◌, List, [], ◌∷◌, ◌++◌, length, take, drop, Some, slice_get}
use Rattle.qs_lex.specs.declared.token.Token.{Token}
use Rattle.qs_lex.specs.declared.token.Kind.{Kind}
use Rattle.qs_lex.specs.declared.token.Kind.TheVariants.{Bare, Quoted, Variable, Node}
use Rattle.qs_lex.specs.Tokens.{IsTokenOf}
use Rattle.qs_lex.specs.Grammar.{Sort, IsOf, Form, Grammar, IsWhole, Begins}
use Rattle.qs_lex.specs.Expecting.{same_sort, NextIsNo}
use Rattle.qs_tree.specs.declared.cell.Label.{Label}
use Rattle.qs_reader.specs.declared.text_end.TextEnd.{TextEnd}
use Rattle.qs_reader.specs.declared.text_end.TextEnd.TheVariants.{Syntax, Memory}
use Rattle.qs_reader.specs.Names.{IsLabelOf, KeepsNames, AddsNameOf}

-- a reader: the text, its tokens, and the place among them at which it stands
pub record Reading : Type 0 where
  pub text : List ℕ
  pub tokens : List Token
  pub place : ℕ

-- what it hasn't passed yet
abbrev pub rest_of : Reading → List Token
rest_of r = drop r.place r.tokens

-- a word or a sign, which one kind of token alone is
abbrev pub IsSign : Kind → Type 0
IsSign Bare = ⊥
IsSign Quoted = ⊥
IsSign (Variable letter number) = ⊥
IsSign (Node number) = ⊥
IsSign _ = Unit {0}

-- the reader stands at a place of the same tokens that is no earlier
pub record GoesOn (r s : Reading) : Type 0 where
  pub text : s.text ≡ r.text
  pub tokens : s.tokens ≡ r.tokens
  pub forward : r.place ≤ s.place
  pub within : s.place ≤ length s.tokens

-- this is the next token
pub record IsNext (t : Token) (r : Reading) : Type 0 where
  pub behind : List Token
  pub are : rest_of r ≡ t ∷ behind
  pub some : r.place < length r.tokens
  pub of_text : IsTokenOf r.text t

-- the next token is of this sort
pub record IsAt (sort : Sort) (r : Reading) : Type 0 where
  pub token : Token
  pub next : IsNext token r
  pub of_sort : IsOf sort token

-- this token was passed
pub record IsPassed (t : Token) (r s : Reading) : Type 0 where
  pub are : rest_of r ≡ t ∷ rest_of s
  pub goes_on : GoesOn r s

-- a token of this sort was passed
pub record Passes (sort : Sort) (r s : Reading) : Type 0 where
  pub token : Token
  pub passed : IsPassed token r s
  pub of_sort : IsOf sort token

-- the next token is none of this sort, and the reader stays where it is
pub record Stays (sort : Sort) (r s : Reading) : Type 0 where
  pub same : s ≡ r
  pub within : r.place ≤ length r.tokens
  pub none : NextIsNo (same_sort sort) (rest_of r)

-- the label that the next token is was passed and named
pub record NamesLabel (label : Label) (r s : Reading) (old new : List (List ℕ)) : Type 0 where
  pub token : Token
  pub passed : IsPassed token r s
  pub is_label : (later : List (List ℕ)) → KeepsNames new later → IsLabelOf later r.text token label
  pub adds : AddsNameOf r.text token old new
  pub keeps : KeepsNames old new
  pub few : length new ≤ length old + 1

-- a token of this sort should stand next, and doesn't, or memory was wanting
abbrev pub IsNoneHere : Sort → Reading → TextEnd → Type 0
IsNoneHere sort r (Syntax at) = (at ≡ r.place) × (r.place ≤ length r.tokens) × NextIsNo (same_sort sort) (rest_of r)
IsNoneHere sort r Memory = Unit {0}

pub record EndsHere (sort : Sort) (r : Reading) (end : TextEnd) : Type 0 where
  pub none : IsNoneHere sort r end

-- the tokens from one place up to another
abbrev pub between : List Token → ℕ → ℕ → List Token
between tokens from to = take (to - from) (drop from tokens)

-- The tokens from `from` on, before `at`, begin the form and aren't it whole, and with the token at `at`, where there
-- is one, they don't begin it.
pub record CannotGoOn {Part : Type 0} (line : Grammar Part) (form : Form Part)
    (tokens : List Token) (from at : ℕ) : Type 0 where
  pub forward : from ≤ at
  pub within : at ≤ length tokens
  pub begins : Begins line form (between tokens from at)
  pub not_whole : IsWhole line form (between tokens from at) [] → ⊥
  pub no_further : (t : Token) → slice_get tokens at ≡ Some t → Begins line form (between tokens from at ++ t ∷ []) → ⊥
