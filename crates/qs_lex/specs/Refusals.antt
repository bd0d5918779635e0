-- The first faulty place of a text, and what a refusal tells of a fault.
use Rattle.std.specs.Prelude.{◌≡◌, ℕ, ◌<◌, ◌==◌, List, length, slice_index, if◌then◌else◌, codes}
use Rattle.qs_tree.specs.Text.{quote, is_label_byte}
use Rattle.qs_lex.specs.Characters.{dash}
use Rattle.qs_lex.specs.Tokens.{StandsIn, Reads}
use Rattle.qs_lex.specs.Places.{line_of, column_of}
use Rattle.qs_lex.specs.declared.token.Token.{Token}
use Rattle.qs_lex.specs.declared.refusal.Refusal.{Refusal}
use Rattle.qs_lex.specs.declared.refusal.LexEnd.{LexEnd}
use Rattle.qs_lex.specs.declared.refusal.LexEnd.TheVariants.{Refused, Memory}
use Rattle.qs_lex.specs.declared.refusal.Cause.{Cause}
use Rattle.qs_lex.specs.declared.refusal.Cause.TheVariants.{NotUtf8, BadCharacter, OpenQuote, BadWord, BadVariable}
use Rattle.qs_lex.specs.declared.refusal.Cause.TheVariants.{TooDeep, Syntax, TooManySystems, SideTooLong, TooManyCells}
use Rattle.qs_lex.specs.declared.refusal.Cause.TheVariants.{TooManyVariables, Unbound, TooManyArcs, Cycle, Entries}
use Rattle.qs_lex.specs.declared.refusal.Cause.TheVariants.{Exits}

-- the name by which a cause is told
abbrev pub cause_name : Cause → List ℕ
cause_name NotUtf8 = codes "NotUtf8"
cause_name BadCharacter = codes "BadCharacter"
cause_name OpenQuote = codes "OpenQuote"
cause_name BadWord = codes "BadWord"
cause_name BadVariable = codes "BadVariable"
cause_name TooDeep = codes "TooDeep"
cause_name Syntax = codes "Syntax"
cause_name TooManySystems = codes "TooManySystems"
cause_name SideTooLong = codes "SideTooLong"
cause_name TooManyCells = codes "TooManyCells"
cause_name TooManyVariables = codes "TooManyVariables"
cause_name Unbound = codes "Unbound"
cause_name TooManyArcs = codes "TooManyArcs"
cause_name Cycle = codes "Cycle"
cause_name Entries = codes "Entries"
cause_name Exits = codes "Exits"

-- a fault is a byte of the text and a cause, and this is what a refusal tells of it: the line and the column of the
-- byte, and the cause
pub record Tells (text : List ℕ) (byte : ℕ) (cause : Cause) (refusal : Refusal) : Type 0 where
  pub line : refusal.line ≡ line_of text byte
  pub column : refusal.column ≡ column_of text byte
  pub cause_is : refusal.cause ≡ cause

-- the refusal tells a fault of the text, where these are its faults
pub record IsRefusedFor (IsFaultOf : List ℕ → ℕ → Cause → Type 0) (text : List ℕ) (refusal : Refusal) : Type 0 where
  pub byte : ℕ
  pub cause : Cause
  pub fault : IsFaultOf text byte cause
  pub tells : Tells text byte cause refusal

-- the place is faulty: it is in the text, and no token stands at it
pub record IsFaulty (text : List ℕ) (place : ℕ) : Type 0 where
  pub within : place < length text
  pub no_token : (t : Token) → t.from ≡ place → StandsIn text t → ⊥

-- the cause of a fault goes by the first character at its place. A label character begins a bare label wherever no star
-- follows the run, so a fault there is of a variable.
abbrev pub cause_at : ℕ → Cause
cause_at b = if is_label_byte b then BadVariable
    else (if b == quote then OpenQuote else (if b == dash then BadWord else BadCharacter))

-- the first faulty place of a text, and its cause: tokens lead to it
pub record IsFirstFault (text : List ℕ) (place : ℕ) (cause : Cause) : Type 0 where
  pub before : List Token
  pub reached : Reads text 0 before place
  pub faulty : IsFaulty text place
  pub of_cause : cause ≡ cause_at (slice_index text place)

-- the text has no tokens, and is refused for its first fault
abbrev pub IsRefusalOf : List ℕ → Refusal → Type 0
IsRefusalOf text refusal = IsRefusedFor IsFirstFault text refusal

-- why the text has no tokens: it is refused so, or there was no memory, which may come for any text
abbrev pub EndsFor : List ℕ → LexEnd → Type 0
EndsFor text (Refused refusal) = IsRefusalOf text refusal
EndsFor text Memory = Unit {0}
