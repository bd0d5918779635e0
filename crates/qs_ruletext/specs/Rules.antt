-- What is read from the tokens of rules, and where rules can't go on.
use Rattle.std.specs.Prelude.{◌≡◌, ℕ, ◌<◌, ◌≤◌, Bool, true, false, List, [], ◌∷◌, ◌++◌, length, drop, map, filter}
use Rattle.std.specs.Prelude.{Option, Some, None, slice_get}
use Rattle.qs_lex.specs.declared.token.Token.{Token}
use Rattle.qs_lex.specs.declared.token.Kind.{Kind}
use Rattle.qs_lex.specs.declared.token.Kind.TheVariants.{Bare, Quoted, Variable}
use Rattle.qs_lex.specs.Grammar.{slash, equals, stop, IsOf, part, repeated, IsWhole, Begins}
use Rattle.qs_pattern.specs.Patterns.{Patterns, count, AreInClass, NoForestAtTop}
use Rattle.qs_pattern.specs.Conditions.{Condition, IsConditionInClass, HasEnoughMembers}
use Rattle.qs_pattern.specs.Rules.{UnmarkedRule}
use Rattle.qs_reader.specs.Readers.{between}
use Rattle.qs_ruletext.specs.WrittenRules.{WrittenRule}
use Rattle.qs_reader.specs.declared.text_end.TextEnd.{TextEnd}
use Rattle.qs_reader.specs.declared.text_end.TextEnd.TheVariants.{Syntax, Memory}
use Rattle.qs_ruletext.specs.Grammar.{rule, line}
use Rattle.qs_pattern.specs.Named.{ArePatternsNamed, IsConditionNamed}
use Rattle.qs_ruletext.specs.Reading.{ReadsSide, ReadsCond}
use Rattle.qs_ruletext.specs.Written.{HasFullLists}

-- a cell is a label or a variable
abbrev pub is_cell : Kind → Bool
is_cell Bare = true
is_cell Quoted = true
is_cell (Variable letter number) = true
is_cell _ = false

-- the bytes of the text at which the cells among the tokens begin, in order
abbrev pub cell_bytes : List Token → List ℕ
cell_bytes ts = map (λ t. t.from) (filter (λ t. is_cell t.kind) ts)

-- [ "/" cond ]
pub data ReadsCondIfGiven (names : List (List ℕ)) (text : List ℕ) : List Token → Option Condition → List Token
    → Type 0 where
  no_cond : {ts : List Token} → ReadsCondIfGiven names text ts None ts
  some_cond : {t : Token} {ts rest : List Token} {c : Condition}
      → IsOf slash t → ReadsCond names text ts c rest → ReadsCondIfGiven names text (t ∷ ts) (Some c) rest

-- rule = side "==" side [ "/" cond ] "."
pub data ReadsRule (names : List (List ℕ)) (text : List ℕ) : List Token → UnmarkedRule → List Token → Type 0 where
  reads_rule : {t u : Token} {ts middle end rest : List Token} {left right : Patterns} {condition : Option Condition}
      → ReadsSide names text ts left (t ∷ middle) → IsOf equals t → ReadsSide names text middle right end
      → ReadsCondIfGiven names text end condition (u ∷ rest) → IsOf stop u
      → ReadsRule names text ts (record { left = left; right = right; condition = condition }) rest

-- what is known of a side, of a condition and of a rule that were read, whatever limits a rule has: they are as those
-- of an accepted rule are, but for their sizes and for variables that are not bound;
-- and each label is one of the first n
pub record IsWellReadSide (n : ℕ) (side : Patterns) : Type 0 where
  pub some : 1 ≤ count side
  pub no_forest_at_top : NoForestAtTop side
  pub in_class : AreInClass side
  pub named : ArePatternsNamed n side

pub record IsWellReadCondition (n : ℕ) (c : Condition) : Type 0 where
  pub in_class : IsConditionInClass c
  pub enough : HasEnoughMembers c
  pub lists : HasFullLists c
  pub named : IsConditionNamed n c

abbrev pub IsWellReadIfGiven : ℕ → Option Condition → Type 0
IsWellReadIfGiven n None = Unit {0}
IsWellReadIfGiven n (Some c) = IsWellReadCondition n c

pub record IsWellRead (n : ℕ) (r : UnmarkedRule) : Type 0 where
  pub left : IsWellReadSide n r.left
  pub right : IsWellReadSide n r.right
  pub condition : IsWellReadIfGiven n r.condition

-- the tokens before the rest are read as this rule, and it knows the byte of each of its cells
pub record ReadsWrittenRule (names : List (List ℕ)) (text : List ℕ) (ts : List Token) (raw : WrittenRule)
    (rest : List Token) : Type 0 where
  pub rule : ReadsRule names text ts raw.rule rest
  pub tokens : List Token
  pub are : ts ≡ tokens ++ rest
  pub at : raw.at ≡ cell_bytes tokens

-- the tokens before the rest are read as these rules, one behind the other
abbrev pub ReadsRules : List (List ℕ) → List ℕ → List Token → List WrittenRule → List Token → Type 0
ReadsRules names text ts [] rest = ts ≡ rest
ReadsRules names text ts (raw ∷ raws) rest =
    (middle : List Token) × ReadsWrittenRule names text ts raw middle × ReadsRules names text middle raws rest

-- from `from` on stand whole rules, and then a rule that is begun, isn't whole, and can't go on with the token at `at`,
-- or with the end of the tokens
pub record CannotGoOn (tokens : List Token) (from at : ℕ) : Type 0 where
  pub begun : ℕ
  pub whole : IsWhole line (repeated (part rule)) (drop from tokens) (drop begun tokens)
  pub some : begun < at
  pub within : at ≤ length tokens
  pub begins : Begins line (part rule) (between tokens begun at)
  pub not_whole : IsWhole line (part rule) (between tokens begun at) [] → ⊥
  pub no_further : (t : Token) → slice_get tokens at ≡ Some t
      → Begins line (part rule) (between tokens begun at ++ t ∷ []) → ⊥

-- no rule begins at this place: it is the end of the tokens, or the token there begins no rule
abbrev pub NoRuleAt : List Token → ℕ → Type 0
NoRuleAt tokens at = (t : Token) → slice_get tokens at ≡ Some t → Begins line (part rule) (t ∷ []) → ⊥

-- why no rules were read: a rule that was begun can't go on at this place, or there was no memory,
-- which may come at any time
abbrev pub EndsFrom : List Token → ℕ → TextEnd → Type 0
EndsFrom tokens from (Syntax at) = CannotGoOn tokens from at
EndsFrom tokens from Memory = Unit {0}
