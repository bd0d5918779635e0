-- What the private functions of readers with one token of sight promise of a grammar whose parts are never
-- empty. A reader still expects some forms, one behind the other, and goes on by the sort of the next token.
use Rattle.std.specs.Prelude.{◌≡◌, ℕ, Bool, true, false, ◌||◌, if◌then◌else◌, List, [], ◌∷◌, ◌++◌, length, ◌⊎◌, ◌↔◌}
use Rattle.qs_lex.specs.declared.token.Token.{Token}
use Rattle.qs_lex.specs.Grammar.{Sort, Form, one, part, ◌·◌, ◌∣◌, optional, repeated, Grammar, IsWhole, Begins}
use Rattle.qs_lex.specs.Expecting.{same_sort}

-- no token may be the form
abbrev pub nullable : {Part : Type 0} → Form Part → Bool
nullable (one s) = false
nullable (part p) = false
nullable (f · g) = if nullable f then nullable g else false
nullable (f ∣ g) = if nullable f then true else nullable g
nullable (optional f) = true
nullable (repeated f) = true

-- which sorts a form may begin with, where the parts may begin with those of a table
abbrev pub first : {Part : Type 0} → (Part → Sort → Bool) → Form Part → Sort → Bool
first table (one s) k = same_sort s k
first table (part p) k = table p k
first table (f · g) k = if nullable f then first table f k || first table g k else first table f k
first table (f ∣ g) k = first table f k || first table g k
first table (optional f) k = first table f k
first table (repeated f) k = first table f k

-- which sorts these forms, one behind the other, may begin with
abbrev pub starts : {Part : Type 0} → (Part → Sort → Bool) → List (Form Part) → Sort → Bool
starts table [] k = false
starts table (f ∷ fs) k = if nullable f then first table f k || starts table fs k else first table f k

-- these forms can't go on with any of these sorts
abbrev pub Refuse : {Part : Type 0} → (Part → Sort → Bool) → List (Form Part) → List Sort → Type 0
Refuse table fs [] = Unit {0}
Refuse table fs (s ∷ ss) = (starts table fs s ≡ false) × Refuse table fs ss

-- the tokens begin these forms, one behind the other
abbrev pub BeginAll : {Part : Type 0} → Grammar Part → List (Form Part) → List Token → Type 0
BeginAll line [] ts = ts ≡ []
BeginAll line (f ∷ fs) ts =
    Begins line f ts ⊎ ((middle : List Token) × IsWhole line f ts middle × BeginAll line fs middle)

-- the tokens are these forms whole, one behind the other
abbrev pub AllWhole : {Part : Type 0} → Grammar Part → List (Form Part) → List Token → Type 0
AllWhole line [] ts = ts ≡ []
AllWhole line (f ∷ fs) ts = (middle : List Token) × IsWhole line f ts middle × AllWhole line fs middle

-- no token may be these forms
abbrev pub may_end : {Part : Type 0} → List (Form Part) → Bool
may_end [] = true
may_end (f ∷ fs) = if nullable f then may_end fs else false

-- a reader that expects `before` at these tokens has gone on, without a choice, to expect `behind` at the rest: however
-- much of the rest is taken, it begins with what was passed the ones exactly where it begins the others; and where all
-- of the tokens are the ones whole, all of the rest is the others
pub record Leads {Part : Type 0} (line : Grammar Part) (before : List (Form Part)) (tokens : List Token)
    (behind : List (Form Part)) (rest : List Token) : Type 0 where
  pub passed : List Token
  pub are : tokens ≡ passed ++ rest
  pub same : (front more : List Token) → rest ≡ front ++ more
      → BeginAll line before (passed ++ front) ↔ BeginAll line behind front
  pub whole : AllWhole line before tokens → AllWhole line behind rest

-- with the next token, where there is one, the tokens don't begin the forms
abbrev pub NotWithNext : {Part : Type 0} → Grammar Part → List (Form Part) → List Token → List Token → Type 0
NotWithNext line forms passed [] = Unit {0}
NotWithNext line forms passed (t ∷ ts) = BeginAll line forms (passed ++ t ∷ []) → ⊥

-- no reader that expects these forms gets past the place with so many tokens left: the tokens before it begin them;
-- with the token there, where there is one, they don't; and where there is none, they are not the forms whole
pub record Stops {Part : Type 0} (line : Grammar Part) (forms : List (Form Part)) (tokens : List Token)
    (left : ℕ) : Type 0 where
  pub passed : List Token
  pub rest : List Token
  pub are : tokens ≡ passed ++ rest
  pub left_is : left ≡ length rest
  pub begin : BeginAll line forms passed
  pub not_further : NotWithNext line forms passed rest
  pub unfinished : rest ≡ [] → AllWhole line forms tokens → ⊥

-- the sorts with which a form may go on where it is whole, where the parts may go on with those of a table
abbrev pub goes_on : {Part : Type 0} → (Part → Sort → Bool) → (Part → Sort → Bool) → Form Part → Sort → Bool
goes_on table more (one s) k = false
goes_on table more (part p) k = more p k
goes_on table more (f · g) k =
    if nullable g then (first table g k || goes_on table more f k) || goes_on table more g k else goes_on table more g k
goes_on table more (f ∣ g) k = goes_on table more f k || goes_on table more g k
goes_on table more (optional f) k = first table f k || goes_on table more f k
goes_on table more (repeated f) k = first table f k || goes_on table more f k

-- no sort passes both tests
abbrev pub Apart : (Sort → Bool) → (Sort → Bool) → Type 0
Apart p q = (k : Sort) → p k ≡ true → q k ≡ false

-- at each place of a form the next token tells how to go on
abbrev pub IsPredictive : {Part : Type 0} → (Part → Sort → Bool) → (Part → Sort → Bool) → Form Part → Type 0
IsPredictive table more (one s) = Unit {0}
IsPredictive table more (part p) = Unit {0}
IsPredictive table more (f · g) =
    IsPredictive table more f × IsPredictive table more g × Apart (first table g) (goes_on table more f)
IsPredictive table more (f ∣ g) =
    (nullable f ≡ false) × (nullable g ≡ false) × Apart (first table f) (first table g)
    × Apart (first table g) (first table f) × IsPredictive table more f × IsPredictive table more g
IsPredictive table more (optional f) = (nullable f ≡ false) × IsPredictive table more f
IsPredictive table more (repeated f) =
    (nullable f ≡ false) × IsPredictive table more f × Apart (first table f) (goes_on table more f)
