-- What readers promise: which form they take, what they read, and where they stop.
use Rattle.std.specs.Prelude.{◌≡◌, ℕ, ◌+◌, ◌≤◌, Bool, true, false, List, ◌∷◌, length, drop}
use Rattle.qs_lex.specs.declared.token.Token.{Token}
use Rattle.qs_lex.specs.Grammar.{Sort, sort_of, IsOf, Form, one, part, ◌·◌, ◌∣◌, optional, repeated, Grammar, IsWhole}
use Rattle.qs_lex.specs.Expecting.{NextIsNo}
use Rattle.qs_lex.specs.working.Expecting.{nullable, first, Leads, Stops}
use Rattle.qs_tree.specs.declared.cell.Label.{Label}
use Rattle.qs_reader.specs.declared.text_end.TextEnd.{TextEnd}
use Rattle.qs_reader.specs.declared.text_end.TextEnd.TheVariants.{Syntax, Memory}
use Rattle.qs_reader.specs.Names.{IsLabelOf, KeepsNames}
use Rattle.qs_reader.specs.working.Names.{NamesGrowUpTo}
use Rattle.qs_reader.specs.Readers.{Reading, rest_of, GoesOn}

-- The tokens before the rest are the form, whole, and nothing that may be left out or repeated was left out where the
-- next token begins it. A table says with which sorts a part may begin.
pub data IsTaken {Part : Type 0} (line : Grammar Part) (table : Part → Sort → Bool)
    : Form Part → List Token → List Token → Type 0 where
  -- whatever is expected behind the form
  takes_known : {form : Form Part} {ts rest : List Token}
      → IsWhole line form ts rest → ((behind : List (Form Part)) → Leads line (form ∷ behind) ts behind rest)
      → IsTaken line table form ts rest
  takes_token : {sort : Sort} {t : Token} {rest : List Token}
      → IsOf sort t → IsTaken line table (one sort) (t ∷ rest) rest
  takes_part : {name : Part} {ts rest : List Token}
      → IsTaken line table (line name) ts rest → IsTaken line table (part name) ts rest
  takes_sequence : {first behind : Form Part} {ts middle rest : List Token}
      → IsTaken line table first ts middle → IsTaken line table behind middle rest
      → IsTaken line table (first · behind) ts rest
  takes_this : {this other : Form Part} {ts rest : List Token}
      → IsTaken line table this ts rest → IsTaken line table (this ∣ other) ts rest
  takes_other : {this other : Form Part} {ts rest : List Token}
      → IsTaken line table other ts rest → IsTaken line table (this ∣ other) ts rest
  leaves_out : {member : Form Part} {ts : List Token}
      → NextIsNo (first table member) ts → IsTaken line table (optional member) ts ts
  takes_member : {member : Form Part} {ts rest : List Token}
      → IsTaken line table member ts rest → IsTaken line table (optional member) ts rest
  takes_no_more : {member : Form Part} {ts : List Token}
      → NextIsNo (first table member) ts → IsTaken line table (repeated member) ts ts
  takes_more : {member : Form Part} {ts middle rest : List Token}
      → IsTaken line table member ts middle → IsTaken line table (repeated member) middle rest
      → IsTaken line table (repeated member) ts rest

-- The tokens before the rest begin the form, aren't it whole, and can't go on with the next one.
pub data StopsIn {Part : Type 0} (line : Grammar Part) (table : Part → Sort → Bool)
    : Form Part → List Token → List Token → Type 0 where
  -- whatever is expected behind the form
  stops_known : {form : Form Part} {ts rest : List Token}
      → ((behind : List (Form Part)) → Stops line (form ∷ behind) ts (length rest)) → StopsIn line table form ts rest
  -- the next token can't begin what has to come
  none_fits : {form : Form Part} {ts : List Token}
      → nullable form ≡ false → NextIsNo (first table form) ts → StopsIn line table form ts ts
  stops_in_part : {name : Part} {ts rest : List Token}
      → StopsIn line table (line name) ts rest → StopsIn line table (part name) ts rest
  stops_in_first : {first behind : Form Part} {ts rest : List Token}
      → StopsIn line table first ts rest → StopsIn line table (first · behind) ts rest
  stops_in_behind : {first behind : Form Part} {ts middle rest : List Token}
      → IsTaken line table first ts middle → StopsIn line table behind middle rest
      → StopsIn line table (first · behind) ts rest
  stops_in_this : {this other : Form Part} {ts rest : List Token}
      → NextIsNo (first table other) ts → StopsIn line table this ts rest → StopsIn line table (this ∣ other) ts rest
  stops_in_other : {this other : Form Part} {ts rest : List Token}
      → NextIsNo (first table this) ts → StopsIn line table other ts rest → StopsIn line table (this ∣ other) ts rest
  stops_in_member : {member : Form Part} {t : Token} {ts rest : List Token}
      → first table member (sort_of t.kind) ≡ true → StopsIn line table member (t ∷ ts) rest
      → StopsIn line table (optional member) (t ∷ ts) rest
  -- the next token can't begin what has to come behind a member that may be left out, so that this one is expected
  stops_before : {member behind : Form Part} {ts rest : List Token}
      → nullable behind ≡ false → NextIsNo (first table behind) ts
      → StopsIn line table member ts rest → StopsIn line table (optional member · behind) ts rest
  stops_in_more : {member : Form Part} {t : Token} {ts rest : List Token}
      → first table member (sort_of t.kind) ≡ true → StopsIn line table member (t ∷ ts) rest
      → StopsIn line table (repeated member) (t ∷ ts) rest
  stops_later : {member : Form Part} {ts middle rest : List Token}
      → IsTaken line table member ts middle → StopsIn line table (repeated member) middle rest
      → StopsIn line table (repeated member) ts rest

-- what is read from the tokens before the rest, in these names of labels
abbrev pub Reads : Type 1
Reads = List (List ℕ) → List ℕ → List Token → List Token → Type 0

-- what a reader does that goes from one place to another: it takes the form, and reads so, in the names that it leaves
-- and in all that keep them
pub record IsRead {Part : Type 0} (line : Grammar Part) (table : Part → Sort → Bool)
    (form : Form Part) (R : Reads) (r s : Reading) (old new : List (List ℕ)) : Type 0 where
  pub reads : (later : List (List ℕ)) → KeepsNames new later → R later r.text (rest_of r) (rest_of s)
  pub takes : IsTaken line table form (rest_of r) (rest_of s)
  pub names : NamesGrowUpTo r.text (rest_of r) (rest_of s) old new
  pub keeps : KeepsNames old new
  pub goes_on : GoesOn r s
  pub room : length new + length (rest_of s) ≤ length old + length (rest_of r)
  pub shorter : length (rest_of s) ≤ length (rest_of r)

-- a reader that expects the form stops at this place
pub record StopsAt {Part : Type 0} (line : Grammar Part) (table : Part → Sort → Bool)
    (form : Form Part) (r : Reading) (at : ℕ) : Type 0 where
  pub forward : r.place ≤ at
  pub within : at ≤ length r.tokens
  pub stops : StopsIn line table form (rest_of r) (drop at r.tokens)

-- why a reader that expects the form didn't go on: it stops, or memory was wanting, which may be at any time
abbrev pub StopsOr : {Part : Type 0} → Grammar Part → (Part → Sort → Bool) → Form Part → Reading → TextEnd → Type 0
StopsOr line table form r (Syntax at) = StopsAt line table form r at
StopsOr line table form r Memory = Unit {0}

pub record Ends {Part : Type 0} (line : Grammar Part) (table : Part → Sort → Bool)
    (form : Form Part) (r : Reading) (end : TextEnd) : Type 0 where
  pub stops : StopsOr line table form r end

-- What may still be repeated stands behind what was read. Whatever is read there, `R` says what that makes of it.
pub record IsReadSoFar {Part : Type 0} (line : Grammar Part) (table : Part → Sort → Bool)
    (form member : Form Part) (R : Reads) (r s : Reading) (old new : List (List ℕ)) : Type 0 where
  pub reads : (later : List (List ℕ)) → KeepsNames new later → R later r.text (rest_of r) (rest_of s)
  pub takes :
      (rest : List Token) → IsTaken line table (repeated member) (rest_of s) rest
      → IsTaken line table form (rest_of r) rest
  pub stops :
      (rest : List Token) → StopsIn line table (repeated member) (rest_of s) rest
      → StopsIn line table form (rest_of r) rest
  pub names : NamesGrowUpTo r.text (rest_of r) (rest_of s) old new
  pub keeps : KeepsNames old new
  pub goes_on : GoesOn r s
  pub room : length new + length (rest_of s) ≤ length old + length (rest_of r)
  pub shorter : length (rest_of s) ≤ length (rest_of r)

-- The relations that sequences have: one token; a label; nothing; one thing and then another.
pub data AToken (sort : Sort) (names : List (List ℕ)) (text : List ℕ) : List Token → List Token → Type 0 where
  a_token : {t : Token} {rest : List Token} → IsOf sort t → AToken sort names text (t ∷ rest) rest

pub data ALabel (label : Label) (names : List (List ℕ)) (text : List ℕ) : List Token → List Token → Type 0 where
  a_label : {t : Token} {rest : List Token} → IsLabelOf names text t label → ALabel label names text (t ∷ rest) rest

pub data Nothing (names : List (List ℕ)) (text : List ℕ) : List Token → List Token → Type 0 where
  nothing : {rest : List Token} → Nothing names text rest rest

pub data Then (R S : Reads) (names : List (List ℕ)) (text : List ℕ) : List Token → List Token → Type 0 where
  then : {ts middle rest : List Token} → R names text ts middle → S names text middle rest → Then R S names text ts rest
