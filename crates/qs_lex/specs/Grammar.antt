-- Grammars over tokens: which tokens are a part of a text whole, and which begin one.
use Rattle.std.specs.Prelude.{◌≡◌, ℕ, List, [], ◌∷◌, if◌then◌else◌}
use Rattle.std.specs.Int.{is_in_range}
use Rattle.qs_lex.specs.declared.token.Word.{Word}
use Rattle.qs_lex.specs.declared.token.Token.{Token}
use Rattle.qs_lex.specs.declared.token.Kind.{Kind}
use Rattle.qs_lex.specs.declared.token.Kind.TheVariants.{Bare, Quoted, Variable, Node, Word as a_word, Opening, Closing}
use Rattle.qs_lex.specs.declared.token.Kind.TheVariants.{Comma, Plus, Slash, Equals, Stop}

-- what a grammar asks of a token: that it is a label, bare or quoted; a variable for a label, for a tree or for a
-- forest; a node mark; a given word; or a given sign
pub data Sort : Type 0 where
  a_label : Sort
  a_label_variable : Sort
  a_tree_variable : Sort
  a_forest_variable : Sort
  a_node_mark : Sort
  the_word : Word → Sort
  opening : Sort
  closing : Sort
  comma : Sort
  plus : Sort
  slash : Sort
  equals : Sort
  stop : Sort

-- the letter of a variable tells what it is for: A to F a label, I to N a tree, and the others, U to Z, a forest
abbrev pub variable_sort : ℕ → Sort
variable_sort letter = if is_in_range 65 70 letter then a_label_variable
    else (if is_in_range 73 78 letter then a_tree_variable else a_forest_variable)

-- each token is of one sort
abbrev pub sort_of : Kind → Sort
sort_of Bare = a_label
sort_of Quoted = a_label
sort_of (Variable letter number) = variable_sort letter
sort_of (Node number) = a_node_mark
sort_of (a_word w) = the_word w
sort_of Opening = opening
sort_of Closing = closing
sort_of Comma = comma
sort_of Plus = plus
sort_of Slash = slash
sort_of Equals = equals
sort_of Stop = stop

abbrev pub IsOf : Sort → Token → Type 0
IsOf sort t = sort_of t.kind ≡ sort

infixr 35 ◌·◌
infixr 30 ◌∣◌
-- a form of a grammar that has these parts: one token of a sort; a part; one form behind another; one of two; one or
-- nothing; or any number, one behind another
pub data Form (Part : Type 0) : Type 0 where
  one : (sort : Sort) → Form Part
  part : (name : Part) → Form Part
  ◌·◌ : (first behind : Form Part) → Form Part
  ◌∣◌ : (this other : Form Part) → Form Part
  optional : (member : Form Part) → Form Part
  repeated : (member : Form Part) → Form Part

-- a grammar has a line for each part, which says what the part is
abbrev pub Grammar : Type 0 → Type 0
Grammar Part = Part → Form Part

-- `IsWhole line form tokens rest`: the tokens before the rest are the form, whole
pub data IsWhole {Part : Type 0} (line : Grammar Part) : Form Part → List Token → List Token → Type 0 where
  whole_token : {sort : Sort} {t : Token} {rest : List Token} → IsOf sort t → IsWhole line (one sort) (t ∷ rest) rest
  whole_part : {name : Part} {ts rest : List Token} → IsWhole line (line name) ts rest
      → IsWhole line (part name) ts rest
  whole_sequence : {first behind : Form Part} {ts middle rest : List Token}
      → IsWhole line first ts middle → IsWhole line behind middle rest → IsWhole line (first · behind) ts rest
  whole_this : {this other : Form Part} {ts rest : List Token} → IsWhole line this ts rest
      → IsWhole line (this ∣ other) ts rest
  whole_other : {this other : Form Part} {ts rest : List Token} → IsWhole line other ts rest
      → IsWhole line (this ∣ other) ts rest
  left_out : {member : Form Part} {ts : List Token} → IsWhole line (optional member) ts ts
  not_left_out : {member : Form Part} {ts rest : List Token} → IsWhole line member ts rest
      → IsWhole line (optional member) ts rest
  no_more : {member : Form Part} {ts : List Token} → IsWhole line (repeated member) ts ts
  one_more : {member : Form Part} {ts middle rest : List Token}
      → IsWhole line member ts middle → IsWhole line (repeated member) middle rest
      → IsWhole line (repeated member) ts rest

-- `Begins line form tokens`: the tokens begin the form. No token begins each form. One token begins itself. Tokens
-- begin a sequence where they begin its first member, or are that member whole followed by tokens that begin the rest;
-- one of two forms where they begin the one or the other; and what may be left out or repeated where they are some of
-- its allowed repetitions, each whole, possibly none, followed by tokens that begin one more that is allowed.
pub data Begins {Part : Type 0} (line : Grammar Part) : Form Part → List Token → Type 0 where
  nothing_yet : {form : Form Part} → Begins line form []
  begins_token : {sort : Sort} {t : Token} → IsOf sort t → Begins line (one sort) (t ∷ [])
  begins_part : {name : Part} {ts : List Token} → Begins line (line name) ts → Begins line (part name) ts
  begins_first : {first behind : Form Part} {ts : List Token} → Begins line first ts → Begins line (first · behind) ts
  begins_behind : {first behind : Form Part} {ts middle : List Token}
      → IsWhole line first ts middle → Begins line behind middle → Begins line (first · behind) ts
  begins_this : {this other : Form Part} {ts : List Token} → Begins line this ts → Begins line (this ∣ other) ts
  begins_other : {this other : Form Part} {ts : List Token} → Begins line other ts → Begins line (this ∣ other) ts
  begins_optional : {member : Form Part} {ts : List Token} → Begins line member ts → Begins line (optional member) ts
  begins_next : {member : Form Part} {ts : List Token} → Begins line member ts → Begins line (repeated member) ts
  begins_later : {member : Form Part} {ts middle : List Token}
      → IsWhole line member ts middle → Begins line (repeated member) middle → Begins line (repeated member) ts

-- the form with other names for its parts: so a grammar takes in the lines of another
abbrev pub renamed : {A B : Type 0} → (A → B) → Form A → Form B
renamed name (one s) = one s
renamed name (part p) = part (name p)
renamed name (f · g) = renamed name f · renamed name g
renamed name (f ∣ g) = renamed name f ∣ renamed name g
renamed name (optional f) = optional (renamed name f)
renamed name (repeated f) = repeated (renamed name f)
