-- How the tokens are written, and what may follow them. A row of the table of tokens is one line of `Spells` and one
-- of `EndsBefore`.
use Rattle.std.specs.Prelude.{◌≡◌, ℕ, zero, suc, ◌<◌, ◌≤◌, ◌||◌, ◌==◌, List, [], ◌∷◌, ◌++◌, length}
use Rattle.std.specs.Prelude.{codes, decimal, not, true}
use Rattle.std.specs.Char.{is_ascii_digit}
use Rattle.qs_tree.specs.Text.{quote, is_label_byte, between_quotes}
use Rattle.qs_lex.specs.Characters.{star, dash, is_variable_letter, ends_line, BeginsWithNo, Each}
use Rattle.qs_lex.specs.Limits.{most_variable_number, most_node_number}
use Rattle.qs_lex.specs.declared.token.Word.{Word}
use Rattle.qs_lex.specs.declared.token.Word.TheVariants.{Systeme, Graphe, Fin, Dans, Hors, Et, Ou, Non, Version, Egal}
use Rattle.qs_lex.specs.declared.token.Word.TheVariants.{Unique}
use Rattle.qs_lex.specs.declared.token.Kind.{Kind}
use Rattle.qs_lex.specs.declared.token.Kind.TheVariants.{Bare, Quoted, Variable, Node, Word as a_word, Opening, Closing}
use Rattle.qs_lex.specs.declared.token.Kind.TheVariants.{Comma, Plus, Slash, Equals, Stop}

-- the name of a word, without its dashes
abbrev pub name_of : Word → List ℕ
name_of Systeme = codes "SYSTEME"
name_of Graphe = codes "GRAPHE"
name_of Fin = codes "FIN"
name_of Dans = codes "DANS"
name_of Hors = codes "HORS"
name_of Et = codes "ET"
name_of Ou = codes "OU"
name_of Non = codes "NON"
name_of Version = codes "VERSION"
name_of Egal = codes "EGAL"
name_of Unique = codes "UNIQUE"

-- the first version whose texts have the word
abbrev pub since : Word → ℕ
since Version = 2
since Egal = 2
since Unique = 2
since _ = 1

-- the name or the number between dashes
abbrev pub between_dashes : List ℕ → List ℕ
between_dashes name = dash ∷ name ++ dash ∷ []

-- what stands behind the star of a variable: nothing where its number is 0, or the number in decimal
abbrev pub suffix_of : ℕ → List ℕ
suffix_of zero = []
suffix_of (suc n) = decimal (suc n)

-- a token of this kind is written so. A number in decimal has no leading zero.
abbrev pub Spells : Kind → List ℕ → Type 0
Spells Bare bytes = (0 < length bytes) × Each is_label_byte bytes
Spells Quoted bytes = (text : List ℕ) × Each (λ b. not (ends_line b)) text × (bytes ≡ between_quotes text)
Spells (Variable letter number) bytes =
    (is_variable_letter letter ≡ true) × (number ≤ most_variable_number) × (bytes ≡ letter ∷ star ∷ suffix_of number)
Spells (Node number) bytes = (1 ≤ number) × (number ≤ most_node_number) × (bytes ≡ between_dashes (decimal number))
Spells (a_word word) bytes = bytes ≡ between_dashes (name_of word)
Spells Opening bytes = bytes ≡ codes "("
Spells Closing bytes = bytes ≡ codes ")"
Spells Comma bytes = bytes ≡ codes ","
Spells Plus bytes = bytes ≡ codes "+"
Spells Slash bytes = bytes ≡ codes "/"
Spells Equals bytes = bytes ≡ codes "=="
Spells Stop bytes = bytes ≡ codes "."

-- texts of this version have tokens of this kind: a word in its first version and from then on, the others in each
abbrev pub IsInVersion : ℕ → Kind → Type 0
IsInVersion version (a_word word) = since word ≤ version
IsInVersion version _ = Unit {0}

-- a token of this kind ends where this follows. A bare label is the longest run of label characters, and none where a
-- star follows. A quote that a quote follows closes no label. The digits of a variable are the longest run of digits.
abbrev pub EndsBefore : Kind → List ℕ → Type 0
EndsBefore Bare rest = BeginsWithNo (λ b. is_label_byte b || b == star) rest
EndsBefore Quoted rest = BeginsWithNo (λ b. b == quote) rest
EndsBefore (Variable letter number) rest = BeginsWithNo is_ascii_digit rest
EndsBefore (Node number) rest = Unit {0}
EndsBefore (a_word word) rest = Unit {0}
EndsBefore Opening rest = Unit {0}
EndsBefore Closing rest = Unit {0}
EndsBefore Comma rest = Unit {0}
EndsBefore Plus rest = Unit {0}
EndsBefore Slash rest = Unit {0}
EndsBefore Equals rest = Unit {0}
EndsBefore Stop rest = Unit {0}

-- a label of this kind that is written with these bytes has this text. Other kinds have none.
abbrev pub IsLabelText : Kind → List ℕ → List ℕ → Type 0
IsLabelText Bare bytes text = text ≡ bytes
IsLabelText Quoted bytes text = bytes ≡ between_quotes text
IsLabelText _ bytes text = ⊥
