-- Reading the token at the front of a text from the left: what the private functions of the scanner compute. The tokens
-- of a text are not defined by it; that it reads just these is proved in `Scanned`.
use Rattle.std.specs.Prelude.{ℕ, suc, ◌+◌, ◌-◌, ◌*◌, ◌&&◌, ◌==◌, nat_le, not, List, [], ◌∷◌, length, take, drop, find}
use Rattle.std.specs.Prelude.{bytes_eq, slice_index, take_while, if◌then◌else◌, Option, Some, None, Result, Ok, Err}
use Rattle.std.specs.Prelude.{option_map}
use Rattle.std.specs.List.{prefix_len}
use Rattle.std.specs.Char.{is_ascii_digit}
use Rattle.qs_tree.specs.Text.{quote, is_label_byte}
use Rattle.qs_lex.specs.Characters.{star, dash, is_variable_letter, ends_line}
use Rattle.qs_lex.specs.working.Characters.{is_capital_or_digit}
use Rattle.qs_lex.specs.Spelling.{name_of, since}
use Rattle.qs_lex.specs.Limits.{most_variable_number, most_node_number}
use Rattle.qs_lex.specs.declared.token.Word.{Word}
use Rattle.qs_lex.specs.declared.token.Word.TheVariants.{Systeme, Graphe, Fin, Dans, Hors, Et, Ou, Non, Version, Egal}
use Rattle.qs_lex.specs.declared.token.Word.TheVariants.{Unique}
use Rattle.qs_lex.specs.declared.token.Kind.{Kind}
use Rattle.qs_lex.specs.declared.token.Kind.TheVariants.{Bare, Quoted, Variable, Node, Word as a_word, Opening, Closing}
use Rattle.qs_lex.specs.declared.token.Kind.TheVariants.{Comma, Plus, Slash, Equals, Stop}
use Rattle.qs_lex.specs.declared.refusal.Cause.{Cause}
use Rattle.qs_lex.specs.declared.refusal.Cause.TheVariants.{BadCharacter, OpenQuote, BadWord, BadVariable}

-- a kind, and how many bytes
abbrev pub Found : Type 0
Found = Result (Kind × ℕ) Cause

-- the number from 1 to `most` that these digits write behind those of n
abbrev pub number_after : ℕ → ℕ → List ℕ → Option ℕ
number_after most n [] = if n == 0 then None else Some n
number_after most n (d ∷ ds) =
    if is_ascii_digit d && (not (n == 0 && d == 48) && nat_le (n * 10 + (d - 48)) most)
    then number_after most (n * 10 + (d - 48)) ds else None

-- how many bytes a quoted label has behind its opening quote; how many behind a quote that may close it
abbrev mutual
  pub quote_len : List ℕ → Option ℕ
  quote_len [] = None
  quote_len (b ∷ bs) =
      option_map suc (if b == quote then behind_quote bs else (if ends_line b then None else quote_len bs))

  pub behind_quote : List ℕ → Option ℕ
  behind_quote [] = Some 0
  behind_quote (b ∷ bs) = if b == quote then option_map suc (quote_len bs) else Some 0

abbrev pub all_words : List Word
all_words = Systeme ∷ Graphe ∷ Fin ∷ Dans ∷ Hors ∷ Et ∷ Ou ∷ Non ∷ Version ∷ Egal ∷ Unique ∷ []

-- the word of texts of this version that has this name
abbrev pub word_of : ℕ → List ℕ → Option Word
word_of version name = find (λ w. bytes_eq (name_of w) name && nat_le (since w) version) all_words

abbrev pub numbered : ℕ → ℕ → Option ℕ → Found
numbered letter len (Some n) = Ok (Variable letter n, len)
numbered letter len None = Err BadVariable

abbrev pub with_digits : ℕ → List ℕ → Found
with_digits letter [] = Ok (Variable letter 0, 2)
with_digits letter (d ∷ ds) = numbered letter (length (d ∷ ds) + 2) (number_after most_variable_number 0 (d ∷ ds))

-- the variable with this run before its '*' and these bytes behind it
abbrev pub variable_of : List ℕ → List ℕ → Found
variable_of (letter ∷ []) behind =
    if is_variable_letter letter then with_digits letter (take_while is_ascii_digit behind) else Err BadVariable
variable_of _ behind = Err BadVariable

abbrev pub label_at : List ℕ → Found
label_at bytes =
    let n = prefix_len is_label_byte bytes in
    if slice_index bytes n == star then variable_of (take n bytes) (drop (n + 1) bytes) else Ok (Bare, n)

abbrev pub quoted_of : Option ℕ → Found
quoted_of (Some n) = Ok (Quoted, n + 1)
quoted_of None = Err OpenQuote

abbrev pub node_of : ℕ → Option ℕ → Found
node_of len (Some n) = Ok (Node n, len)
node_of len None = Err BadWord

abbrev pub named : List ℕ → Option Word → Found
named name (Some word) = Ok (a_word word, length name + 2)
named name None = node_of (length name + 2) (number_after most_node_number 0 name)

-- a node mark or a word, behind its first dash, in a text of this version
abbrev pub mark_at : ℕ → List ℕ → Found
mark_at version bytes =
    let name = take_while is_capital_or_digit bytes in
    if slice_index bytes (length name) == dash then named name (word_of version name) else Err BadWord

abbrev pub punctuation : ℕ → Found
punctuation b =
    if b == 40 then Ok (Opening, 1)
    else (if b == 41 then Ok (Closing, 1)
    else (if b == 44 then Ok (Comma, 1)
    else (if b == 43 then Ok (Plus, 1)
    else (if b == 46 then Ok (Stop, 1)
    else (if b == 47 then Ok (Slash, 1)
    else Err BadCharacter)))))

-- the token at the front, in a text of this version
abbrev pub scan : ℕ → List ℕ → Found
scan version [] = Err BadCharacter
scan version (b ∷ bs) =
    if is_label_byte b then label_at (b ∷ bs)
    else (if b == quote then quoted_of (quote_len bs)
    else (if b == dash then mark_at version bs
    else (if b == 61 then (if slice_index bs 0 == 61 then Ok (Equals, 2) else Err BadCharacter)
    else punctuation b)))
