-- How labels and trees are written. Texts are lists of bytes in UTF-8. A label is written bare where it is one or more
-- label characters, and else between quotes, as `"a""b"` and `""`. A tree is its label and, where it has subtrees, a
-- list of them in parentheses with a comma between two, as `S(NP,VP(V))`. The trees are those of Colmerauer (1970);
-- which characters a bare label may have, and the quotes, are this project's own.
use Rattle.std.specs.Prelude.{ℕ, Bool, ◌==◌, ◌||◌, ◌&&◌, if◌then◌else◌, nat_le, nat_lt, length, ◌<◌, List, [], ◌∷◌}
use Rattle.std.specs.Prelude.{◌++◌, slice_get, unwrap_or}
use Rattle.std.specs.Char.{is_ascii_alphanumeric}
use Rattle.std.specs.List.{list_all, flat_map}
use Rattle.qs_tree.specs.declared.cell.Label.{Label}
use Rattle.qs_tree.specs.Trees.{Forest, no_tree, first_tree, Tree}

-- a byte of a label character: of an ASCII letter, an ASCII digit, '_', ''' or any character from U+0080 on, each of
-- whose bytes is 128 or more
abbrev pub is_label_byte : ℕ → Bool
is_label_byte b = is_ascii_alphanumeric b || b == 95 || b == 39 || nat_le 128 b

-- a label with this text is written without quotes: it isn't empty and has label characters only
abbrev pub is_bare : List ℕ → Bool
is_bare text = nat_lt 0 (length text) && list_all is_label_byte text

-- '"', around a quoted label
abbrev pub quote : ℕ
quote = 34

-- the text with two quotes for each quote
abbrev pub doubled : List ℕ → List ℕ
doubled text = flat_map (λ b. if b == quote then quote ∷ quote ∷ [] else b ∷ []) text

-- the quoted label that has this text
abbrev pub between_quotes : List ℕ → List ℕ
between_quotes text = quote ∷ doubled text ++ quote ∷ []

-- how a label with this text is written
abbrev pub label_text : List ℕ → List ℕ
label_text text = if is_bare text then text else between_quotes text

-- the text that a label stands for among these texts
abbrev pub name_of : List (List ℕ) → Label → List ℕ
name_of names label = unwrap_or (slice_get names label.0) []

-- a list of trees in parentheses, of which the second argument is the text; nothing where there is no tree
abbrev pub in_parentheses : Forest → List ℕ → List ℕ
in_parentheses no_tree text = []
in_parentheses (first_tree l k r) text = 40 ∷ (text ++ 41 ∷ [])

-- the trees that follow a tree, of which the second argument is the text; nothing where there is no tree
abbrev pub behind_comma : Forest → List ℕ → List ℕ
behind_comma no_tree text = []
behind_comma (first_tree l k r) text = 44 ∷ text

-- how a list of trees is written, with commas
abbrev pub forest_text : List (List ℕ) → Forest → List ℕ
forest_text names no_tree = []
forest_text names (first_tree l k r) =
    label_text (name_of names l) ++ (in_parentheses k (forest_text names k) ++ behind_comma r (forest_text names r))

-- how a tree is written
abbrev pub tree_text : List (List ℕ) → Tree → List ℕ
tree_text names t = label_text (name_of names t.root) ++ in_parentheses t.subtrees (forest_text names t.subtrees)

-- each label in these trees is one of the first n
abbrev pub AreNamed : ℕ → Forest → Type 0
AreNamed n no_tree = Unit {0}
AreNamed n (first_tree l k r) = (l.0 < n) × AreNamed n k × AreNamed n r

-- each label in this tree is one of the first n
abbrev pub IsNamed : ℕ → Tree → Type 0
IsNamed n t = (t.root.0 < n) × AreNamed n t.subtrees
