-- How rules are written, in UTF-8: the canonical spelling. Patterns, conditions and rules are Colmerauer's (1970); this
-- spelling is this project's own.
use Rattle.std.specs.Prelude.{ℕ, nat_le, if◌then◌else◌, List, [], ◌∷◌, ◌++◌, Option, Some, None, codes}
use Rattle.std.specs.List.{flat_map}
use Rattle.qs_tree.specs.Text.{name_of, label_text}
use Rattle.qs_lex.specs.Characters.{star}
use Rattle.qs_lex.specs.declared.token.Word.{Word}
use Rattle.qs_lex.specs.declared.token.Word.TheVariants.{Et, Ou}
use Rattle.qs_lex.specs.Spelling.{suffix_of, between_dashes, name_of as word_name}
use Rattle.qs_pattern.specs.declared.variable.Var.{Var}
use Rattle.qs_pattern.specs.declared.pattern.Head.{Head}
use Rattle.qs_pattern.specs.declared.pattern.Head.TheVariants as head
use Rattle.qs_pattern.specs.Patterns.{Patterns, no_pattern, node_first, tree_var_first, forest_var_first}
use Rattle.qs_pattern.specs.Conditions.{Joining, all, any, Condition, Conditions, compared, negated, combined}
use Rattle.qs_pattern.specs.Conditions.{no_condition, condition_first}
use Rattle.qs_ruletext.specs.Reading.{comparing_word}

-- These texts one behind the other, with one that stands between two of them.
abbrev pub joined : List ℕ → List (List ℕ) → List ℕ
joined between [] = []
joined between (text ∷ texts) = text ++ flat_map (λ t. between ++ t) texts

abbrev pub in_parentheses : List ℕ → List ℕ
in_parentheses text = codes "(" ++ (text ++ codes ")")

-- A variable is its letter and a star, with its number behind it where that isn't 0: `U*`, `U*12`.
abbrev pub variable_text : Var → List ℕ
variable_text v = v.letter ∷ star ∷ suffix_of v.number

abbrev pub head_text : List (List ℕ) → Head → List ℕ
head_text names (head.Label l) = label_text (name_of names l)
head_text names (head.Var v) = variable_text v

-- What stands behind the head of a node whose patterns are written so: nothing where it has none.
abbrev pub kids_text : List (List ℕ) → List ℕ
kids_text [] = []
kids_text (text ∷ texts) = in_parentheses (joined (codes ",") (text ∷ texts))

-- How each pattern of a list is written: as trees are, `GN(LE,I*,U*)`.
abbrev pub pattern_texts : List (List ℕ) → Patterns → List (List ℕ)
pattern_texts names no_pattern = []
pattern_texts names (node_first h kids behind) =
    (head_text names h ++ kids_text (pattern_texts names kids)) ∷ pattern_texts names behind
pattern_texts names (tree_var_first v behind) = variable_text v ∷ pattern_texts names behind
pattern_texts names (forest_var_first v behind) = variable_text v ∷ pattern_texts names behind

-- A list in a condition, and a side of a rule: `U*,V*` and `GN(U*) + DORT`.
abbrev pub list_text : List (List ℕ) → Patterns → List ℕ
list_text names list = joined (codes ",") (pattern_texts names list)

abbrev pub side_text : List (List ℕ) → Patterns → List ℕ
side_text names side = joined (codes " + ") (pattern_texts names side)

-- How tightly a condition holds its members together: `-NON-` more than `-ET-`, and `-ET-` more than `-OU-`.
abbrev pub joining_tightness : Joining → ℕ
joining_tightness all = 2
joining_tightness any = 1

abbrev pub tightness : Condition → ℕ
tightness (compared word a b) = 4
tightness (negated c) = 3
tightness (combined word cs) = joining_tightness word

-- The text of a member of a condition of this tightness: in parentheses where it isn't tighter.
abbrev pub member_text : ℕ → Condition → List ℕ → List ℕ
member_text outer member text = if nat_le (tightness member) outer then in_parentheses text else text

-- A word as it stands between two lists or two members, with a space on both sides; and which it is.
abbrev pub spaced_word : Word → List ℕ
spaced_word word = codes " " ++ (between_dashes (word_name word) ++ codes " ")

abbrev pub joining_word : Joining → Word
joining_word all = Et
joining_word any = Ou

-- How a condition is written: `U* -DANS- V*`, `-NON- U* -HORS- X,Y`, members joined by ` -ET- ` and by ` -OU- `.
abbrev mutual
  pub condition_text : List (List ℕ) → Condition → List ℕ
  condition_text names (compared word a b) =
      list_text names a ++ (spaced_word (comparing_word word) ++ list_text names b)
  condition_text names (negated c) = codes "-NON- " ++ member_text 3 c (condition_text names c)
  condition_text names (combined word cs) =
      joined (spaced_word (joining_word word)) (member_texts names (joining_tightness word) cs)

  -- the members of a condition of this tightness
  pub member_texts : List (List ℕ) → ℕ → Conditions → List (List ℕ)
  member_texts names outer no_condition = []
  member_texts names outer (condition_first c cs) =
      member_text outer c (condition_text names c) ∷ member_texts names outer cs

-- How a rule is written: `GN(U*) + GV == P(U*) / U* -HORS- X.`
abbrev pub condition_part : List (List ℕ) → Option Condition → List ℕ
condition_part names None = []
condition_part names (Some c) = codes " / " ++ condition_text names c

abbrev pub rule_text : List (List ℕ) → Patterns → Patterns → Option Condition → List ℕ
rule_text names left right condition =
    side_text names left ++ (codes " == " ++ (side_text names right ++ (condition_part names condition ++ codes ".")))
