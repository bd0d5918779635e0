-- What the private functions of the reader of rules promise.
use Rattle.std.specs.Prelude.{◌≡◌, ℕ, ◌⊎◌, Bool, true, false, ◌||◌, List, ◌∷◌, Option}
use Rattle.qs_lex.specs.declared.token.Token.{Token}
use Rattle.qs_lex.specs.declared.token.Kind.{Kind}
use Rattle.qs_lex.specs.declared.token.Kind.TheVariants.{Variable}
use Rattle.qs_lex.specs.declared.token.Word.TheVariants.{Dans, Hors, Egal, Non}
use Rattle.qs_lex.specs.Grammar.{Sort, a_label, a_label_variable, a_tree_variable, a_forest_variable, the_word, opening}
use Rattle.qs_lex.specs.Grammar.{closing, slash, sort_of, Form, one, part, ◌·◌, ◌∣◌, optional}
use Rattle.qs_lex.specs.Expecting.{same_sort}
use Rattle.qs_pattern.specs.declared.variable.Var.{Var}
use Rattle.qs_pattern.specs.declared.variable.VarClass.{VarClass}
use Rattle.qs_pattern.specs.declared.variable.VarClass.TheVariants as class
use Rattle.qs_pattern.specs.declared.pattern.Head.{Head}
use Rattle.qs_pattern.specs.Letters.{IsVariable}
use Rattle.qs_pattern.specs.Patterns.{Patterns}
use Rattle.qs_pattern.specs.Conditions.{Condition}
use Rattle.qs_reader.specs.declared.text_end.TextEnd.{TextEnd}
use Rattle.qs_reader.specs.Readers.{Reading, IsNext, IsPassed}
use Rattle.qs_reader.specs.working.Readers.{Reads}
use Rattle.qs_reader.specs.working.Readers as reader
use Rattle.qs_ruletext.specs.Grammar.{Part, rule, side, tree, list, item, cond, conj, neg, prim, line}
use Rattle.qs_ruletext.specs.Reading.{IsVariableOf, IsHeadOf, ReadsTree, ReadsSubtrees, ReadsList, ReadsItem, ReadsSide}
use Rattle.qs_ruletext.specs.Reading.{ReadsCond, ReadsConj, ReadsNeg, ReadsPrim}
use Rattle.qs_ruletext.specs.WrittenRules.{WrittenRule}
use Rattle.qs_ruletext.specs.Rules.{ReadsCondIfGiven, ReadsWrittenRule}

-- which sorts the parts may begin with
abbrev pub begins_tree : Sort → Bool
begins_tree k = (same_sort a_label k || same_sort a_label_variable k) || same_sort a_tree_variable k

abbrev pub begins_item : Sort → Bool
begins_item k = begins_tree k || same_sort a_forest_variable k

abbrev pub begins_prim : Sort → Bool
begins_prim k = same_sort opening k || begins_item k

abbrev pub begins_neg : Sort → Bool
begins_neg k = same_sort (the_word Non) k || begins_prim k

abbrev pub table : Part → Sort → Bool
table rule = begins_tree
table side = begins_tree
table tree = begins_tree
table list = begins_item
table item = begins_item
table cond = begins_neg
table conj = begins_neg
table neg = begins_neg
table prim = begins_prim

-- what readers do and where they stop, by these lines
abbrev pub IsRead : Form Part → Reads → Reading → Reading → List (List ℕ) → List (List ℕ) → Type 0
IsRead form R r s old new = reader.IsRead line table form R r s old new

abbrev pub IsReadSoFar : Form Part → Form Part → Reads → Reading → Reading → List (List ℕ) → List (List ℕ) → Type 0
IsReadSoFar form member R r s old new = reader.IsReadSoFar line table form member R r s old new

abbrev pub Ends : Form Part → Reading → TextEnd → Type 0
Ends form r end = reader.Ends line table form r end

-- a variable of such a letter and such a number is one
abbrev pub IsGood : Kind → Type 0
IsGood (Variable letter number) = IsVariable letter number
IsGood _ = Unit {0}

-- a variable of some class
abbrev pub is_variable : Sort → Bool
is_variable a_label_variable = true
is_variable a_tree_variable = true
is_variable a_forest_variable = true
is_variable _ = false

abbrev pub sort_of_class : VarClass → Sort
sort_of_class class.Label = a_label_variable
sort_of_class class.Tree = a_tree_variable
sort_of_class class.Forest = a_forest_variable

-- this variable, of this sort, was passed
pub record PassesVariable (sort : Sort) (v : Var) (r s : Reading) : Type 0 where
  pub token : Token
  pub passed : IsPassed token r s
  pub is : IsVariableOf sort token v

-- tokens of these sorts begin a tree
abbrev pub IsTreeSort : Sort → Type 0
IsTreeSort k = (k ≡ a_label) ⊎ ((k ≡ a_label_variable) ⊎ (k ≡ a_tree_variable))

-- the next token begins a tree
pub record BeginsTree (r : Reading) : Type 0 where
  pub token : Token
  pub next : IsNext token r
  pub of_sort : IsTreeSort (sort_of token.kind)

-- a label or a label variable, and what may stand in parentheses behind it
abbrev pub a_head : Form Part
a_head = one a_label ∣ one a_label_variable

abbrev pub in_parentheses : Form Part
in_parentheses = optional (one opening · optional (part list) · one closing)

-- two lists, compared
abbrev pub a_comparing_word : Form Part
a_comparing_word = one (the_word Dans) ∣ one (the_word Hors) ∣ one (the_word Egal)

abbrev pub a_comparison : Form Part
a_comparison = part list · a_comparing_word · part list

-- the condition of a rule, if it has one
abbrev pub condition_if_any : Form Part
condition_if_any = optional (one slash · part cond)

pub data ReadsHead (head : Head) (names : List (List ℕ)) (text : List ℕ) : List Token → List Token → Type 0 where
  reads_head : {t : Token} {rest : List Token} → IsHeadOf names text t head → ReadsHead head names text (t ∷ rest) rest

-- What is read from the tokens of each part, as a relation of tokens.
abbrev pub ATree : Patterns → Reads
ATree p names text ts rest = ReadsTree names text ts p rest

abbrev pub Subtrees : Patterns → Reads
Subtrees kids names text ts rest = ReadsSubtrees names text ts kids rest

abbrev pub AList : Patterns → Reads
AList ps names text ts rest = ReadsList names text ts ps rest

abbrev pub AnItem : Patterns → Reads
AnItem p names text ts rest = ReadsItem names text ts p rest

abbrev pub ASide : Patterns → Reads
ASide ps names text ts rest = ReadsSide names text ts ps rest

abbrev pub ACond : Condition → Reads
ACond c names text ts rest = ReadsCond names text ts c rest

abbrev pub AConj : Condition → Reads
AConj c names text ts rest = ReadsConj names text ts c rest

abbrev pub ANeg : Condition → Reads
ANeg c names text ts rest = ReadsNeg names text ts c rest

abbrev pub APrim : Condition → Reads
APrim c names text ts rest = ReadsPrim names text ts c rest

abbrev pub ACondIfGiven : Option Condition → Reads
ACondIfGiven c names text ts rest = ReadsCondIfGiven names text ts c rest

abbrev pub AWrittenRule : WrittenRule → Reads
AWrittenRule raw names text ts rest = ReadsWrittenRule names text ts raw rest
