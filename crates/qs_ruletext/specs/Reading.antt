-- What is read from the tokens of trees and conditions: one case for each line of the grammar and each alternative in
-- it. In `Reads.. tokens x rest` the tokens before the rest are read as x.
use Rattle.std.specs.Prelude.{◌≡◌, ℕ, List, ◌∷◌}
use Rattle.qs_lex.specs.declared.token.Token.{Token}
use Rattle.qs_lex.specs.declared.token.Kind.TheVariants.{Variable}
use Rattle.qs_lex.specs.declared.token.Word.{Word}
use Rattle.qs_lex.specs.declared.token.Word.TheVariants.{Dans, Hors, Egal, Et, Ou, Non}
use Rattle.qs_lex.specs.Grammar.{Sort, a_label_variable, a_tree_variable, a_forest_variable, the_word, opening, closing}
use Rattle.qs_lex.specs.Grammar.{comma, plus, IsOf}
use Rattle.qs_reader.specs.Names.{IsLabelOf}
use Rattle.qs_pattern.specs.declared.variable.Var.{Var}
use Rattle.qs_pattern.specs.declared.pattern.Head.{Head}
use Rattle.qs_pattern.specs.declared.pattern.Head.TheVariants as head
use Rattle.qs_pattern.specs.Patterns.{Patterns, no_pattern, node_first, tree_var_first, forest_var_first}
use Rattle.qs_pattern.specs.Conditions.{Comparing, within, outside, same, all, any, Condition, Conditions, compared}
use Rattle.qs_pattern.specs.Conditions.{negated, combined, no_condition, condition_first}

-- the token is this variable, of this sort
pub record IsVariableOf (sort : Sort) (t : Token) (v : Var) : Type 0 where
  pub of_sort : IsOf sort t
  pub variable : t.kind ≡ Variable v.letter v.number

-- the token is a label or a label variable, and is read as this head
abbrev pub IsHeadOf : List (List ℕ) → List ℕ → Token → Head → Type 0
IsHeadOf names text t (head.Label label) = IsLabelOf names text t label
IsHeadOf names text t (head.Var v) = IsVariableOf a_label_variable t v

-- the patterns of both lists, those of the second behind those of the first
abbrev pub joined : Patterns → Patterns → Patterns
joined no_pattern qs = qs
joined (node_first h kids ps) qs = node_first h kids (joined ps qs)
joined (tree_var_first v ps) qs = tree_var_first v (joined ps qs)
joined (forest_var_first v ps) qs = forest_var_first v (joined ps qs)

mutual
  -- tree = ( label | labelvar ) [ "(" [ list ] ")" ] | treevar
  pub data ReadsTree (names : List (List ℕ)) (text : List ℕ) : List Token → Patterns → List Token → Type 0 where
    reads_node : {t : Token} {h : Head} {ts rest : List Token} {kids : Patterns}
        → IsHeadOf names text t h → ReadsSubtrees names text ts kids rest
        → ReadsTree names text (t ∷ ts) (node_first h kids no_pattern) rest
    reads_tree_variable : {t : Token} {v : Var} {rest : List Token}
        → IsVariableOf a_tree_variable t v → ReadsTree names text (t ∷ rest) (tree_var_first v no_pattern) rest

  -- what stands behind a head: [ "(" [ list ] ")" ]. Parentheses with nothing in them leave no trace.
  pub data ReadsSubtrees (names : List (List ℕ)) (text : List ℕ) : List Token → Patterns → List Token → Type 0 where
    no_parentheses : {ts : List Token} → ReadsSubtrees names text ts no_pattern ts
    nothing_inside : {t u : Token} {rest : List Token} → IsOf opening t → IsOf closing u
        → ReadsSubtrees names text (t ∷ u ∷ rest) no_pattern rest
    list_inside : {t u : Token} {ts rest : List Token} {kids : Patterns}
        → IsOf opening t → ReadsList names text ts kids (u ∷ rest) → IsOf closing u
        → ReadsSubtrees names text (t ∷ ts) kids rest

  -- list = item { "," item }
  pub data ReadsList (names : List (List ℕ)) (text : List ℕ) : List Token → Patterns → List Token → Type 0 where
    reads_list : {ts middle rest : List Token} {first behind : Patterns}
        → ReadsItem names text ts first middle → ReadsMoreItems names text middle behind rest
        → ReadsList names text ts (joined first behind) rest

  pub data ReadsMoreItems (names : List (List ℕ)) (text : List ℕ) : List Token → Patterns → List Token → Type 0 where
    no_more_items : {ts : List Token} → ReadsMoreItems names text ts no_pattern ts
    one_more_item : {t : Token} {ts middle rest : List Token} {next behind : Patterns}
        → IsOf comma t → ReadsItem names text ts next middle → ReadsMoreItems names text middle behind rest
        → ReadsMoreItems names text (t ∷ ts) (joined next behind) rest

  -- item = tree | forestvar
  pub data ReadsItem (names : List (List ℕ)) (text : List ℕ) : List Token → Patterns → List Token → Type 0 where
    reads_tree : {ts rest : List Token} {p : Patterns} → ReadsTree names text ts p rest → ReadsItem names text ts p rest
    reads_forest_variable : {t : Token} {v : Var} {rest : List Token}
        → IsVariableOf a_forest_variable t v → ReadsItem names text (t ∷ rest) (forest_var_first v no_pattern) rest

-- side = tree { "+" tree }
pub data ReadsMoreTrees (names : List (List ℕ)) (text : List ℕ) : List Token → Patterns → List Token → Type 0 where
  no_more_trees : {ts : List Token} → ReadsMoreTrees names text ts no_pattern ts
  one_more_tree : {t : Token} {ts middle rest : List Token} {next behind : Patterns}
      → IsOf plus t → ReadsTree names text ts next middle → ReadsMoreTrees names text middle behind rest
      → ReadsMoreTrees names text (t ∷ ts) (joined next behind) rest

pub data ReadsSide (names : List (List ℕ)) (text : List ℕ) : List Token → Patterns → List Token → Type 0 where
  reads_side : {ts middle rest : List Token} {first behind : Patterns}
      → ReadsTree names text ts first middle → ReadsMoreTrees names text middle behind rest
      → ReadsSide names text ts (joined first behind) rest

-- a cond of one conj is that conj; of several it is `any` of them in order
abbrev pub any_of : Condition → Conditions → Condition
any_of c no_condition = c
any_of c (condition_first d ds) = combined any (condition_first c (condition_first d ds))

-- a conj of one neg is that neg; of several it is `all` of them in order
abbrev pub all_of : Condition → Conditions → Condition
all_of c no_condition = c
all_of c (condition_first d ds) = combined all (condition_first c (condition_first d ds))

-- the word that stands between two lists that are compared
abbrev pub comparing_word : Comparing → Word
comparing_word within = Dans
comparing_word outside = Hors
comparing_word same = Egal

mutual
  -- cond = conj { -OU- conj }
  pub data ReadsCond (names : List (List ℕ)) (text : List ℕ) : List Token → Condition → List Token → Type 0 where
    reads_cond : {ts middle rest : List Token} {c : Condition} {cs : Conditions}
        → ReadsConj names text ts c middle → ReadsMoreConjs names text middle cs rest
        → ReadsCond names text ts (any_of c cs) rest

  pub data ReadsMoreConjs (names : List (List ℕ)) (text : List ℕ) : List Token → Conditions → List Token → Type 0 where
    no_more_conjs : {ts : List Token} → ReadsMoreConjs names text ts no_condition ts
    one_more_conj : {t : Token} {ts middle rest : List Token} {c : Condition} {cs : Conditions}
        → IsOf (the_word Ou) t → ReadsConj names text ts c middle → ReadsMoreConjs names text middle cs rest
        → ReadsMoreConjs names text (t ∷ ts) (condition_first c cs) rest

  -- conj = neg { -ET- neg }
  pub data ReadsConj (names : List (List ℕ)) (text : List ℕ) : List Token → Condition → List Token → Type 0 where
    reads_conj : {ts middle rest : List Token} {c : Condition} {cs : Conditions}
        → ReadsNeg names text ts c middle → ReadsMoreNegs names text middle cs rest
        → ReadsConj names text ts (all_of c cs) rest

  pub data ReadsMoreNegs (names : List (List ℕ)) (text : List ℕ) : List Token → Conditions → List Token → Type 0 where
    no_more_negs : {ts : List Token} → ReadsMoreNegs names text ts no_condition ts
    one_more_neg : {t : Token} {ts middle rest : List Token} {c : Condition} {cs : Conditions}
        → IsOf (the_word Et) t → ReadsNeg names text ts c middle → ReadsMoreNegs names text middle cs rest
        → ReadsMoreNegs names text (t ∷ ts) (condition_first c cs) rest

  -- neg = [ -NON- ] prim
  pub data ReadsNeg (names : List (List ℕ)) (text : List ℕ) : List Token → Condition → List Token → Type 0 where
    not_negated : {ts rest : List Token} {c : Condition} → ReadsPrim names text ts c rest
        → ReadsNeg names text ts c rest
    reads_negated : {t : Token} {ts rest : List Token} {c : Condition}
        → IsOf (the_word Non) t → ReadsPrim names text ts c rest → ReadsNeg names text (t ∷ ts) (negated c) rest

  -- prim = "(" cond ")" | list ( -DANS- | -HORS- | -EGAL- ) list. Parentheses that group leave no trace.
  pub data ReadsPrim (names : List (List ℕ)) (text : List ℕ) : List Token → Condition → List Token → Type 0 where
    reads_group : {t u : Token} {ts rest : List Token} {c : Condition}
        → IsOf opening t → ReadsCond names text ts c (u ∷ rest) → IsOf closing u → ReadsPrim names text (t ∷ ts) c rest
    reads_compared : {word : Comparing} {t : Token} {ts middle rest : List Token} {a b : Patterns}
        → ReadsList names text ts a (t ∷ middle) → IsOf (the_word (comparing_word word)) t
        → ReadsList names text middle b rest
        → ReadsPrim names text ts (compared word a b) rest
