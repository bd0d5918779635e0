-- What is read is whole by the grammar.
use Rattle.std.proofs.Common.{ℕ, subst, List, [], ◌∷◌, Option}
use Rattle.qs_lex.specs.declared.token.Token.{Token}
use Rattle.qs_lex.specs.declared.token.Word.TheVariants.{Et, Ou}
use Rattle.qs_lex.specs.Grammar.{a_label, a_label_variable, comma, plus, the_word, one, part, ◌·◌, ◌∣◌, repeated, IsWhole, whole_token, whole_part, whole_sequence, whole_this, whole_other, left_out, not_left_out, no_more, one_more}
use Rattle.qs_pattern.specs.declared.pattern.Head.{Head}
use Rattle.qs_pattern.specs.declared.pattern.Head.TheVariants as head
use Rattle.qs_pattern.specs.Patterns.{Patterns}
use Rattle.qs_pattern.specs.Conditions.{Condition, Conditions}
use Rattle.qs_pattern.specs.Rules.{UnmarkedRule}
use Rattle.qs_ruletext.specs.WrittenRules.{WrittenRule}
use Rattle.qs_ruletext.specs.Grammar.{rule, side, tree, list, item, cond, conj, neg, prim, line}
use Rattle.qs_ruletext.specs.Reading.{IsHeadOf, ReadsTree, reads_node, reads_tree_variable, ReadsSubtrees, no_parentheses, nothing_inside, list_inside, ReadsList, reads_list, ReadsMoreItems, no_more_items, one_more_item, ReadsItem, reads_tree, reads_forest_variable, ReadsMoreTrees, no_more_trees, one_more_tree, ReadsSide, reads_side, ReadsCond, reads_cond, ReadsMoreConjs, no_more_conjs, one_more_conj, ReadsConj, reads_conj, ReadsMoreNegs, no_more_negs, one_more_neg, ReadsNeg, not_negated, reads_negated, ReadsPrim, reads_group, reads_compared}
use Rattle.qs_ruletext.specs.Rules.{ReadsCondIfGiven, no_cond, some_cond, ReadsRule, reads_rule, ReadsRules}
use Rattle.qs_reader.proofs.Tokens.{label_sort}
use Rattle.qs_ruletext.specs.working.Readers.{in_parentheses, condition_if_any}
use Rattle.qs_ruletext.proofs.ComparingWords.{comparing_whole}

head_whole : (names : List (List ℕ)) (text : List ℕ) (t : Token) (h : Head) (rest : List Token) → IsHeadOf names text t h → IsWhole line (one a_label ∣ one a_label_variable) (t ∷ rest) rest
head_whole names text t (head.Label l) rest is = whole_this (whole_token (label_sort text t is.spelling is.of_token))
head_whole names text t (head.Var v) rest is = whole_other (whole_token is.of_sort)

mutual
  pub tree_whole : {names : List (List ℕ)} {text : List ℕ} {ts rest : List Token} {p : Patterns} → ReadsTree names text ts p rest → IsWhole line (part tree) ts rest
  tree_whole {names} {text} (reads_node {t} {h} {ts} is below) = whole_part (whole_this (whole_sequence (head_whole names text t h ts is) (subtrees_whole below)))
  tree_whole (reads_tree_variable is) = whole_part (whole_other (whole_token is.of_sort))

  subtrees_whole : {names : List (List ℕ)} {text : List ℕ} {ts rest : List Token} {p : Patterns} → ReadsSubtrees names text ts p rest → IsWhole line in_parentheses ts rest
  subtrees_whole no_parentheses = left_out
  subtrees_whole (nothing_inside e f) = not_left_out (whole_sequence (whole_token e) (whole_sequence left_out (whole_token f)))
  subtrees_whole (list_inside e l f) = not_left_out (whole_sequence (whole_token e) (whole_sequence (not_left_out (list_whole l)) (whole_token f)))

  pub list_whole : {names : List (List ℕ)} {text : List ℕ} {ts rest : List Token} {p : Patterns} → ReadsList names text ts p rest → IsWhole line (part list) ts rest
  list_whole (reads_list first more) = whole_part (whole_sequence (item_whole first) (more_items_whole more))

  more_items_whole : {names : List (List ℕ)} {text : List ℕ} {ts rest : List Token} {p : Patterns} → ReadsMoreItems names text ts p rest → IsWhole line (repeated (one comma · part item)) ts rest
  more_items_whole no_more_items = no_more
  more_items_whole (one_more_item e next more) = one_more (whole_sequence (whole_token e) (item_whole next)) (more_items_whole more)

  item_whole : {names : List (List ℕ)} {text : List ℕ} {ts rest : List Token} {p : Patterns} → ReadsItem names text ts p rest → IsWhole line (part item) ts rest
  item_whole (reads_tree t) = whole_part (whole_this (tree_whole t))
  item_whole (reads_forest_variable is) = whole_part (whole_other (whole_token is.of_sort))

more_trees_whole : {names : List (List ℕ)} {text : List ℕ} {ts rest : List Token} {p : Patterns} → ReadsMoreTrees names text ts p rest → IsWhole line (repeated (one plus · part tree)) ts rest
more_trees_whole no_more_trees = no_more
more_trees_whole (one_more_tree e next more) = one_more (whole_sequence (whole_token e) (tree_whole next)) (more_trees_whole more)

pub side_whole : {names : List (List ℕ)} {text : List ℕ} {ts rest : List Token} {p : Patterns} → ReadsSide names text ts p rest → IsWhole line (part side) ts rest
side_whole (reads_side first more) = whole_part (whole_sequence (tree_whole first) (more_trees_whole more))

mutual
  pub cond_whole : {names : List (List ℕ)} {text : List ℕ} {ts rest : List Token} {c : Condition} → ReadsCond names text ts c rest → IsWhole line (part cond) ts rest
  cond_whole (reads_cond first more) = whole_part (whole_sequence (conj_whole first) (more_conjs_whole more))

  more_conjs_whole : {names : List (List ℕ)} {text : List ℕ} {ts rest : List Token} {cs : Conditions} → ReadsMoreConjs names text ts cs rest → IsWhole line (repeated (one (the_word Ou) · part conj)) ts rest
  more_conjs_whole no_more_conjs = no_more
  more_conjs_whole (one_more_conj e next more) = one_more (whole_sequence (whole_token e) (conj_whole next)) (more_conjs_whole more)

  pub conj_whole : {names : List (List ℕ)} {text : List ℕ} {ts rest : List Token} {c : Condition} → ReadsConj names text ts c rest → IsWhole line (part conj) ts rest
  conj_whole (reads_conj first more) = whole_part (whole_sequence (neg_whole first) (more_negs_whole more))

  more_negs_whole : {names : List (List ℕ)} {text : List ℕ} {ts rest : List Token} {cs : Conditions} → ReadsMoreNegs names text ts cs rest → IsWhole line (repeated (one (the_word Et) · part neg)) ts rest
  more_negs_whole no_more_negs = no_more
  more_negs_whole (one_more_neg e next more) = one_more (whole_sequence (whole_token e) (neg_whole next)) (more_negs_whole more)

  pub neg_whole : {names : List (List ℕ)} {text : List ℕ} {ts rest : List Token} {c : Condition} → ReadsNeg names text ts c rest → IsWhole line (part neg) ts rest
  neg_whole (not_negated p) = whole_part (whole_sequence left_out (prim_whole p))
  neg_whole (reads_negated e p) = whole_part (whole_sequence (not_left_out (whole_token e)) (prim_whole p))

  prim_whole : {names : List (List ℕ)} {text : List ℕ} {ts rest : List Token} {c : Condition} → ReadsPrim names text ts c rest → IsWhole line (part prim) ts rest
  prim_whole (reads_group e c f) = whole_part (whole_this (whole_sequence (whole_token e) (whole_sequence (cond_whole c) (whole_token f))))
  prim_whole (reads_compared {word} a e b) = whole_part (whole_other (whole_sequence (list_whole a) (whole_sequence (comparing_whole word e) (list_whole b))))

given_whole : {names : List (List ℕ)} {text : List ℕ} {ts rest : List Token} {c : Option Condition} → ReadsCondIfGiven names text ts c rest → IsWhole line condition_if_any ts rest
given_whole no_cond = left_out
given_whole (some_cond e c) = not_left_out (whole_sequence (whole_token e) (cond_whole c))

pub rule_whole : {names : List (List ℕ)} {text : List ℕ} {ts rest : List Token} {r : UnmarkedRule} → ReadsRule names text ts r rest → IsWhole line (part rule) ts rest
rule_whole (reads_rule left e right given f) = whole_part (whole_sequence (side_whole left) (whole_sequence (whole_token e) (whole_sequence (side_whole right) (whole_sequence (given_whole given) (whole_token f)))))

pub rules_whole : (names : List (List ℕ)) (text : List ℕ) (ts rest : List Token) (rules : List WrittenRule) → ReadsRules names text ts rules rest → IsWhole line (repeated (part rule)) ts rest
rules_whole names text ts rest [] e = subst (λ us. IsWhole line (repeated (part rule)) ts us) e no_more
rules_whole names text ts rest (r ∷ rules) h = one_more (rule_whole h.1.rule) (rules_whole names text h.0 rest rules h.2)
