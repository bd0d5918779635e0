-- What is read of tokens that fit is no higher than they allow. Parentheses with nothing in them, and those that group, leave
-- no trace: a reading has at least the parentheses that are written for what was read.
use Rattle.std.proofs.Common.{ℕ, ◌+◌, ◌≤◌, refl, List, ◌∷◌, arith, Option}
use Rattle.qs_lex.specs.Limits.{most_open}
use Rattle.qs_lex.specs.declared.token.Token.{Token}
use Rattle.qs_pattern.specs.Patterns.{Patterns}
use Rattle.qs_pattern.specs.Conditions.{Condition, Conditions, no_condition, condition_first}
use Rattle.qs_pattern.specs.Rules.{UnmarkedRule}
use Rattle.qs_lex.specs.Grammar.{a_tree_variable, a_forest_variable, the_word, comma, plus, slash, equals, stop}
use Rattle.qs_lex.specs.declared.token.Word.TheVariants.{Et, Ou, Non}
use Rattle.qs_ruletext.specs.Reading.{comparing_word, ReadsTree, reads_node, reads_tree_variable, ReadsSubtrees, no_parentheses, nothing_inside, list_inside, ReadsList, reads_list, ReadsMoreItems, no_more_items, one_more_item, ReadsItem, reads_tree, reads_forest_variable, ReadsMoreTrees, no_more_trees, one_more_tree, ReadsSide, reads_side, any_of, all_of, ReadsCond, reads_cond, ReadsMoreConjs, no_more_conjs, one_more_conj, ReadsConj, reads_conj, ReadsMoreNegs, no_more_negs, one_more_neg, ReadsNeg, not_negated, reads_negated, ReadsPrim, reads_group, reads_compared}
use Rattle.qs_ruletext.specs.Rules.{ReadsCondIfGiven, no_cond, some_cond, ReadsRule, reads_rule}
use Rattle.qs_ruletext.proofs.Nesting.{Fits, below, height, member_height, condition_height, condition_heights, height_if_given, rule_height, below_least, height-joined, looser}
use Rattle.qs_ruletext.proofs.NestingSteps.{keeps, head_keeps, Shows, shows_less, shows_none, shows_one, shows_both, shows_behind, shows_group}

-- trees and lists
mutual
  pub tree_shows : {names : List (List ℕ)} {text : List ℕ} {ts rest : List Token} {p : Patterns} → ReadsTree names text ts p rest → Shows (height p) ts rest
  tree_shows {names} {text} (reads_node {t} {h} {ts} is subtrees) = shows_less (shows_behind t (head_keeps names text t h is) (subtrees_show subtrees)) (omega arith)
  tree_shows (reads_tree_variable {t} {v} {rest} is) = shows_one t rest (keeps a_tree_variable t (λ n. refl) is.of_sort)

  subtrees_show : {names : List (List ℕ)} {text : List ℕ} {ts rest : List Token} {p : Patterns} → ReadsSubtrees names text ts p rest → Shows (below p (height p)) ts rest
  subtrees_show (no_parentheses {ts}) = shows_none ts
  subtrees_show (nothing_inside {t} {u} {rest} opens closes) = shows_less (shows_group t u opens (shows_none (u ∷ rest)) closes) (omega arith)
  subtrees_show (list_inside {t} {u} {kids = kids} opens inside closes) = shows_less (shows_group t u opens (list_shows inside) closes) (below_least kids (height kids))

  pub list_shows : {names : List (List ℕ)} {text : List ℕ} {ts rest : List Token} {p : Patterns} → ReadsList names text ts p rest → Shows (height p) ts rest
  list_shows (reads_list {first = first} {behind = behind} item more) = shows_less (shows_both (item_shows item) (more_items_show more)) (omega (arith, height-joined first behind))

  more_items_show : {names : List (List ℕ)} {text : List ℕ} {ts rest : List Token} {p : Patterns} → ReadsMoreItems names text ts p rest → Shows (height p) ts rest
  more_items_show (no_more_items {ts}) = shows_none ts
  more_items_show (one_more_item {t} {next = next} {behind = behind} is item more) =
      shows_less (shows_behind t (keeps comma t (λ n. refl) is) (shows_both (item_shows item) (more_items_show more))) (omega (arith, height-joined next behind))

  item_shows : {names : List (List ℕ)} {text : List ℕ} {ts rest : List Token} {p : Patterns} → ReadsItem names text ts p rest → Shows (height p) ts rest
  item_shows (reads_tree r) = tree_shows r
  item_shows (reads_forest_variable {t} {v} {rest} is) = shows_one t rest (keeps a_forest_variable t (λ n. refl) is.of_sort)

-- sides
more_trees_show : {names : List (List ℕ)} {text : List ℕ} {ts rest : List Token} {p : Patterns} → ReadsMoreTrees names text ts p rest → Shows (height p) ts rest
more_trees_show (no_more_trees {ts}) = shows_none ts
more_trees_show (one_more_tree {t} {next = next} {behind = behind} is tree more) =
    shows_less (shows_behind t (keeps plus t (λ n. refl) is) (shows_both (tree_shows tree) (more_trees_show more))) (omega (arith, height-joined next behind))

pub side_shows : {names : List (List ℕ)} {text : List ℕ} {ts rest : List Token} {p : Patterns} → ReadsSide names text ts p rest → Shows (height p) ts rest
side_shows (reads_side {first = first} {behind = behind} tree more) = shows_less (shows_both (tree_shows tree) (more_trees_show more)) (omega (arith, height-joined first behind))

-- a condition as a member of one of this tightness
abbrev member : ℕ → Condition → ℕ
member outer c = member_height outer c (condition_height c)

-- one of several, or one alone
any_least : (c : Condition) (cs : Conditions) → condition_height (any_of c cs) ≤ condition_heights 1 (condition_first c cs)
any_least c no_condition = let least = (looser c (condition_height c)).0 in omega (arith, least)
any_least c (condition_first d ds) = omega arith

all_least : (c : Condition) (cs : Conditions) → member 1 (all_of c cs) ≤ condition_heights 2 (condition_first c cs)
all_least c no_condition = let more = (looser c (condition_height c)).1 in omega (arith, more)
all_least c (condition_first d ds) = omega arith

-- conditions
mutual
  pub cond_shows : {names : List (List ℕ)} {text : List ℕ} {ts rest : List Token} {c : Condition} → ReadsCond names text ts c rest → Shows (condition_height c) ts rest
  cond_shows (reads_cond {c = c} {cs = cs} first more) = shows_less (shows_both (conj_shows first) (more_conjs_show more)) (any_least c cs)

  more_conjs_show : {names : List (List ℕ)} {text : List ℕ} {ts rest : List Token} {cs : Conditions} → ReadsMoreConjs names text ts cs rest → Shows (condition_heights 1 cs) ts rest
  more_conjs_show (no_more_conjs {ts}) = shows_none ts
  more_conjs_show (one_more_conj {t} is next more) = shows_behind t (keeps (the_word Ou) t (λ n. refl) is) (shows_both (conj_shows next) (more_conjs_show more))

  conj_shows : {names : List (List ℕ)} {text : List ℕ} {ts rest : List Token} {c : Condition} → ReadsConj names text ts c rest → Shows (member 1 c) ts rest
  conj_shows (reads_conj {c = c} {cs = cs} first more) = shows_less (shows_both (neg_shows first) (more_negs_show more)) (all_least c cs)

  more_negs_show : {names : List (List ℕ)} {text : List ℕ} {ts rest : List Token} {cs : Conditions} → ReadsMoreNegs names text ts cs rest → Shows (condition_heights 2 cs) ts rest
  more_negs_show (no_more_negs {ts}) = shows_none ts
  more_negs_show (one_more_neg {t} is next more) = shows_behind t (keeps (the_word Et) t (λ n. refl) is) (shows_both (neg_shows next) (more_negs_show more))

  neg_shows : {names : List (List ℕ)} {text : List ℕ} {ts rest : List Token} {c : Condition} → ReadsNeg names text ts c rest → Shows (member 2 c) ts rest
  neg_shows (not_negated {c = c} r) = shows_less (prim_shows r) (looser c (condition_height c)).2
  neg_shows (reads_negated {t} is r) = shows_behind t (keeps (the_word Non) t (λ n. refl) is) (prim_shows r)

  prim_shows : {names : List (List ℕ)} {text : List ℕ} {ts rest : List Token} {c : Condition} → ReadsPrim names text ts c rest → Shows (member 3 c) ts rest
  prim_shows (reads_group {t} {u} {c = c} opens inside closes) = shows_less (shows_group t u opens (cond_shows inside) closes) (looser c (condition_height c)).3
  prim_shows (reads_compared {word} {t} a is b) = shows_both (list_shows a) (shows_behind t (keeps (the_word (comparing_word word)) t (λ n. refl) is) (list_shows b))

-- rules
given_shows : {names : List (List ℕ)} {text : List ℕ} {ts rest : List Token} {condition : Option Condition} → ReadsCondIfGiven names text ts condition rest → Shows (height_if_given condition) ts rest
given_shows (no_cond {ts}) = shows_none ts
given_shows (some_cond {t} is c) = shows_behind t (keeps slash t (λ n. refl) is) (cond_shows c)

pub rule_shows : {names : List (List ℕ)} {text : List ℕ} {ts rest : List Token} {r : UnmarkedRule} → ReadsRule names text ts r rest → Shows (rule_height r) ts rest
rule_shows (reads_rule {t} {u} {rest = rest} left is right given stops) =
    shows_less
    (shows_both (side_shows left) (shows_behind t (keeps equals t (λ n. refl) is) (shows_both (side_shows right) (shows_both (given_shows given) (shows_one u rest (keeps stop u (λ n. refl) stops))))))
    (omega arith)

-- the same in plain words: where the tokens of a rule fit, as many more parentheses as the rule needs may be open
pub rule_read_fits : {names : List (List ℕ)} {text : List ℕ} {ts rest : List Token} {r : UnmarkedRule} → ReadsRule names text ts r rest
    → (depth : ℕ) → depth ≤ most_open → Fits depth ts → (rule_height r + depth ≤ most_open) × Fits depth rest
rule_read_fits reads = (rule_shows reads).fits
