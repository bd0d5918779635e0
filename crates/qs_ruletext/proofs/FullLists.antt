-- Each list that was read in a condition has a pattern.
use Rattle.std.proofs.Common.{ℕ, ◌≤◌, List, arith}
use Rattle.qs_lex.specs.declared.token.Token.{Token}
use Rattle.qs_pattern.specs.Patterns.{Patterns, no_pattern, node_first, tree_var_first, forest_var_first, count}
use Rattle.qs_pattern.specs.Conditions.{Condition, Conditions, no_condition, condition_first}
use Rattle.qs_ruletext.specs.Reading.{joined, reads_node, reads_tree_variable, ReadsList, reads_list, ReadsItem, reads_tree, reads_forest_variable, any_of, all_of, ReadsCond, reads_cond, ReadsMoreConjs, no_more_conjs, one_more_conj, ReadsConj, reads_conj, ReadsMoreNegs, no_more_negs, one_more_neg, ReadsNeg, not_negated, reads_negated, ReadsPrim, reads_group, reads_compared}
use Rattle.qs_ruletext.specs.Written.{HasFullLists}
use Rattle.qs_ruletext.specs.working.Written.{HaveFullLists}

no_fewer : (p q : Patterns) → count p ≤ count (joined p q)
no_fewer no_pattern q = omega arith
no_fewer (node_first h kids p) q = omega (arith, no_fewer p q)
no_fewer (tree_var_first v p) q = omega (arith, no_fewer p q)
no_fewer (forest_var_first v p) q = omega (arith, no_fewer p q)

some_in_item : {names : List (List ℕ)} {text : List ℕ} {ts rest : List Token} {p : Patterns} → ReadsItem names text ts p rest → 1 ≤ count p
some_in_item (reads_tree (reads_node is below)) = omega arith
some_in_item (reads_tree (reads_tree_variable is)) = omega arith
some_in_item (reads_forest_variable is) = omega arith

some_in_list : {names : List (List ℕ)} {text : List ℕ} {ts rest : List Token} {p : Patterns} → ReadsList names text ts p rest → 1 ≤ count p
some_in_list (reads_list {first} {behind} item more) = omega (arith, some_in_item item, no_fewer first behind)

full_any : (c : Condition) (cs : Conditions) → HasFullLists c → HaveFullLists cs → HasFullLists (any_of c cs)
full_any c no_condition a b = a
full_any c (condition_first d ds) a b = (a, b)

full_all : (c : Condition) (cs : Conditions) → HasFullLists c → HaveFullLists cs → HasFullLists (all_of c cs)
full_all c no_condition a b = a
full_all c (condition_first d ds) a b = (a, b)

mutual
  pub full_cond : {names : List (List ℕ)} {text : List ℕ} {ts rest : List Token} {c : Condition} → ReadsCond names text ts c rest → HasFullLists c
  full_cond (reads_cond {c} {cs} first more) = full_any c cs (full_conj first) (full_conjs more)

  full_conjs : {names : List (List ℕ)} {text : List ℕ} {ts rest : List Token} {cs : Conditions} → ReadsMoreConjs names text ts cs rest → HaveFullLists cs
  full_conjs no_more_conjs = tt
  full_conjs (one_more_conj e next more) = (full_conj next, full_conjs more)

  full_conj : {names : List (List ℕ)} {text : List ℕ} {ts rest : List Token} {c : Condition} → ReadsConj names text ts c rest → HasFullLists c
  full_conj (reads_conj {c} {cs} first more) = full_all c cs (full_neg first) (full_negs more)

  full_negs : {names : List (List ℕ)} {text : List ℕ} {ts rest : List Token} {cs : Conditions} → ReadsMoreNegs names text ts cs rest → HaveFullLists cs
  full_negs no_more_negs = tt
  full_negs (one_more_neg e next more) = (full_neg next, full_negs more)

  full_neg : {names : List (List ℕ)} {text : List ℕ} {ts rest : List Token} {c : Condition} → ReadsNeg names text ts c rest → HasFullLists c
  full_neg (not_negated p) = full_prim p
  full_neg (reads_negated e p) = full_prim p

  full_prim : {names : List (List ℕ)} {text : List ℕ} {ts rest : List Token} {c : Condition} → ReadsPrim names text ts c rest → HasFullLists c
  full_prim (reads_group e c f) = full_cond c
  full_prim (reads_compared a e b) = (some_in_list a, some_in_list b)
