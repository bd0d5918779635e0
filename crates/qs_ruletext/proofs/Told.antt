-- What is known of what was read: its labels are named, its variables stand at places of their classes, sides are not empty
-- and have no forest variable at their top, conditions join at least two wherever they join and compare no empty lists, and
-- each cell is a token.
use Rattle.std.proofs.Common.{◌≡◌, ℕ, ◌+◌, ◌≤◌, Bool, true, false, cond, refl, sym, ◌∙◌, ap, List, [], ◌∷◌, length, arith, Option}
use Rattle.std.specs.Prelude.{◌||◌, IsTrue}
use Rattle.std.specs.Int.{is_in_range}
use Rattle.std.proofs.lemmas.Bool.{false≢true}
use Rattle.std.proofs.lemmas.Bool.Decides.{nat_tests}
use Rattle.std.proofs.lemmas.Option.{slice_get_within}
use Rattle.qs_lex.specs.declared.token.Token.{Token}
use Rattle.qs_lex.specs.Grammar.{a_label_variable, a_tree_variable, a_forest_variable, sort_of}
use Rattle.qs_pattern.specs.declared.variable.Var.{Var}
use Rattle.qs_pattern.specs.declared.pattern.Head.{Head}
use Rattle.qs_pattern.specs.declared.pattern.Head.TheVariants as head
use Rattle.qs_pattern.specs.Variables.{IsLabelVar, IsTreeVar, IsForestVar}
use Rattle.qs_pattern.specs.Conditions.{Condition, Conditions, no_condition, condition_first, IsConditionInClass, HasEnoughMembers, HaveEnoughMembers}
use Rattle.qs_pattern.specs.working.Conditions.{EachListOfAll}
use Rattle.qs_pattern.specs.Rules.{UnmarkedRule}
use Rattle.qs_pattern.specs.Patterns.{Patterns, no_pattern, node_first, tree_var_first, forest_var_first, count, IsHeadInClass, AreInClass, NoForestAtTop}
use Rattle.qs_ruletext.specs.Reading.{IsHeadOf, IsVariableOf, joined, ReadsTree, reads_node, reads_tree_variable, ReadsSubtrees, no_parentheses, nothing_inside, list_inside, ReadsList, reads_list, ReadsMoreItems, no_more_items, one_more_item, ReadsItem, reads_tree, reads_forest_variable, ReadsMoreTrees, no_more_trees, one_more_tree, ReadsSide, reads_side, any_of, all_of, ReadsCond, reads_cond, ReadsMoreConjs, no_more_conjs, one_more_conj, ReadsConj, reads_conj, ReadsMoreNegs, no_more_negs, one_more_neg, ReadsNeg, not_negated, reads_negated, ReadsPrim, reads_group, reads_compared}
use Rattle.qs_ruletext.specs.Rules.{ReadsCondIfGiven, no_cond, some_cond, ReadsRule, reads_rule, ReadsRules, IsWellRead, IsWellReadIfGiven}
use Rattle.qs_ruletext.specs.WrittenRules.{WrittenRule}
use Rattle.std.specs.List.{All}
use Rattle.std.proofs.lemmas.List.Elements.{All-nil, All-cons}
use Rattle.qs_ruletext.proofs.FullLists.{full_cond}
use Rattle.qs_pattern.specs.Named.{IsHeadNamed, ArePatternsNamed, IsConditionNamed}
use Rattle.qs_pattern.specs.working.Named.{AreConditionsNamed}

-- the class of a variable by the sort of its token
label_case : (a b : Bool) → cond a a_label_variable (cond b a_tree_variable a_forest_variable) ≡ a_label_variable → a ≡ true
label_case true b e = refl
label_case false true e = absurd cc
label_case false false e = absurd cc

tree_case : (a b : Bool) → cond a a_label_variable (cond b a_tree_variable a_forest_variable) ≡ a_tree_variable → b ≡ true
tree_case true b e = absurd cc
tree_case false true e = refl
tree_case false false e = absurd cc

forest_case : (a b : Bool) → cond a a_label_variable (cond b a_tree_variable a_forest_variable) ≡ a_forest_variable → (a ≡ false) × (b ≡ false)
forest_case true b e = absurd cc
forest_case false true e = absurd cc
forest_case false false e = (refl, refl)

in_range : (lo hi l : ℕ) → is_in_range lo hi l ≡ true → (lo ≤ l) × (l ≤ hi)
in_range lo hi l e = (grind (arith, nat_tests, e), grind (arith, nat_tests, e))

last_of_three : (a b c : Bool) → a ≡ false → b ≡ false → IsTrue ((a || b) || c) → c ≡ true
last_of_three false false true p q h = refl
last_of_three false false false p q h = absurd (false≢true h)
last_of_three true b c p q h = absurd cc
last_of_three false true c p q h = absurd cc

sort_label : (t : Token) (v : Var) → IsVariableOf a_label_variable t v → IsLabelVar v
sort_label t v is = in_range 65 70 v.letter (label_case (is_in_range 65 70 v.letter) (is_in_range 73 78 v.letter) (sym (ap sort_of is.variable) ∙ is.of_sort))

sort_tree : (t : Token) (v : Var) → IsVariableOf a_tree_variable t v → IsTreeVar v
sort_tree t v is = in_range 73 78 v.letter (tree_case (is_in_range 65 70 v.letter) (is_in_range 73 78 v.letter) (sym (ap sort_of is.variable) ∙ is.of_sort))

sort_forest : (t : Token) (v : Var) → IsVariableOf a_forest_variable t v → IsForestVar v
sort_forest t v is =
    let neither = forest_case (is_in_range 65 70 v.letter) (is_in_range 73 78 v.letter) (sym (ap sort_of is.variable) ∙ is.of_sort) in
    in_range 85 90 v.letter (last_of_three (is_in_range 65 70 v.letter) (is_in_range 73 78 v.letter) (is_in_range 85 90 v.letter) neither.0 neither.1 v.known.0)

-- patterns
abbrev Told : ℕ → Patterns → Type 0
Told n p = ArePatternsNamed n p × AreInClass p

told_joined : (n : ℕ) (p q : Patterns) → Told n p → Told n q → Told n (joined p q)
told_joined n no_pattern q a b = b
told_joined n (node_first h kids p) q a b = let c = told_joined n p q (a.0.2, a.1.2) b in ((a.0.0, a.0.1, c.0), (a.1.0, a.1.1, c.1))
told_joined n (tree_var_first v p) q a b = let c = told_joined n p q (a.0, a.1.1) b in (c.0, (a.1.0, c.1))
told_joined n (forest_var_first v p) q a b = let c = told_joined n p q (a.0, a.1.1) b in (c.0, (a.1.0, c.1))

told_head : (names : List (List ℕ)) (text : List ℕ) (t : Token) (h : Head) → IsHeadOf names text t h → IsHeadNamed (length names) h × IsHeadInClass h
told_head names text t (head.Label l) is = (slice_get_within names l.0 is.spelling is.named, tt)
told_head names text t (head.Var v) is = (tt, sort_label t v is)

mutual
  told_tree : {names : List (List ℕ)} {text : List ℕ} {ts rest : List Token} {p : Patterns} → ReadsTree names text ts p rest → Told (length names) p
  told_tree {names} {text} (reads_node {t} {h} is below) = let a = told_head names text t h is in let b = told_subtrees below in ((a.0, b.0, tt), (a.1, b.1, tt))
  told_tree (reads_tree_variable {t} {v} is) = (tt, (sort_tree t v is, tt))

  told_subtrees : {names : List (List ℕ)} {text : List ℕ} {ts rest : List Token} {p : Patterns} → ReadsSubtrees names text ts p rest → Told (length names) p
  told_subtrees no_parentheses = (tt, tt)
  told_subtrees (nothing_inside e f) = (tt, tt)
  told_subtrees (list_inside e l f) = told_list l

  told_list : {names : List (List ℕ)} {text : List ℕ} {ts rest : List Token} {p : Patterns} → ReadsList names text ts p rest → Told (length names) p
  told_list {names} (reads_list {first} {behind} item more) = told_joined (length names) first behind (told_item item) (told_items more)

  told_items : {names : List (List ℕ)} {text : List ℕ} {ts rest : List Token} {p : Patterns} → ReadsMoreItems names text ts p rest → Told (length names) p
  told_items no_more_items = (tt, tt)
  told_items {names} (one_more_item {next} {behind} e item more) = told_joined (length names) next behind (told_item item) (told_items more)

  told_item : {names : List (List ℕ)} {text : List ℕ} {ts rest : List Token} {p : Patterns} → ReadsItem names text ts p rest → Told (length names) p
  told_item (reads_tree tree) = told_tree tree
  told_item (reads_forest_variable {t} {v} is) = (tt, (sort_forest t v is, tt))

-- sides
abbrev Top : Patterns → Type 0
Top p = (1 ≤ count p) × NoForestAtTop p

tree_top : {names : List (List ℕ)} {text : List ℕ} {ts rest : List Token} {p : Patterns} → ReadsTree names text ts p rest → Top p
tree_top (reads_node is below) = (omega arith, tt)
tree_top (reads_tree_variable is) = (omega arith, tt)

joined_top : (p q : Patterns) → NoForestAtTop p → NoForestAtTop q → (count (joined p q) ≡ count p + count q) × NoForestAtTop (joined p q)
joined_top no_pattern q a b = (omega arith, b)
joined_top (node_first h kids p) q a b = let c = joined_top p q a b in (omega (arith, c.0), c.1)
joined_top (tree_var_first v p) q a b = let c = joined_top p q a b in (omega (arith, c.0), c.1)
joined_top (forest_var_first v p) q a b = absurd a

told_trees : {names : List (List ℕ)} {text : List ℕ} {ts rest : List Token} {p : Patterns} → ReadsMoreTrees names text ts p rest → Told (length names) p × NoForestAtTop p
told_trees no_more_trees = ((tt, tt), tt)
told_trees {names} (one_more_tree {next} {behind} e tree more) =
    let others = told_trees more in
    (told_joined (length names) next behind (told_tree tree) others.0, (joined_top next behind (tree_top tree).1 others.1).1)

told_side : {names : List (List ℕ)} {text : List ℕ} {ts rest : List Token} {p : Patterns} → ReadsSide names text ts p rest → Told (length names) p × Top p
told_side {names} (reads_side {first} {behind} tree more) =
    let others = told_trees more in
    let top = tree_top tree in
    let both = joined_top first behind top.1 others.1 in
    (told_joined (length names) first behind (told_tree tree) others.0, (omega (arith, both.0, top.0), both.1))

-- conditions
abbrev ToldCondition : ℕ → Condition → Type 0
ToldCondition n c = IsConditionNamed n c × IsConditionInClass c × HasEnoughMembers c

abbrev ToldConditions : ℕ → Conditions → Type 0
ToldConditions n cs = AreConditionsNamed n cs × EachListOfAll AreInClass cs × HaveEnoughMembers cs

told_any : (n : ℕ) (c : Condition) (cs : Conditions) → ToldCondition n c → ToldConditions n cs → ToldCondition n (any_of c cs)
told_any n c no_condition a b = a
told_any n c (condition_first d ds) a b = ((a.0, b.0), (a.1, b.1), (omega arith, (a.2, b.2)))

told_all : (n : ℕ) (c : Condition) (cs : Conditions) → ToldCondition n c → ToldConditions n cs → ToldCondition n (all_of c cs)
told_all n c no_condition a b = a
told_all n c (condition_first d ds) a b = ((a.0, b.0), (a.1, b.1), (omega arith, (a.2, b.2)))

mutual
  told_cond : {names : List (List ℕ)} {text : List ℕ} {ts rest : List Token} {c : Condition} → ReadsCond names text ts c rest → ToldCondition (length names) c
  told_cond {names} (reads_cond {c} {cs} first more) = told_any (length names) c cs (told_conj first) (told_conjs more)

  told_conjs : {names : List (List ℕ)} {text : List ℕ} {ts rest : List Token} {cs : Conditions} → ReadsMoreConjs names text ts cs rest → ToldConditions (length names) cs
  told_conjs no_more_conjs = (tt, tt, tt)
  told_conjs (one_more_conj e next more) = let a = told_conj next in let b = told_conjs more in ((a.0, b.0), (a.1, b.1), (a.2, b.2))

  told_conj : {names : List (List ℕ)} {text : List ℕ} {ts rest : List Token} {c : Condition} → ReadsConj names text ts c rest → ToldCondition (length names) c
  told_conj {names} (reads_conj {c} {cs} first more) = told_all (length names) c cs (told_neg first) (told_negs more)

  told_negs : {names : List (List ℕ)} {text : List ℕ} {ts rest : List Token} {cs : Conditions} → ReadsMoreNegs names text ts cs rest → ToldConditions (length names) cs
  told_negs no_more_negs = (tt, tt, tt)
  told_negs (one_more_neg e next more) = let a = told_neg next in let b = told_negs more in ((a.0, b.0), (a.1, b.1), (a.2, b.2))

  told_neg : {names : List (List ℕ)} {text : List ℕ} {ts rest : List Token} {c : Condition} → ReadsNeg names text ts c rest → ToldCondition (length names) c
  told_neg (not_negated p) = told_prim p
  told_neg (reads_negated e p) = told_prim p

  told_prim : {names : List (List ℕ)} {text : List ℕ} {ts rest : List Token} {c : Condition} → ReadsPrim names text ts c rest → ToldCondition (length names) c
  told_prim (reads_group e c f) = told_cond c
  told_prim (reads_compared a e b) = let x = told_list a in let y = told_list b in ((x.0, y.0), (x.1, y.1), tt)

pub told_rule : {names : List (List ℕ)} {text : List ℕ} {ts rest : List Token} {r : UnmarkedRule} → ReadsRule names text ts r rest → IsWellRead (length names) r
told_rule (reads_rule {left} {right} {condition} l e r given f) =
    let a = told_side l in
    let b = told_side r in
    let c = told_given given in
    record {
      left = record { some = a.1.0; no_forest_at_top = a.1.1; in_class = a.0.1; named = a.0.0 };
      right = record { some = b.1.0; no_forest_at_top = b.1.1; in_class = b.0.1; named = b.0.0 };
      condition = c;
    }
  where
    told_given : {names : List (List ℕ)} {text : List ℕ} {us vs : List Token} {c : Option Condition} → ReadsCondIfGiven names text us c vs → IsWellReadIfGiven (length names) c
    told_given no_cond = tt
    told_given (some_cond e c) = let d = told_cond c in record { named = d.0; in_class = d.1; enough = d.2; lists = full_cond c }

pub told_rules : (names : List (List ℕ)) (text : List ℕ) (ts rest : List Token) (raws : List WrittenRule) → ReadsRules names text ts raws rest
    → All (λ raw. IsWellRead (length names) raw.rule) raws
told_rules names text ts rest [] e = All-nil (λ raw. IsWellRead (length names) raw.rule)
told_rules names text ts rest (raw ∷ raws) h = All-cons (λ raw. IsWellRead (length names) raw.rule) raw raws (told_rule h.1.rule) (told_rules names text h.0 rest raws h.2)
