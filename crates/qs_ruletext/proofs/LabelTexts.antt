-- The labels of a rule and the texts of its tokens. The label tokens of a rule that is read have the texts of its labels, in
-- the order in which these are written. And the names grow by these texts alone: whichever tokens have the same texts in the
-- same order, of whichever text, let the names grow alike.
use Rattle.std.proofs.Common.{◌≡◌, ℕ, ◌<◌, ◌⊎◌, inl, inr, ⊎_elim, false, refl, sym, ◌∙◌, ap, subst, List, [], ◌∷◌, ◌++◌, length, map, arith, Option, Some, None, unwrap_or, Contains, append_assoc}
use Rattle.std.proofs.lemmas.List.{append-nil, map-append}
use Rattle.std.proofs.lemmas.List.Elements.{Contains-append_left, Contains-append_right, Contains-append_cases, Contains-push, Contains-push_cases, Contains-get_or}
use Rattle.std.proofs.lemmas.Option.{slice_get-get_or, slice_get_within, unwrap_or-slice_get}
use Rattle.qs_lex.specs.declared.token.Token.{Token}
use Rattle.qs_lex.specs.declared.token.Word.TheVariants.{Et, Ou, Non}
use Rattle.qs_lex.specs.Tokens.{bytes_of, IsLabel, HasLabelText}
use Rattle.qs_lex.specs.Grammar.{Sort, a_label, a_label_variable, a_tree_variable, a_forest_variable, the_word, opening, closing, comma, plus, slash, equals, stop, IsOf}
use Rattle.qs_lex.specs.Expecting.{same_sort}
use Rattle.qs_lex.proofs.Quotes.{one_label_text}
use Rattle.qs_tree.specs.declared.cell.Label.{Label}
use Rattle.qs_tree.specs.Text.{name_of}
use Rattle.qs_tree.specs.Lists.{◌∈◌}
use Rattle.qs_tree.proofs.Members.{from_append, from_map, in_at}
use Rattle.qs_pattern.specs.declared.pattern.Head.{Head}
use Rattle.qs_pattern.specs.declared.pattern.Head.TheVariants as head
use Rattle.qs_pattern.specs.Patterns.{Patterns, no_pattern, node_first, tree_var_first, forest_var_first}
use Rattle.qs_pattern.specs.Conditions.{Condition, Conditions, no_condition, condition_first, over_lists, over_all_lists}
use Rattle.qs_pattern.specs.Rules.{UnmarkedRule}
use Rattle.qs_ruletext.specs.WrittenRules.{WrittenRule}
use Rattle.qs_reader.specs.Names.{IsLabelOf, AddsName, AddsNameOf, NamesGrow}
use Rattle.qs_ruletext.specs.Reading.{comparing_word, IsHeadOf, joined, ReadsTree, reads_node, reads_tree_variable, ReadsSubtrees, no_parentheses, nothing_inside, list_inside, ReadsList, reads_list, ReadsMoreItems, no_more_items, one_more_item, ReadsItem, reads_tree, reads_forest_variable, ReadsMoreTrees, no_more_trees, one_more_tree, ReadsSide, reads_side, any_of, all_of, ReadsCond, reads_cond, ReadsMoreConjs, no_more_conjs, one_more_conj, ReadsConj, reads_conj, ReadsMoreNegs, no_more_negs, one_more_neg, ReadsNeg, not_negated, reads_negated, ReadsPrim, reads_group, reads_compared}
use Rattle.qs_ruletext.specs.Rules.{ReadsCondIfGiven, no_cond, some_cond, ReadsRule, reads_rule, ReadsRules}
use Rattle.qs_ruletext.proofs.ComparingWords.{none_compares}
use Rattle.qs_reader.proofs.Naming.{not_label, is_label}

-- the texts of the labels among these tokens, in order
abbrev pub HaveTexts : List ℕ → List Token → List (List ℕ) → Type 0
HaveTexts text [] labels = labels ≡ []
HaveTexts text (t ∷ ts) labels =
    ((¬ IsLabel t) × HaveTexts text ts labels)
    ⊎ ((label : List ℕ) × (others : List (List ℕ)) × HasLabelText text t label × (labels ≡ label ∷ others) × HaveTexts text ts others)

-- the like for the tokens before the rest
abbrev pub HaveTextsUpTo : List ℕ → List Token → List Token → List (List ℕ) → Type 0
HaveTextsUpTo text tokens rest labels = (passed : List Token) × (tokens ≡ passed ++ rest) × HaveTexts text passed labels

-- tokens behind tokens
pub texts_together : (text : List ℕ) (xs ys : List Token) (a b : List (List ℕ)) → HaveTexts text xs a → HaveTexts text ys b → HaveTexts text (xs ++ ys) (a ++ b)
texts_together text [] ys a b g h = subst (λ c. HaveTexts text ys (c ++ b)) (sym g) h
texts_together text (t ∷ xs) ys a b (inl g) h = inl (g.0, texts_together text xs ys a b g.1 h)
texts_together text (t ∷ xs) ys a b (inr g) h = inr (g.0, g.1 ++ b, g.2, ap (λ c. c ++ b) g.3, texts_together text xs ys g.1 b g.4 h)

-- the labels of patterns in the order in which they are written
abbrev pub head_labels : Head → List Label
head_labels (head.Label l) = l ∷ []
head_labels (head.Var v) = []

abbrev pub labels_in : Patterns → List Label
labels_in no_pattern = []
labels_in (node_first h kids behind) = head_labels h ++ (labels_in kids ++ labels_in behind)
labels_in (tree_var_first v behind) = labels_in behind
labels_in (forest_var_first v behind) = labels_in behind

-- those of a condition, and of conditions
abbrev pub labels_in_condition : Condition → List Label
labels_in_condition c = over_lists [] (λ ls ms. ls ++ ms) labels_in c

abbrev pub labels_in_conditions : Conditions → List Label
labels_in_conditions cs = over_all_lists [] (λ ls ms. ls ++ ms) labels_in cs

-- those of a rule, of its left side, of its right side and of its condition, and those of rules
abbrev pub labels_if_given : Option Condition → List Label
labels_if_given None = []
labels_if_given (Some c) = labels_in_condition c

abbrev pub labels_in_rule : UnmarkedRule → List Label
labels_in_rule r = labels_in r.left ++ (labels_in r.right ++ labels_if_given r.condition)

abbrev pub labels_in_rules : List UnmarkedRule → List Label
labels_in_rules [] = []
labels_in_rules (r ∷ rs) = labels_in_rule r ++ labels_in_rules rs

-- the labels of patterns behind patterns, and of several conditions that are one
joined_labels : (ps qs : Patterns) → labels_in (joined ps qs) ≡ labels_in ps ++ labels_in qs
joined_labels no_pattern qs = refl
joined_labels (node_first h kids ps) qs =
    ap (λ ls. head_labels h ++ (labels_in kids ++ ls)) (joined_labels ps qs)
    ∙ sym (append_assoc (head_labels h) (labels_in kids ++ labels_in ps) (labels_in qs) ∙ ap (λ ls. head_labels h ++ ls) (append_assoc (labels_in kids) (labels_in ps) (labels_in qs)))
joined_labels (tree_var_first v ps) qs = joined_labels ps qs
joined_labels (forest_var_first v ps) qs = joined_labels ps qs

any_labels : (c : Condition) (cs : Conditions) → labels_in_condition (any_of c cs) ≡ labels_in_condition c ++ labels_in_conditions cs
any_labels c no_condition = sym (append-nil (labels_in_condition c))
any_labels c (condition_first d ds) = refl

all_labels : (c : Condition) (cs : Conditions) → labels_in_condition (all_of c cs) ≡ labels_in_condition c ++ labels_in_conditions cs
all_labels c no_condition = sym (append-nil (labels_in_condition c))
all_labels c (condition_first d ds) = refl

-- The labels among the tokens before the rest have, in order, the texts that these labels have under the names; and each is
-- named.
pub record PassesLabels (names : List (List ℕ)) (text : List ℕ) (ts : List Token) (labels : List Label) (rest : List Token) : Type 0 where
  pub passed : List Token
  pub are : ts ≡ passed ++ rest
  pub texts : HaveTexts text passed (map (name_of names) labels)
  pub named : (l : Label) → l ∈ labels → l.0 < length names

-- so each of these texts is one of the names
pub texts_named : {names : List (List ℕ)} {text : List ℕ} {ts rest : List Token} {labels : List Label} → PassesLabels names text ts labels rest
    → (name : List ℕ) → Contains (map (name_of names) labels) name → Contains names name
texts_named {names} {labels = labels} x name there =
    from_map (name_of names) labels (λ (t : List ℕ). Contains names t)
    (λ l i. subst (λ (t : List ℕ). Contains names t) (sym (unwrap_or-slice_get names l.0 [])) (Contains-get_or names l.0 [] (x.named l i)))
    name (in_at (map (name_of names) labels) there.0 name (slice_get-get_or (map (name_of names) labels) there.0 name there.1 ∙ ap (λ t. Some t) there.2))

-- no token, a label, a token that is none, and tokens behind tokens
pub passes_nothing : {names : List (List ℕ)} {text : List ℕ} {ts : List Token} → PassesLabels names text ts [] ts
passes_nothing = record { passed = []; are = refl; texts = refl; named = λ l i. absurd i }

pub passes_label : {names : List (List ℕ)} {text : List ℕ} {t : Token} {ts : List Token} {label : Label} → IsLabelOf names text t label → PassesLabels names text (t ∷ ts) (label ∷ []) ts
passes_label {names} {text} {t} {label} is =
    let spelled : is.spelling ≡ name_of names label = sym (ap (λ o. unwrap_or o []) is.named) in
    record {
      passed = t ∷ [];
      are = refl;
      texts = inr (name_of names label, [], subst (λ spelling. HasLabelText text t spelling) spelled is.of_token, refl, refl);
      named = λ l i. ⊎_elim (λ e. subst (λ (m : Label). m.0 < length names) (sym e) (slice_get_within names label.0 is.spelling is.named)) (λ none. absurd none) i;
    }

pub passes_sign : {names : List (List ℕ)} {text : List ℕ} {t : Token} {ts : List Token} (s : Sort) → same_sort a_label s ≡ false → IsOf s t → PassesLabels names text (t ∷ ts) [] ts
passes_sign {t} s differs of = record { passed = t ∷ []; are = refl; texts = inl (not_label s t differs of, refl); named = λ l i. absurd i }

pub passes_both : {names : List (List ℕ)} {text : List ℕ} {ts middle rest : List Token} {a b : List Label}
    → PassesLabels names text ts a middle → PassesLabels names text middle b rest → PassesLabels names text ts (a ++ b) rest
passes_both {names} {text} {rest} {a} {b} x y =
    record {
      passed = x.passed ++ y.passed;
      are = x.are ∙ ap (λ us. x.passed ++ us) y.are ∙ sym (append_assoc x.passed y.passed rest);
      texts = subst (λ labels. HaveTexts text (x.passed ++ y.passed) labels) (sym (map-append (name_of names) a b))
          (texts_together text x.passed y.passed (map (name_of names) a) (map (name_of names) b) x.texts y.texts);
      named = λ l i. ⊎_elim (x.named l) (y.named l) (from_append a b l i);
    }

-- the same labels in another form; and labels before a token that is none
pub passes_same : {names : List (List ℕ)} {text : List ℕ} {ts rest : List Token} {a b : List Label} → a ≡ b → PassesLabels names text ts a rest → PassesLabels names text ts b rest
passes_same {names} {text} {ts} {rest} e x = subst (λ labels. PassesLabels names text ts labels rest) e x

pub passes_before : {names : List (List ℕ)} {text : List ℕ} {ts rest : List Token} {u : Token} {a : List Label} (s : Sort) → same_sort a_label s ≡ false
    → PassesLabels names text ts a (u ∷ rest) → IsOf s u → PassesLabels names text ts a rest
passes_before {a} s differs x of = passes_same (append-nil a) (passes_both x (passes_sign s differs of))

head_passes : (names : List (List ℕ)) (text : List ℕ) (t : Token) (h : Head) (ts : List Token) → IsHeadOf names text t h → PassesLabels names text (t ∷ ts) (head_labels h) ts
head_passes names text t (head.Label l) ts is = passes_label is
head_passes names text t (head.Var v) ts is = passes_sign a_label_variable refl is.of_sort

mutual
  pub tree_passes : {names : List (List ℕ)} {text : List ℕ} {ts rest : List Token} {p : Patterns} → ReadsTree names text ts p rest → PassesLabels names text ts (labels_in p) rest
  tree_passes {names} {text} (reads_node {t} {h} {ts} is below) = passes_both (head_passes names text t h ts is) (passes_both (subtrees_pass below) passes_nothing)
  tree_passes (reads_tree_variable is) = passes_sign a_tree_variable refl is.of_sort

  subtrees_pass : {names : List (List ℕ)} {text : List ℕ} {ts rest : List Token} {p : Patterns} → ReadsSubtrees names text ts p rest → PassesLabels names text ts (labels_in p) rest
  subtrees_pass no_parentheses = passes_nothing
  subtrees_pass (nothing_inside e f) = passes_both (passes_sign opening refl e) (passes_sign closing refl f)
  subtrees_pass (list_inside e l f) = passes_both (passes_sign opening refl e) (passes_before closing refl (list_passes l) f)

  pub list_passes : {names : List (List ℕ)} {text : List ℕ} {ts rest : List Token} {p : Patterns} → ReadsList names text ts p rest → PassesLabels names text ts (labels_in p) rest
  list_passes (reads_list {first} {behind} item more) = passes_same (sym (joined_labels first behind)) (passes_both (item_passes item) (more_items_pass more))

  more_items_pass : {names : List (List ℕ)} {text : List ℕ} {ts rest : List Token} {p : Patterns} → ReadsMoreItems names text ts p rest → PassesLabels names text ts (labels_in p) rest
  more_items_pass no_more_items = passes_nothing
  more_items_pass (one_more_item {next} {behind} e item more) =
      passes_both (passes_sign comma refl e) (passes_same (sym (joined_labels next behind)) (passes_both (item_passes item) (more_items_pass more)))

  item_passes : {names : List (List ℕ)} {text : List ℕ} {ts rest : List Token} {p : Patterns} → ReadsItem names text ts p rest → PassesLabels names text ts (labels_in p) rest
  item_passes (reads_tree r) = tree_passes r
  item_passes (reads_forest_variable is) = passes_sign a_forest_variable refl is.of_sort

more_trees_pass : {names : List (List ℕ)} {text : List ℕ} {ts rest : List Token} {p : Patterns} → ReadsMoreTrees names text ts p rest → PassesLabels names text ts (labels_in p) rest
more_trees_pass no_more_trees = passes_nothing
more_trees_pass (one_more_tree {next} {behind} e tree more) =
    passes_both (passes_sign plus refl e) (passes_same (sym (joined_labels next behind)) (passes_both (tree_passes tree) (more_trees_pass more)))

pub side_passes : {names : List (List ℕ)} {text : List ℕ} {ts rest : List Token} {p : Patterns} → ReadsSide names text ts p rest → PassesLabels names text ts (labels_in p) rest
side_passes (reads_side {first} {behind} tree more) = passes_same (sym (joined_labels first behind)) (passes_both (tree_passes tree) (more_trees_pass more))

mutual
  pub cond_passes : {names : List (List ℕ)} {text : List ℕ} {ts rest : List Token} {c : Condition} → ReadsCond names text ts c rest → PassesLabels names text ts (labels_in_condition c) rest
  cond_passes (reads_cond {c} {cs} first more) = passes_same (sym (any_labels c cs)) (passes_both (conj_passes first) (more_conjs_pass more))

  more_conjs_pass : {names : List (List ℕ)} {text : List ℕ} {ts rest : List Token} {cs : Conditions} → ReadsMoreConjs names text ts cs rest → PassesLabels names text ts (labels_in_conditions cs) rest
  more_conjs_pass no_more_conjs = passes_nothing
  more_conjs_pass (one_more_conj e next more) = passes_both (passes_sign (the_word Ou) refl e) (passes_both (conj_passes next) (more_conjs_pass more))

  conj_passes : {names : List (List ℕ)} {text : List ℕ} {ts rest : List Token} {c : Condition} → ReadsConj names text ts c rest → PassesLabels names text ts (labels_in_condition c) rest
  conj_passes (reads_conj {c} {cs} first more) = passes_same (sym (all_labels c cs)) (passes_both (neg_passes first) (more_negs_pass more))

  more_negs_pass : {names : List (List ℕ)} {text : List ℕ} {ts rest : List Token} {cs : Conditions} → ReadsMoreNegs names text ts cs rest → PassesLabels names text ts (labels_in_conditions cs) rest
  more_negs_pass no_more_negs = passes_nothing
  more_negs_pass (one_more_neg e next more) = passes_both (passes_sign (the_word Et) refl e) (passes_both (neg_passes next) (more_negs_pass more))

  neg_passes : {names : List (List ℕ)} {text : List ℕ} {ts rest : List Token} {c : Condition} → ReadsNeg names text ts c rest → PassesLabels names text ts (labels_in_condition c) rest
  neg_passes (not_negated p) = prim_passes p
  neg_passes (reads_negated e p) = passes_both (passes_sign (the_word Non) refl e) (prim_passes p)

  prim_passes : {names : List (List ℕ)} {text : List ℕ} {ts rest : List Token} {c : Condition} → ReadsPrim names text ts c rest → PassesLabels names text ts (labels_in_condition c) rest
  prim_passes (reads_group e c f) = passes_both (passes_sign opening refl e) (passes_before closing refl (cond_passes c) f)
  prim_passes (reads_compared {word} a e b) = passes_both (passes_before (the_word (comparing_word word)) (none_compares (same_sort a_label) refl refl refl word) (list_passes a) e) (list_passes b)

given_passes : {names : List (List ℕ)} {text : List ℕ} {ts rest : List Token} {c : Option Condition} → ReadsCondIfGiven names text ts c rest → PassesLabels names text ts (labels_if_given c) rest
given_passes no_cond = passes_nothing
given_passes (some_cond e c) = passes_both (passes_sign slash refl e) (cond_passes c)

pub rule_passes : {names : List (List ℕ)} {text : List ℕ} {ts rest : List Token} {r : UnmarkedRule} → ReadsRule names text ts r rest → PassesLabels names text ts (labels_in_rule r) rest
rule_passes (reads_rule left e right given f) =
    passes_both (passes_before equals refl (side_passes left) e) (passes_both (side_passes right) (passes_before stop refl (given_passes given) f))

pub rules_pass : (names : List (List ℕ)) (text : List ℕ) (ts rest : List Token) (rules : List WrittenRule) → ReadsRules names text ts rules rest
    → PassesLabels names text ts (labels_in_rules (map (λ (raw : WrittenRule). raw.rule) rules)) rest
rules_pass names text ts rest [] e = subst (λ us. PassesLabels names text ts [] us) e passes_nothing
rules_pass names text ts rest (r ∷ rules) h = passes_both (rule_passes h.1.rule) (rules_pass names text h.0 rest rules h.2)

-- the label tokens of a rule have the texts of its labels, and so have those of rules one behind the other
pub rule_texts : {names : List (List ℕ)} {text : List ℕ} {ts rest : List Token} {r : UnmarkedRule} → ReadsRule names text ts r rest
    → HaveTextsUpTo text ts rest (map (name_of names) (labels_in_rule r))
rule_texts reads = let found = rule_passes reads in (found.passed, found.are, found.texts)

pub rules_texts : (names : List (List ℕ)) (text : List ℕ) (ts rest : List Token) (rules : List WrittenRule) → ReadsRules names text ts rules rest
    → HaveTextsUpTo text ts rest (map (name_of names) (labels_in_rules (map (λ (raw : WrittenRule). raw.rule) rules)))
rules_texts names text ts rest rules reads = let found = rules_pass names text ts rest rules reads in (found.passed, found.are, found.texts)

-- these texts come behind the names, one after the other
abbrev pub NamesGrowBy : List (List ℕ) → List (List ℕ) → List (List ℕ) → Type 0
NamesGrowBy [] old new = new ≡ old
NamesGrowBy (label ∷ labels) old new = (next : List (List ℕ)) × AddsName old label next × NamesGrowBy labels next new

-- what a token that is no label, and one that is, does to the names
no_addition : (text : List ℕ) (t : Token) (old new : List (List ℕ)) → (¬ IsLabel t) → AddsNameOf text t old new → new ≡ old
no_addition text t old new isnt (inl a) = a.1
no_addition text t old new isnt (inr a) = absurd (isnt (is_label text t a.0 a.1))

addition : (text : List ℕ) (t : Token) (label : List ℕ) (old new : List (List ℕ)) → HasLabelText text t label → AddsNameOf text t old new → AddsName old label new
addition text t label old new has (inl a) = absurd (a.0 (is_label text t label has))
addition text t label old new has (inr a) = subst (λ l. AddsName old l new) (one_label_text t.kind (bytes_of text t) a.0 label a.1 has) a.2

-- the names grow by tokens as they grow by the texts of the labels among them, and the other way round
pub grow_by_texts : (text : List ℕ) (ts : List Token) (labels old new : List (List ℕ)) → HaveTexts text ts labels → NamesGrow text ts old new → NamesGrowBy labels old new
grow_by_texts text [] labels old new h g = subst (λ ls. NamesGrowBy ls old new) (sym h) g
grow_by_texts text (t ∷ ts) labels old new (inl h) g =
    grow_by_texts text ts labels old new h.1 (subst (λ names. NamesGrow text ts names new) (no_addition text t old g.0 h.0 g.1) g.2)
grow_by_texts text (t ∷ ts) labels old new (inr h) g =
    subst (λ ls. NamesGrowBy ls old new) (sym h.3) (g.0, addition text t h.0 old g.0 h.2 g.1, grow_by_texts text ts h.1 g.0 new h.4 g.2)

pub grow_by_tokens : (text : List ℕ) (ts : List Token) (labels old new : List (List ℕ)) → HaveTexts text ts labels → NamesGrowBy labels old new → NamesGrow text ts old new
grow_by_tokens text [] labels old new h g = subst (λ ls. NamesGrowBy ls old new) h g
grow_by_tokens text (t ∷ ts) labels old new (inl h) g = (old, inl (h.0, refl), grow_by_tokens text ts labels old new h.1 g)
grow_by_tokens text (t ∷ ts) labels old new (inr h) g =
    let by : NamesGrowBy (h.0 ∷ h.1) old new = subst (λ ls. NamesGrowBy ls old new) h.3 g in
    (by.0, inr (h.0, h.2, by.1), grow_by_tokens text ts h.1 by.0 new h.4 by.2)

-- the names grow by the texts alone
pub names_by_texts : (text other : List ℕ) (ts us : List Token) (labels old new : List (List ℕ)) → HaveTexts text ts labels → HaveTexts other us labels
    → NamesGrow text ts old new → NamesGrow other us old new
names_by_texts text other ts us labels old new here there g = grow_by_tokens other us labels old new there (grow_by_texts text ts labels old new here g)

-- a text that may come behind the names is then one of them, and no other text comes
here_or_before : (old new : List (List ℕ)) (label name : List ℕ) → AddsName old label new → Contains new name → Contains old name ⊎ (label ≡ name)
here_or_before old new label name (inl a) c = inl (subst (λ names. Contains names name) a.1 c)
here_or_before old new label name (inr a) c = Contains-push_cases old label name (subst (λ names. Contains names name) a.1 c)

still_there : (old new : List (List ℕ)) (label name : List ℕ) → AddsName old label new → Contains old name → Contains new name
still_there old new label name (inl a) c = subst (λ names. Contains names name) (sym a.1) c
still_there old new label name (inr a) c = subst (λ names. Contains names name) (sym a.1) (Contains-append_left old (label ∷ []) name c)

now_there : (old new : List (List ℕ)) (label : List ℕ) → AddsName old label new → Contains new label
now_there old new label (inl a) = subst (λ names. Contains names label) (sym a.1) a.0
now_there old new label (inr a) = subst (λ names. Contains names label) (sym a.1) (Contains-push old label)

-- the first of a list is one of it, and each other stands behind it
is_first : (label name : List ℕ) (labels : List (List ℕ)) → label ≡ name → Contains (label ∷ labels) name
is_first label name labels e = subst (λ n. Contains (label ∷ labels) n) e (Contains-append_left (label ∷ []) labels label (Contains-push [] label))

not_in_nothing : (name : List ℕ) → Contains [] name → ⊥
not_in_nothing name c = let none : c.0 < 0 = c.1 in omega arith

first_or_behind : (label name : List ℕ) (labels : List (List ℕ)) → Contains (label ∷ labels) name → (label ≡ name) ⊎ Contains labels name
first_or_behind label name labels c =
    ⊎_elim (λ one. ⊎_elim (λ none. absurd (not_in_nothing name none)) inl (Contains-push_cases [] label name one)) inr (Contains-append_cases (label ∷ []) labels name c)

-- the old names stay, each text is a name then, and each name that is new is one of the texts
old_names_by : (labels old new : List (List ℕ)) → NamesGrowBy labels old new → (name : List ℕ) → Contains old name → Contains new name
old_names_by [] old new g name c = subst (λ names. Contains names name) (sym g) c
old_names_by (label ∷ labels) old new g name c = old_names_by labels g.0 new g.2 name (still_there old g.0 label name g.1 c)

texts_by : (labels old new : List (List ℕ)) → NamesGrowBy labels old new → (name : List ℕ) → Contains labels name → Contains new name
texts_by [] old new g name c = absurd (not_in_nothing name c)
texts_by (label ∷ labels) old new g name c =
    ⊎_elim (λ e. old_names_by labels g.0 new g.2 name (subst (λ n. Contains g.0 n) e (now_there old g.0 label g.1))) (texts_by labels g.0 new g.2 name) (first_or_behind label name labels c)

new_names_by : (labels old new : List (List ℕ)) → NamesGrowBy labels old new → (name : List ℕ) → Contains new name → Contains old name ⊎ Contains labels name
new_names_by [] old new g name c = inl (subst (λ names. Contains names name) g c)
new_names_by (label ∷ labels) old new g name c =
    ⊎_elim
    (λ next. ⊎_elim inl (λ e. inr (is_first label name labels e)) (here_or_before old g.0 label name g.1 next))
    (λ behind. inr (Contains-append_right (label ∷ []) labels name behind))
    (new_names_by labels g.0 new g.2 name c)

pub new_names_are_texts : (text : List ℕ) (ts : List Token) (labels old new : List (List ℕ)) → HaveTexts text ts labels → NamesGrow text ts old new
    → (name : List ℕ) → Contains new name → Contains old name ⊎ Contains labels name
new_names_are_texts text ts labels old new h g = new_names_by labels old new (grow_by_texts text ts labels old new h g)

pub texts_are_names : (text : List ℕ) (ts : List Token) (labels old new : List (List ℕ)) → HaveTexts text ts labels → NamesGrow text ts old new
    → (name : List ℕ) → Contains labels name → Contains new name
texts_are_names text ts labels old new h g = texts_by labels old new (grow_by_texts text ts labels old new h g)
