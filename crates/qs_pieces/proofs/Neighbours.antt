-- Which tokens stand side by side where rules, graphs and decks are read: before a word that compares two lists a list ends,
-- and behind it one begins.
use Rattle.std.proofs.Common.{◌≡◌, ℕ, Bool, true, false, cond, refl, sym, ap, ◌∙◌, subst, List, [], ◌∷◌, ◌++◌, Option}
use Rattle.std.proofs.lemmas.Bool.{cond-true, cond-false}
use Rattle.qs_lex.specs.declared.token.Token.{Token}
use Rattle.qs_lex.specs.declared.token.Kind.{Kind}
use Rattle.qs_lex.specs.declared.token.Kind.TheVariants.{Bare, Quoted, Node}
use Rattle.qs_lex.specs.declared.token.Word.TheVariants.{Systeme, Graphe, Fin, Dans, Hors, Egal, Et, Ou, Non, Version, Unique}
use Rattle.qs_lex.specs.Spelling.{IsLabelText}
use Rattle.qs_lex.specs.Tokens.{bytes_of}
use Rattle.qs_lex.specs.Grammar.{Sort, a_label, a_label_variable, a_tree_variable, a_forest_variable, a_node_mark, the_word, opening, closing, comma, plus, slash, equals, stop, sort_of, IsOf}
use Rattle.qs_tree.specs.declared.cell.Label.{Label}
use Rattle.qs_tree.specs.Trees.{Forest, Tree}
use Rattle.qs_pattern.specs.declared.pattern.Head.{Head}
use Rattle.qs_pattern.specs.declared.pattern.Head.TheVariants as head
use Rattle.qs_pattern.specs.Patterns.{Patterns}
use Rattle.qs_pattern.specs.Conditions.{Comparing, within, outside, same, Condition, Conditions}
use Rattle.qs_pattern.specs.Rules.{UnmarkedRule}
use Rattle.qs_ruletext.specs.WrittenRules.{WrittenRule}
use Rattle.qs_reader.specs.Names.{IsLabelOf}
use Rattle.qs_ruletext.specs.Reading.{IsHeadOf, ReadsTree, reads_node, reads_tree_variable, ReadsSubtrees, no_parentheses, nothing_inside, list_inside, ReadsList, reads_list, ReadsMoreItems, no_more_items, one_more_item, ReadsItem, reads_tree, reads_forest_variable, ReadsMoreTrees, no_more_trees, one_more_tree, ReadsSide, reads_side, ReadsCond, reads_cond, ReadsMoreConjs, no_more_conjs, one_more_conj, ReadsConj, reads_conj, ReadsMoreNegs, no_more_negs, one_more_neg, ReadsNeg, not_negated, reads_negated, ReadsPrim, reads_group, reads_compared, comparing_word}
use Rattle.qs_ruletext.specs.Rules.{ReadsCondIfGiven, no_cond, some_cond, ReadsRule, reads_rule, ReadsRules}
use Rattle.qs_graphtext.specs.WrittenChains.{WrittenChain}
use Rattle.qs_graphtext.specs.Reading as graphs
use Rattle.qs_graphtext.specs.Reading.{ReadsPlain, reads_plain, plains_inside, ReadsPlains, reads_plains, ReadsMorePlains, no_more_plains, one_more_plain, ReadsRooted, reads_rooted, ReadsTrees, reads_trees, ReadsChain, reads_chain, ReadsMoreChains, no_more_chains, one_more_chain, ReadsChains, reads_chains, ReadsGraph, reads_graph}
use Rattle.qs_deck.specs.WrittenDecks.{WrittenSystem, WrittenDeck}
use Rattle.qs_deck.specs.Versions.{IsVersionLine, no_line, the_line}
use Rattle.qs_deck.specs.Reading.{ReadsMark, no_mark, a_mark, ReadsSystem, reads_system, ReadsSystems, ReadsDeck}

-- ---- side by side

-- a word that stands between the two lists of a comparison
abbrev pub compares : Sort → Bool
compares (the_word Dans) = true
compares (the_word Hors) = true
compares (the_word Egal) = true
compares _ = false

-- a list may begin with it
abbrev pub starts : Sort → Bool
starts a_label = true
starts a_label_variable = true
starts a_tree_variable = true
starts a_forest_variable = true
starts _ = false

-- a list may end with it
abbrev pub ends : Sort → Bool
ends a_label = true
ends a_label_variable = true
ends a_tree_variable = true
ends a_forest_variable = true
ends closing = true
ends _ = false

-- a token of the second sort may stand behind one of the first
abbrev pub beside : Sort → Sort → Bool
beside before s = cond (compares s) (ends before) (cond (compares before) (starts s) true)

-- these tokens may stand side by side, behind a token of this sort
abbrev pub Chain : Sort → List Token → Type 0
Chain before [] = Unit {0}
Chain before (t ∷ ts) = (beside before (sort_of t.kind) ≡ true) × Chain (sort_of t.kind) ts

-- the same behind any token; behind one that ends a list; and behind one that compares no lists
pub record BehindAny (ts : List Token) : Type 0 where
  pub chain : (before : Sort) → Chain before ts

pub record BehindEnd (ts : List Token) : Type 0 where
  pub chain : (before : Sort) → ends before ≡ true → Chain before ts

pub record BehindPlain (ts : List Token) : Type 0 where
  pub chain : (before : Sort) → compares before ≡ false → Chain before ts

-- what ends a list compares none
end_plain : (s : Sort) → ends s ≡ true → compares s ≡ false
end_plain a_label e = refl
end_plain a_label_variable e = refl
end_plain a_tree_variable e = refl
end_plain a_forest_variable e = refl
end_plain closing e = refl
end_plain a_node_mark e = refl
end_plain (the_word w) e = absurd (let no : false ≡ true = e in cc)
end_plain opening e = refl
end_plain comma e = refl
end_plain plus e = refl
end_plain slash e = refl
end_plain equals e = refl
end_plain stop e = refl

ends_plain : {ts : List Token} → BehindPlain ts → BehindEnd ts
ends_plain next = record { chain = λ before end. next.chain before (end_plain before end) }

-- a token of this sort, and what stands behind it
one_token : (t : Token) (ts : List Token) (s before : Sort) → IsOf s t → beside before s ≡ true → Chain s ts → Chain before (t ∷ ts)
one_token t ts s before of here next = subst (λ (x : Sort). (beside before x ≡ true) × Chain x ts) (sym of) (here, next)

any_plain : {ts : List Token} → BehindAny ts → BehindPlain ts
any_plain next = record { chain = λ before plain. next.chain before }

-- behind any token: one with which a list may begin, and which may be all of it
item : {t : Token} {ts : List Token} (s : Sort) → compares s ≡ false → starts s ≡ true → ends s ≡ true → IsOf s t → BehindEnd ts → BehindAny (t ∷ ts)
item {t} {ts} s plain begins also of next = record {
  chain = λ before.
      one_token t ts s before of
      (cond-false (compares s) (ends before) (cond (compares before) (starts s) true) plain ∙ by (compares before))
      (next.chain s also);
}
  where
    by : (b : Bool) → cond b (starts s) true ≡ true
    by true = begins
    by false = refl

-- behind a token that compares nothing: one that compares nothing
pub sign : {t : Token} {ts : List Token} (s : Sort) → compares s ≡ false → IsOf s t → BehindPlain ts → BehindPlain (t ∷ ts)
sign {t} {ts} s plain of next = record {
  chain = λ before also.
      one_token t ts s before of
      (cond-false (compares s) (ends before) (cond (compares before) (starts s) true) plain ∙ cond-false (compares before) (starts s) true also)
      (next.chain s plain);
}

-- the same of a parenthesis that closes, behind which a list has ended
close : {t : Token} {ts : List Token} → IsOf closing t → BehindEnd ts → BehindPlain (t ∷ ts)
close {t} {ts} of next = record {
  chain = λ before also. one_token t ts closing before of (cond-false (compares before) false true also) (next.chain closing refl);
}

-- each word between two lists compares them
pub comparing_compares : (word : Comparing) → compares (the_word (comparing_word word)) ≡ true
comparing_compares within = refl
comparing_compares outside = refl
comparing_compares same = refl

-- behind the end of a list: a word that compares
comparison : {t : Token} {ts : List Token} (s : Sort) → compares s ≡ true → IsOf s t → BehindAny ts → BehindEnd (t ∷ ts)
comparison {t} {ts} s is of next = record {
  chain = λ before end.
      one_token t ts s before of (cond-true (compares s) (ends before) (cond (compares before) (starts s) true) is ∙ end) (next.chain s);
}

-- before it nothing else stands
pub end_before : (before s : Sort) → compares s ≡ true → beside before s ≡ true → ends before ≡ true
end_before before s is e = sym (cond-true (compares s) (ends before) (cond (compares before) (starts s) true) is) ∙ e

-- and behind it stands nothing with which no list may begin
pub not_behind : (before s : Sort) → compares s ≡ false → starts s ≡ false → compares before ≡ true → beside before s ≡ true → ⊥
not_behind before s plain none is e =
    let no : false ≡ true =
    sym none ∙ sym (cond-true (compares before) (starts s) true is) ∙ sym (cond-false (compares s) (ends before) (cond (compares before) (starts s) true) plain) ∙ e
    in
    cc

-- a node mark
mark : {t : Token} {ts : List Token} {n : ℕ} → t.kind ≡ Node n → BehindPlain ts → BehindPlain (t ∷ ts)
mark is next = sign a_node_mark refl (ap sort_of is) next

-- a label, and a head
label_sort : (kind : Kind) (bytes label : List ℕ) → IsLabelText kind bytes label → sort_of kind ≡ a_label
label_sort Bare bytes label is = refl
label_sort Quoted bytes label is = refl
label_sort _ bytes label is = absurd is

is_label : {names : List (List ℕ)} {text : List ℕ} {t : Token} {label : Label} → IsLabelOf names text t label → IsOf a_label t
is_label {text = text} {t} is = label_sort t.kind (bytes_of text t) is.spelling is.of_token

head_chain : (names : List (List ℕ)) (text : List ℕ) (t : Token) (h : Head) (ts : List Token) → IsHeadOf names text t h → BehindEnd ts → BehindAny (t ∷ ts)
head_chain names text t (head.Label l) ts is next = item a_label refl refl refl (is_label is) next
head_chain names text t (head.Var v) ts is next = item a_label_variable refl refl refl is.of_sort next

-- ---- rules

module _ {names : List (List ℕ)} {text : List ℕ} where
  mutual
    tree_chain : {ts rest : List Token} {p : Patterns} → ReadsTree names text ts p rest → BehindEnd rest → BehindAny ts
    tree_chain (reads_node {t} {h} {ts} is below) next = head_chain names text t h ts is (subtrees_chain below next)
    tree_chain (reads_tree_variable is) next = item a_tree_variable refl refl refl is.of_sort next

    subtrees_chain : {ts rest : List Token} {p : Patterns} → ReadsSubtrees names text ts p rest → BehindEnd rest → BehindEnd ts
    subtrees_chain no_parentheses next = next
    subtrees_chain (nothing_inside e f) next = ends_plain (sign opening refl e (close f next))
    subtrees_chain (list_inside e list f) next = ends_plain (sign opening refl e (any_plain (list_chain list (ends_plain (close f next)))))

    list_chain : {ts rest : List Token} {p : Patterns} → ReadsList names text ts p rest → BehindEnd rest → BehindAny ts
    list_chain (reads_list first more) next = item_chain first (more_items_chain more next)

    more_items_chain : {ts rest : List Token} {p : Patterns} → ReadsMoreItems names text ts p rest → BehindEnd rest → BehindEnd ts
    more_items_chain no_more_items next = next
    more_items_chain (one_more_item e another more) next = ends_plain (sign comma refl e (any_plain (item_chain another (more_items_chain more next))))

    item_chain : {ts rest : List Token} {p : Patterns} → ReadsItem names text ts p rest → BehindEnd rest → BehindAny ts
    item_chain (reads_tree tree) next = tree_chain tree next
    item_chain (reads_forest_variable is) next = item a_forest_variable refl refl refl is.of_sort next

  more_trees_chain : {ts rest : List Token} {p : Patterns} → ReadsMoreTrees names text ts p rest → BehindEnd rest → BehindEnd ts
  more_trees_chain no_more_trees next = next
  more_trees_chain (one_more_tree e tree more) next = ends_plain (sign plus refl e (any_plain (tree_chain tree (more_trees_chain more next))))

  side_chain : {ts rest : List Token} {p : Patterns} → ReadsSide names text ts p rest → BehindEnd rest → BehindAny ts
  side_chain (reads_side tree more) next = tree_chain tree (more_trees_chain more next)

  mutual
    cond_chain : {ts rest : List Token} {c : Condition} → ReadsCond names text ts c rest → BehindEnd rest → BehindPlain ts
    cond_chain (reads_cond conj more) next = conj_chain conj (more_conjs_chain more next)

    more_conjs_chain : {ts rest : List Token} {cs : Conditions} → ReadsMoreConjs names text ts cs rest → BehindEnd rest → BehindEnd ts
    more_conjs_chain no_more_conjs next = next
    more_conjs_chain (one_more_conj e conj more) next = ends_plain (sign (the_word Ou) refl e (conj_chain conj (more_conjs_chain more next)))

    conj_chain : {ts rest : List Token} {c : Condition} → ReadsConj names text ts c rest → BehindEnd rest → BehindPlain ts
    conj_chain (reads_conj neg more) next = neg_chain neg (more_negs_chain more next)

    more_negs_chain : {ts rest : List Token} {cs : Conditions} → ReadsMoreNegs names text ts cs rest → BehindEnd rest → BehindEnd ts
    more_negs_chain no_more_negs next = next
    more_negs_chain (one_more_neg e neg more) next = ends_plain (sign (the_word Et) refl e (neg_chain neg (more_negs_chain more next)))

    neg_chain : {ts rest : List Token} {c : Condition} → ReadsNeg names text ts c rest → BehindEnd rest → BehindPlain ts
    neg_chain (not_negated prim) next = prim_chain prim next
    neg_chain (reads_negated e prim) next = sign (the_word Non) refl e (prim_chain prim next)

    prim_chain : {ts rest : List Token} {c : Condition} → ReadsPrim names text ts c rest → BehindEnd rest → BehindPlain ts
    prim_chain (reads_group e inside f) next = sign opening refl e (cond_chain inside (ends_plain (close f next)))
    prim_chain (reads_compared {word} a e b) next = any_plain (list_chain a (comparison (the_word (comparing_word word)) (comparing_compares word) e (list_chain b next)))

  given_chain : {ts rest : List Token} {c : Option Condition} → ReadsCondIfGiven names text ts c rest → BehindEnd rest → BehindEnd ts
  given_chain no_cond next = next
  given_chain (some_cond e c) next = ends_plain (sign slash refl e (cond_chain c next))

  rule_chain : {ts rest : List Token} {r : UnmarkedRule} → ReadsRule names text ts r rest → BehindPlain rest → BehindAny ts
  rule_chain (reads_rule left e right given f) next =
      side_chain left (ends_plain (sign equals refl e (any_plain (side_chain right (given_chain given (ends_plain (sign stop refl f next)))))))

  -- ---- graphs

  mutual
    plain_chain : {ts rest : List Token} {tree : Tree} → ReadsPlain names text ts tree rest → BehindPlain rest → BehindPlain ts
    plain_chain (reads_plain is below) next = sign a_label refl (is_label is) (forest_chain below next)

    forest_chain : {ts rest : List Token} {kids : Forest} → graphs.ReadsSubtrees names text ts kids rest → BehindPlain rest → BehindPlain ts
    forest_chain graphs.no_parentheses next = next
    forest_chain (graphs.nothing_inside e f) next = sign opening refl e (sign closing refl f next)
    forest_chain (plains_inside e inside f) next = sign opening refl e (plains_chain inside (sign closing refl f next))

    plains_chain : {ts rest : List Token} {kids : Forest} → ReadsPlains names text ts kids rest → BehindPlain rest → BehindPlain ts
    plains_chain (reads_plains plain more) next = plain_chain plain (more_plains_chain more next)

    more_plains_chain : {ts rest : List Token} {kids : Forest} → ReadsMorePlains names text ts kids rest → BehindPlain rest → BehindPlain ts
    more_plains_chain no_more_plains next = next
    more_plains_chain (one_more_plain e plain more) next = sign comma refl e (plain_chain plain (more_plains_chain more next))

  rooted_chain : {ts rest : List Token} {tree : Tree} {byte : ℕ} → ReadsRooted names text ts tree byte rest → BehindPlain rest → BehindPlain ts
  rooted_chain (reads_rooted plain) next = plain_chain plain next

  more_rooted_chain : {ts rest : List Token} {trees : List Tree} {at : List ℕ} → graphs.ReadsMoreTrees names text ts trees at rest → BehindPlain rest → BehindPlain ts
  more_rooted_chain graphs.no_more_trees next = next
  more_rooted_chain (graphs.one_more_tree e rooted more) next = sign plus refl e (rooted_chain rooted (more_rooted_chain more next))

  trees_chain : {ts rest : List Token} {trees : List Tree} {at : List ℕ} → ReadsTrees names text ts trees at rest → BehindPlain rest → BehindPlain ts
  trees_chain (reads_trees rooted more) next = rooted_chain rooted (more_rooted_chain more next)

  chain_chain : {ts rest : List Token} {chain : WrittenChain} → ReadsChain names text ts chain rest → BehindPlain rest → BehindPlain ts
  chain_chain (reads_chain from trees to f) next = mark from (trees_chain trees (mark to (sign stop refl f next)))

  more_chains_chain : {ts rest : List Token} {chains : List WrittenChain} → ReadsMoreChains names text ts chains rest → BehindPlain rest → BehindPlain ts
  more_chains_chain no_more_chains next = next
  more_chains_chain (one_more_chain chain more) next = chain_chain chain (more_chains_chain more next)

  chains_chain : {ts rest : List Token} {chains : List WrittenChain} → ReadsChains names text ts chains rest → BehindPlain rest → BehindPlain ts
  chains_chain (reads_chains chain more) next = chain_chain chain (more_chains_chain more next)

  graph_chain : {ts rest : List Token} {chains : List WrittenChain} → ReadsGraph names text ts chains rest → BehindPlain rest → BehindPlain ts
  graph_chain (reads_graph e chains f) next = sign (the_word Graphe) refl e (chains_chain chains (sign (the_word Fin) refl f next))

-- ---- decks

module _ (names : List (List ℕ)) (text : List ℕ) where
  rules_chain : (rules : List WrittenRule) (ts rest : List Token) → ReadsRules names text ts rules rest → BehindPlain rest → BehindPlain ts
  rules_chain [] ts rest e next = subst BehindPlain (sym e) next
  rules_chain (r ∷ rules) ts rest h next = any_plain (rule_chain h.1.rule (rules_chain rules h.0 rest h.2 next))

  mark_chain : {ts rest : List Token} {unique : Bool} → ReadsMark ts unique rest → BehindPlain rest → BehindPlain ts
  mark_chain no_mark next = next
  mark_chain (a_mark is) next = sign (the_word Unique) refl is next

  system_chain : {ts rest : List Token} {system : WrittenSystem} → ReadsSystem names text ts system rest → BehindPlain rest → BehindPlain ts
  system_chain (reads_system {ts} {rest} {system = s} e at label mark f rules) next =
      sign (the_word Systeme) refl e
      (sign a_label refl (is_label label) (mark_chain mark (sign stop refl f (rules_chain s.rules ts rest rules next))))

  systems_chain : (systems : List WrittenSystem) (ts rest : List Token) → ReadsSystems names text ts systems rest → BehindPlain rest → BehindPlain ts
  systems_chain [] ts rest e next = subst BehindPlain (sym e) next
  systems_chain (s ∷ systems) ts rest h next = system_chain h.1 (systems_chain systems h.0 rest h.2 next)

  -- the tokens of a deck
  pub deck_chain : {ts : List Token} {deck : WrittenDeck} → ReadsDeck names text ts deck [] → BehindPlain ts
  deck_chain {ts} {deck} r = systems_chain deck.systems ts (r.first ∷ r.behind) r.systems (graph_chain r.graph (record { chain = λ before plain. tt }))

  -- and of the line of the version in front of them
  pub line_chain : {version : ℕ} {front body : List Token} → IsVersionLine text version front → BehindPlain body → BehindPlain (front ++ body)
  line_chain no_line next = next
  line_chain (the_line word number dot) next = sign (the_word Version) refl word (sign a_label refl (ap sort_of number.bare) (sign stop refl dot next))
