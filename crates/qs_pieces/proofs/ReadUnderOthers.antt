-- What is read under some names is read under others that hold the same texts, with other numbers for the labels: a rule, and
-- the chains of a graph. And the graph that such chains make is the graph of the chains, with other numbers too.
use Rattle.std.proofs.Common.{◌≡◌, ℕ, ◌+◌, ◌-◌, false, refl, sym, ◌∙◌, ap, subst, List, [], ◌∷◌, ◌++◌, map, Option, option_map}
use Rattle.std.proofs.lemmas.List.{length-map, map-append}
use Rattle.qs_lex.specs.declared.token.Token.{Token}
use Rattle.qs_tree.specs.declared.cell.Label.{Label}
use Rattle.qs_tree.specs.Trees.{Forest, Tree}
use Rattle.qs_pattern.specs.declared.pattern.Head.{Head}
use Rattle.qs_pattern.specs.declared.pattern.Head.TheVariants as head
use Rattle.qs_pattern.specs.Patterns.{Patterns, no_pattern, node_first, tree_var_first, forest_var_first}
use Rattle.qs_pattern.specs.Conditions.{Condition, Conditions, no_condition, condition_first}
use Rattle.qs_pattern.specs.Rules.{UnmarkedRule, marked, unmarked}
use Rattle.qs_reader.specs.Names.{IsLabelOf}
use Rattle.qs_ruletext.specs.Reading.{IsHeadOf, joined, ReadsTree, reads_node, reads_tree_variable, ReadsSubtrees, no_parentheses, nothing_inside, list_inside, ReadsList, reads_list, ReadsMoreItems, no_more_items, one_more_item, ReadsItem, reads_tree, reads_forest_variable, ReadsMoreTrees, no_more_trees, one_more_tree, ReadsSide, reads_side, any_of, all_of, ReadsCond, reads_cond, ReadsMoreConjs, no_more_conjs, one_more_conj, ReadsConj, reads_conj, ReadsMoreNegs, no_more_negs, one_more_neg, ReadsNeg, not_negated, reads_negated, ReadsPrim, reads_group, reads_compared}
use Rattle.qs_ruletext.specs.Rules.{ReadsCondIfGiven, no_cond, some_cond, ReadsRule, reads_rule}
use Rattle.qs_graph.specs.Graphs.{QGraph}
use Rattle.qs_graph.specs.Chains.{chain, with_chain}
use Rattle.qs_graphtext.specs.WrittenChains.{WrittenChain}
use Rattle.qs_graphtext.specs.Reading as graphs
use Rattle.qs_graphtext.specs.Reading.{ReadsPlain, reads_plain, plains_inside, ReadsPlains, reads_plains, ReadsMorePlains, no_more_plains, one_more_plain, ReadsRooted, reads_rooted, ReadsTrees, reads_trees, ReadsChain, reads_chain, ReadsMoreChains, no_more_chains, one_more_chain, ReadsChains, reads_chains, ReadsGraph, reads_graph}
use Rattle.qs_graphtext.specs.GraphOfChains.{numbers_in, different, dense, with_chains, graph_of}
use Rattle.qs_clean.specs.Renaming.{renamed_label, renamed_forest, renamed_tree, renamed_head, renamed_patterns, renamed_condition, renamed_conditions, renamed_rule, renamed_arc, renamed_graph}
use Rattle.qs_pieces.proofs.RenamedGrammars.{Carries, renamed_chain}

-- a rule as it was read, with other numbers
abbrev pub renamed_unmarked : (ℕ → ℕ) → UnmarkedRule → UnmarkedRule
renamed_unmarked g rule = unmarked (renamed_rule g (marked false rule))

-- ---- lists of patterns and of conditions

module _ (g : ℕ → ℕ) where
  -- the patterns of both lists, with other numbers
  joined_renamed : (ps qs : Patterns) → renamed_patterns g (joined ps qs) ≡ joined (renamed_patterns g ps) (renamed_patterns g qs)
  joined_renamed no_pattern qs = refl
  joined_renamed (node_first h kids ps) qs = ap (node_first (renamed_head g h) (renamed_patterns g kids)) (joined_renamed ps qs)
  joined_renamed (tree_var_first v ps) qs = ap (tree_var_first v) (joined_renamed ps qs)
  joined_renamed (forest_var_first v ps) qs = ap (forest_var_first v) (joined_renamed ps qs)

  -- a condition of one member is this member, also with other numbers; and of several it stays one of several
  any_renamed : (c : Condition) (cs : Conditions) → renamed_condition g (any_of c cs) ≡ any_of (renamed_condition g c) (renamed_conditions g cs)
  any_renamed c no_condition = refl
  any_renamed c (condition_first d ds) = refl

  all_renamed : (c : Condition) (cs : Conditions) → renamed_condition g (all_of c cs) ≡ all_of (renamed_condition g c) (renamed_conditions g cs)
  all_renamed c no_condition = refl
  all_renamed c (condition_first d ds) = refl

-- ---- what is read

module _ (g : ℕ → ℕ) (others names : List (List ℕ)) (carries : Carries g others names) (text : List ℕ) where
  -- a label has the number that its text has among the names
  pub label_under : {t : Token} {label : Label} → IsLabelOf others text t label → IsLabelOf names text t (renamed_label g label)
  label_under {label = label} is = record { spelling = is.spelling; of_token = is.of_token; named = carries label.0 is.spelling is.named }

  -- a head, which may be a variable
  head_under : (t : Token) (h : Head) → IsHeadOf others text t h → IsHeadOf names text t (renamed_head g h)
  head_under t (head.Label label) is = label_under is
  head_under t (head.Var v) is = is

  -- trees and lists
  mutual
    tree_under : {ts rest : List Token} {p : Patterns} → ReadsTree others text ts p rest → ReadsTree names text ts (renamed_patterns g p) rest
    tree_under (reads_node {t} {h} is below) = reads_node (head_under t h is) (subtrees_under below)
    tree_under (reads_tree_variable is) = reads_tree_variable is

    subtrees_under : {ts rest : List Token} {p : Patterns} → ReadsSubtrees others text ts p rest → ReadsSubtrees names text ts (renamed_patterns g p) rest
    subtrees_under no_parentheses = no_parentheses
    subtrees_under (nothing_inside o c) = nothing_inside o c
    subtrees_under (list_inside o inside c) = list_inside o (list_under inside) c

    list_under : {ts rest : List Token} {p : Patterns} → ReadsList others text ts p rest → ReadsList names text ts (renamed_patterns g p) rest
    list_under (reads_list {ts} {rest = rest} {first} {behind} item more) =
        subst (λ q. ReadsList names text ts q rest) (sym (joined_renamed g first behind)) (reads_list (item_under item) (more_items_under more))

    more_items_under : {ts rest : List Token} {p : Patterns} → ReadsMoreItems others text ts p rest → ReadsMoreItems names text ts (renamed_patterns g p) rest
    more_items_under no_more_items = no_more_items
    more_items_under (one_more_item {t} {ts} {rest = rest} {next} {behind} comma item more) =
        subst (λ q. ReadsMoreItems names text (t ∷ ts) q rest) (sym (joined_renamed g next behind)) (one_more_item comma (item_under item) (more_items_under more))

    item_under : {ts rest : List Token} {p : Patterns} → ReadsItem others text ts p rest → ReadsItem names text ts (renamed_patterns g p) rest
    item_under (reads_tree tree) = reads_tree (tree_under tree)
    item_under (reads_forest_variable is) = reads_forest_variable is

  -- sides
  more_trees_under : {ts rest : List Token} {p : Patterns} → ReadsMoreTrees others text ts p rest → ReadsMoreTrees names text ts (renamed_patterns g p) rest
  more_trees_under no_more_trees = no_more_trees
  more_trees_under (one_more_tree {t} {ts} {rest = rest} {next} {behind} plus tree more) =
      subst (λ q. ReadsMoreTrees names text (t ∷ ts) q rest) (sym (joined_renamed g next behind)) (one_more_tree plus (tree_under tree) (more_trees_under more))

  side_under : {ts rest : List Token} {p : Patterns} → ReadsSide others text ts p rest → ReadsSide names text ts (renamed_patterns g p) rest
  side_under (reads_side {ts} {rest = rest} {first} {behind} tree more) =
      subst (λ q. ReadsSide names text ts q rest) (sym (joined_renamed g first behind)) (reads_side (tree_under tree) (more_trees_under more))

  -- conditions
  mutual
    cond_under : {ts rest : List Token} {c : Condition} → ReadsCond others text ts c rest → ReadsCond names text ts (renamed_condition g c) rest
    cond_under (reads_cond {ts} {rest = rest} {c} {cs} conj more) =
        subst (λ d. ReadsCond names text ts d rest) (sym (any_renamed g c cs)) (reads_cond (conj_under conj) (more_conjs_under more))

    more_conjs_under : {ts rest : List Token} {cs : Conditions} → ReadsMoreConjs others text ts cs rest → ReadsMoreConjs names text ts (renamed_conditions g cs) rest
    more_conjs_under no_more_conjs = no_more_conjs
    more_conjs_under (one_more_conj word conj more) = one_more_conj word (conj_under conj) (more_conjs_under more)

    conj_under : {ts rest : List Token} {c : Condition} → ReadsConj others text ts c rest → ReadsConj names text ts (renamed_condition g c) rest
    conj_under (reads_conj {ts} {rest = rest} {c} {cs} neg more) =
        subst (λ d. ReadsConj names text ts d rest) (sym (all_renamed g c cs)) (reads_conj (neg_under neg) (more_negs_under more))

    more_negs_under : {ts rest : List Token} {cs : Conditions} → ReadsMoreNegs others text ts cs rest → ReadsMoreNegs names text ts (renamed_conditions g cs) rest
    more_negs_under no_more_negs = no_more_negs
    more_negs_under (one_more_neg word neg more) = one_more_neg word (neg_under neg) (more_negs_under more)

    neg_under : {ts rest : List Token} {c : Condition} → ReadsNeg others text ts c rest → ReadsNeg names text ts (renamed_condition g c) rest
    neg_under (not_negated prim) = not_negated (prim_under prim)
    neg_under (reads_negated word prim) = reads_negated word (prim_under prim)

    prim_under : {ts rest : List Token} {c : Condition} → ReadsPrim others text ts c rest → ReadsPrim names text ts (renamed_condition g c) rest
    prim_under (reads_group o inside c) = reads_group o (cond_under inside) c
    prim_under (reads_compared a word b) = reads_compared (list_under a) word (list_under b)

  given_under : {ts rest : List Token} {c : Option Condition} → ReadsCondIfGiven others text ts c rest → ReadsCondIfGiven names text ts (option_map (renamed_condition g) c) rest
  given_under no_cond = no_cond
  given_under (some_cond slash cond) = some_cond slash (cond_under cond)

  -- rules
  pub rule_under : {ts rest : List Token} {r : UnmarkedRule} → ReadsRule others text ts r rest → ReadsRule names text ts (renamed_unmarked g r) rest
  rule_under (reads_rule left equals right given stop) = reads_rule (side_under left) equals (side_under right) (given_under given) stop

  -- trees of chains, which have no variables
  mutual
    plain_under : {ts rest : List Token} {tree : Tree} → ReadsPlain others text ts tree rest → ReadsPlain names text ts (renamed_tree g tree) rest
    plain_under (reads_plain is below) = reads_plain (label_under is) (forest_under below)

    forest_under : {ts rest : List Token} {kids : Forest} → graphs.ReadsSubtrees others text ts kids rest → graphs.ReadsSubtrees names text ts (renamed_forest g kids) rest
    forest_under graphs.no_parentheses = graphs.no_parentheses
    forest_under (graphs.nothing_inside o c) = graphs.nothing_inside o c
    forest_under (plains_inside o inside c) = plains_inside o (plains_under inside) c

    plains_under : {ts rest : List Token} {kids : Forest} → ReadsPlains others text ts kids rest → ReadsPlains names text ts (renamed_forest g kids) rest
    plains_under (reads_plains plain more) = reads_plains (plain_under plain) (more_plains_under more)

    more_plains_under : {ts rest : List Token} {kids : Forest} → ReadsMorePlains others text ts kids rest → ReadsMorePlains names text ts (renamed_forest g kids) rest
    more_plains_under no_more_plains = no_more_plains
    more_plains_under (one_more_plain comma plain more) = one_more_plain comma (plain_under plain) (more_plains_under more)

  -- the trees of a chain, each with its byte, which stays
  rooted_under : {ts rest : List Token} {tree : Tree} {byte : ℕ} → ReadsRooted others text ts tree byte rest → ReadsRooted names text ts (renamed_tree g tree) byte rest
  rooted_under (reads_rooted plain) = reads_rooted (plain_under plain)

  more_rooted_under : {ts rest : List Token} {trees : List Tree} {at : List ℕ} → graphs.ReadsMoreTrees others text ts trees at rest
      → graphs.ReadsMoreTrees names text ts (map (renamed_tree g) trees) at rest
  more_rooted_under graphs.no_more_trees = graphs.no_more_trees
  more_rooted_under (graphs.one_more_tree plus rooted more) = graphs.one_more_tree plus (rooted_under rooted) (more_rooted_under more)

  trees_under : {ts rest : List Token} {trees : List Tree} {at : List ℕ} → ReadsTrees others text ts trees at rest → ReadsTrees names text ts (map (renamed_tree g) trees) at rest
  trees_under (reads_trees rooted more) = reads_trees (rooted_under rooted) (more_rooted_under more)

  -- chains
  chain_under : {ts rest : List Token} {chain : WrittenChain} → ReadsChain others text ts chain rest → ReadsChain names text ts (renamed_chain g chain) rest
  chain_under (reads_chain from trees to stop) = reads_chain from (trees_under trees) to stop

  more_chains_under : {ts rest : List Token} {chains : List WrittenChain} → ReadsMoreChains others text ts chains rest → ReadsMoreChains names text ts (map (renamed_chain g) chains) rest
  more_chains_under no_more_chains = no_more_chains
  more_chains_under (one_more_chain chain more) = one_more_chain (chain_under chain) (more_chains_under more)

  chains_under : {ts rest : List Token} {chains : List WrittenChain} → ReadsChains others text ts chains rest → ReadsChains names text ts (map (renamed_chain g) chains) rest
  chains_under (reads_chains chain more) = reads_chains (chain_under chain) (more_chains_under more)

  -- graphs
  pub graph_under : {ts rest : List Token} {chains : List WrittenChain} → ReadsGraph others text ts chains rest → ReadsGraph names text ts (map (renamed_chain g) chains) rest
  graph_under (reads_graph begin chains end) = reads_graph begin (chains_under chains) end

-- ---- the graph of chains

module _ (g : ℕ → ℕ) where
  -- the numbers of nodes stay
  numbers_renamed : (chains : List WrittenChain) → numbers_in (map (renamed_chain g) chains) ≡ numbers_in chains
  numbers_renamed [] = refl
  numbers_renamed (chain ∷ chains) = ap (λ ns. chain.from ∷ chain.to ∷ ns) (numbers_renamed chains)

  -- the arcs of one chain
  arcs_renamed : (a : ℕ) (ts : List Tree) (next b : ℕ) → chain a (map (renamed_tree g) ts) next b ≡ map (renamed_arc g) (chain a ts next b)
  arcs_renamed a [] next b = refl
  arcs_renamed a (t ∷ []) next b = refl
  arcs_renamed a (t ∷ u ∷ ts) next b = ap (λ arcs. record { from = a; to = next; tree = renamed_tree g t } ∷ arcs) (arcs_renamed next (u ∷ ts) (next + 1) b)

  -- a graph with one more chain, and with all of them
  with_chain_renamed : (G : QGraph) (a : ℕ) (ts : List Tree) (b : ℕ) → with_chain (renamed_graph g G) a (map (renamed_tree g) ts) b ≡ renamed_graph g (with_chain G a ts b)
  with_chain_renamed G a ts b =
      let arcs : map (renamed_arc g) G.arcs ++ chain a (map (renamed_tree g) ts) (G.nodes + 1) b ≡ map (renamed_arc g) (G.arcs ++ chain a ts (G.nodes + 1) b) =
      ap (λ behind. map (renamed_arc g) G.arcs ++ behind) (arcs_renamed a ts (G.nodes + 1) b) ∙ sym (map-append (renamed_arc g) G.arcs (chain a ts (G.nodes + 1) b))
      in
      λ i. record { nodes = G.nodes + (length-map ts (renamed_tree g) i - 1); arcs = arcs i }

  with_chains_renamed : (number : ℕ → ℕ) (G : QGraph) (chains : List WrittenChain)
      → with_chains number (renamed_graph g G) (map (renamed_chain g) chains) ≡ renamed_graph g (with_chains number G chains)
  with_chains_renamed number G [] = refl
  with_chains_renamed number G (chain ∷ chains) =
      ap (λ H. with_chains number H (map (renamed_chain g) chains)) (with_chain_renamed G (number chain.from) chain.trees (number chain.to))
      ∙ with_chains_renamed number (with_chain G (number chain.from) chain.trees (number chain.to)) chains

  -- chains with other numbers for their labels make the graph of the chains, with other numbers for its labels
  pub chains_renamed : (chains : List WrittenChain) → graph_of (map (renamed_chain g) chains) ≡ renamed_graph g (graph_of chains)
  chains_renamed chains =
      ap (λ ns. with_chains (dense ns) (record { nodes = different ns; arcs = [] }) (map (renamed_chain g) chains)) (numbers_renamed chains)
      ∙ with_chains_renamed (dense (numbers_in chains)) (record { nodes = different (numbers_in chains); arcs = [] }) chains
