-- Of a text that is accepted, what makes that its names, its grammars and its graph can be written and read again.
use Rattle.std.proofs.Common.{◌≡◌, ◌⊎◌, ℕ, ◌+◌, ◌≤◌, refl, List, [], ◌∷◌, ◌++◌, length, sym, ap, subst, arith, length-append}
use Rattle.std.specs.List.{All}
use Rattle.std.proofs.lemmas.List.Elements.{All-tail}
use Rattle.std.proofs.lemmas.List.{length-map}
use Rattle.std.proofs.lemmas.Option.{slice_get-get_or}
use Rattle.std.proofs.lemmas.Map.Made.{distinct_count-le}
use Rattle.std.specs.Prelude.{nat_eq}
use Rattle.qs_lex.specs.Limits.{most_node_number}
use Rattle.qs_lex.specs.declared.token.Token.{Token}
use Rattle.qs_lex.specs.Tokens.{version_of, AreTokensOf, IsTokenOf}
use Rattle.qs_tree.specs.Lists.{◌∈◌}
use Rattle.qs_tree.specs.Names.{AreDistinct}
use Rattle.qs_tree.proofs.Members.{from_map}
use Rattle.qs_pattern.specs.Rules.{unmarked}
use Rattle.qs_ruletext.specs.WrittenRules.{WrittenRule}
use Rattle.qs_ruletext.specs.Rules.{IsWellRead}
use Rattle.qs_ruletext.specs.Written.{AreOnOneLine, IsRuleToldIn}
use Rattle.qs_reader.proofs.Naming.{grow_distinct}
use Rattle.qs_ruletext.proofs.OneLine.{names_line}
use Rattle.qs_graph.specs.Graphs.{QGraph, IsValid}
use Rattle.qs_graph.specs.Chains.{with_chain}
use Rattle.qs_graphtext.specs.WrittenChains.{WrittenChain}
use Rattle.qs_graphtext.specs.GraphOfChains.{trees_in, numbers_in, different, dense, with_chains}
use Rattle.qs_graphtext.specs.Texts.{AreArcsNamed}
use Rattle.qs_graphtext.proofs.GraphsOfChains.{numbers_few}
use Rattle.qs_deck.specs.WrittenDecks.{WrittenSystem, WrittenDeck}
use Rattle.qs_deck.specs.Decks.{Grammar, rule_of, meaning_of, IsWritten, IsDeckOf}
use Rattle.qs_deck.proofs.Versions.{each_version}
use Rattle.qs_deck.proofs.WhatIsRead.{systems_named}
use Rattle.qs_deck.proofs.Told.{systems_told}
use Rattle.qs_deck.proofs.Meanings.{all_member, chains_whole, arcs_named}
use Rattle.qs_deck.proofs.DecksReadBack.{IsWritableGrammar}

none_twice : AreDistinct []
none_twice i j text e f = absurd cc

none_ends : AreOnOneLine []
none_ends k name e = absurd cc

pub all_behind : (P : Token → Type 0) (front body : List Token) → All P (front ++ body) → All P body
all_behind P [] body all = all
all_behind P (t ∷ front) body all = all_behind P front body (All-tail P t (front ++ body) all)

-- each token of a text is one
pub tokens_are : (text : List ℕ) (ts : List Token) → AreTokensOf text ts → All (IsTokenOf text) ts
tokens_are text ts are k default within = record { tokens = ts; are = are; index = k; there = slice_get-get_or ts k default within }

-- and so is each that stands behind the line of the version
pub body_are : {text : List ℕ} {version : ℕ} {names : List (List ℕ)} {d : WrittenDeck} (w : IsWritten text version names d) → All (IsTokenOf text) w.body
body_are {text} w = all_behind (IsTokenOf text) w.front w.body (subst (All (IsTokenOf text)) w.are (tokens_are text w.tokens w.has_tokens.are_tokens))

-- no name holds the end of a line, and no two are equal
pub names_of_deck : {text : List ℕ} {version : ℕ} {names : List (List ℕ)} {grammars : List Grammar} {G : QGraph} → IsDeckOf text version names grammars G → AreOnOneLine names × AreDistinct names
names_of_deck {text} {names = names} is =
    let w = is.is_written in (
      names_line text w.body [] names (body_are w) none_ends w.names_are,
      grow_distinct text w.body [] names none_twice w.names_are,
    )

-- chains have fewer inner nodes than trees
nodes_laid : (number : ℕ → ℕ) (G : QGraph) (chains : List WrittenChain) → (with_chains number G chains).nodes ≤ G.nodes + length (trees_in chains)
nodes_laid number G [] = omega arith
nodes_laid number G (c ∷ chains) =
    omega (arith, nodes_laid number (with_chain G (number c.from) c.trees (number c.to)) chains, length-append c.trees (trees_in chains))

module _ {text : List ℕ} {version : ℕ} {names : List (List ℕ)} {grammars : List Grammar} {G : QGraph} (is : IsDeckOf text version names grammars G) where
  abbrev deck : WrittenDeck
  deck = is.written

  some_grammar : 1 ≤ length grammars
  some_grammar = omega (arith, is.is_written.reads.some, ap length is.grammars_are, length-map deck.systems meaning_of)

  system_writable : (system : WrittenSystem) → system ∈ deck.systems → IsWritableGrammar (version_of text) (length names) (meaning_of system)
  system_writable system i =
      let w = is.is_written in
      let told = systems_told names text w.body (w.reads.first ∷ w.reads.behind) deck.systems (body_are w) w.reads.systems system i in
      let known = systems_named names text w.body (w.reads.first ∷ w.reads.behind) deck.systems w.reads.systems system i in
      record {
        name = known.0;
        rules =
            from_map (rule_of system.unique) system.rules (λ rule. IsWellRead (length names) (unmarked rule))
            (λ raw j. all_member (λ (r : WrittenRule). IsWellRead (length names) r.rule) system.rules raw known.1 j);
        marked = from_map (rule_of system.unique) system.rules (λ rule. rule.unique ≡ system.unique) (λ raw j. refl);
        told = from_map (rule_of system.unique) system.rules (λ rule. IsRuleToldIn (version_of text) (unmarked rule)) (told.0);
        mark_told = told.1;
      }

  grammar_writable : (grammar : Grammar) → grammar ∈ grammars → IsWritableGrammar (version_of text) (length names) grammar
  grammar_writable grammar i =
      from_map meaning_of deck.systems (IsWritableGrammar (version_of text) (length names)) system_writable grammar (subst (λ gs. grammar ∈ gs) is.grammars_are i)

  -- at most two nodes for each chain, and fewer inner ones than trees
  few_nodes : G.nodes ≤ most_node_number
  few_nodes =
      let chains : List WrittenChain = deck.chains in
      let numbers = numbers_few chains (chains_whole text version names deck is.is_written) in
      let laid = nodes_laid (dense (numbers_in chains)) (record { nodes = different (numbers_in chains); arcs = [] }) chains in
      omega (arith, is.few, numbers, laid, distinct_count-le nat_eq (numbers_in chains), ap (λ (H : QGraph). H.nodes) is.graph_is)

  -- the version is one of the two
  pub known_version : (version ≡ 1) ⊎ (version ≡ 2)
  known_version = subst (λ v. (v ≡ 1) ⊎ (v ≡ 2)) (sym is.is_written.version_is) (each_version text)

  pub writable_deck : (1 ≤ length grammars) × ((grammar : Grammar) → grammar ∈ grammars → IsWritableGrammar (version_of text) (length names) grammar) × IsValid G × (G.nodes ≤ most_node_number) × AreArcsNamed (length names) G.arcs
  writable_deck = (
    some_grammar,
    grammar_writable,
    is.valid,
    few_nodes,
    subst (λ (H : QGraph). AreArcsNamed (length names) H.arcs) (sym is.graph_is) (arcs_named text version names deck is.is_written),
  )
