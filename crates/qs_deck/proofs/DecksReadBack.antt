-- Decks that are written are read as they were, alone and wherever they stand in a text.
use Rattle.std.proofs.Common.{◌≡◌, ◌⊎◌, ℕ, ◌<◌, ◌≤◌, Bool, true, false, refl, sym, ap, ◌∙◌, subst, inl, inr, List, [], ◌∷◌, ◌++◌, length, map, arith, codes}
use Rattle.std.specs.List.{flat_map}
use Rattle.std.proofs.lemmas.List.{length-map}
use Rattle.qs_lex.specs.Limits.{most_node_number}
use Rattle.qs_lex.specs.declared.token.Token.{Token}
use Rattle.qs_lex.specs.declared.token.Kind.TheVariants.{Word as a_word, Bare, Stop}
use Rattle.qs_lex.specs.declared.token.Word.TheVariants.{Systeme, Version, Unique}
use Rattle.qs_lex.specs.Tokens.{version_of, AreTokensOf}
use Rattle.qs_lex.specs.Spelling.{Spells}
use Rattle.qs_lex.specs.Grammar.{sort_of}
use Rattle.qs_tree.specs.declared.cell.Label.{Label}
use Rattle.qs_tree.specs.Lists.{◌∈◌}
use Rattle.qs_tree.specs.Text.{name_of, label_text}
use Rattle.qs_pattern.specs.declared.pattern.Head.TheVariants as head
use Rattle.qs_pattern.specs.Rules.{Rule, UnmarkedRule, marked, unmarked}
use Rattle.qs_reader.specs.Names.{IsLabelOf}
use Rattle.qs_ruletext.specs.WrittenRules.{WrittenRule}
use Rattle.qs_ruletext.specs.Rules.{ReadsRule, ReadsWrittenRule, ReadsRules, IsWellRead, cell_bytes}
use Rattle.qs_ruletext.specs.Written.{AreOnOneLine, IsRuleToldIn, written}
use Rattle.qs_ruletext.proofs.ReadBack.{Goes, Both, IsNone, IsOne, both, turned, nothing, space, token, alone, first_version}
use Rattle.qs_ruletext.proofs.HeadsReadBack.{Closes, head_goes}
use Rattle.qs_ruletext.proofs.RulesReadBack.{rule_goes}
use Rattle.qs_ruletext.proofs.LabelTexts.{rule_passes}
use Rattle.qs_graph.specs.Graphs.{Arc, QGraph, IsValid}
use Rattle.qs_graphtext.specs.GraphOfChains.{graph_of}
use Rattle.qs_graphtext.specs.Texts.{line, graph_text, AreArcsNamed}
use Rattle.qs_graphtext.specs.ChainsOfArcs.{AreChainsOf}
use Rattle.qs_graphtext.specs.Reading.{ReadsGraph}
use Rattle.qs_graphtext.proofs.GraphsReadBack.{IsWritable, AreGraph, lined, graph_goes}
use Rattle.qs_graphtext.proofs.SameGraph.{same_graph}
use Rattle.qs_deck.specs.WrittenDecks.{WrittenSystem, WrittenDeck}
use Rattle.qs_deck.specs.Versions.{IsVersionLine, no_line, the_line}
use Rattle.qs_deck.specs.Reading.{ReadsMark, no_mark, a_mark, ReadsSystem, reads_system, ReadsSystems, ReadsDeck}
use Rattle.qs_deck.specs.Decks.{Grammar, rule_of, meaning_of}
use Rattle.qs_deck.specs.Texts.{rule_line, mark_text, grammar_text, version_text, deck_text}
use Rattle.qs_deck.proofs.Places.{first_of}

-- what is asked of a grammar, so that it can be written in texts of this version: its name is a label of the n first, its rules
-- are as those that were read, they have its mark, and texts of the version tell the rules and the mark
pub record IsWritableGrammar (version n : ℕ) (grammar : Grammar) : Type 0 where
  pub name : grammar.name.0 < n
  pub rules : (rule : Rule) → rule ∈ grammar.rules → IsWellRead n (unmarked rule)
  pub marked : (rule : Rule) → rule ∈ grammar.rules → rule.unique ≡ grammar.unique
  pub told : (rule : Rule) → rule ∈ grammar.rules → IsRuleToldIn version (unmarked rule)
  pub mark_told : grammar.unique ≡ true → 2 ≤ version

-- the tokens before the rest are the line of this version, and then read as a deck that means these grammars, and whose chains,
-- one for each arc, make this graph
pub record ReadsBack (names : List (List ℕ)) (text : List ℕ) (ts : List Token) (version : ℕ) (grammars : List Grammar) (G : QGraph) (rest : List Token) : Type 0 where
  pub front : List Token
  pub body : List Token
  pub are : ts ≡ front ++ body
  pub in_front : IsVersionLine text version front
  pub deck : WrittenDeck
  pub reads : ReadsDeck names text body deck rest
  pub grammars_are : map meaning_of deck.systems ≡ grammars
  pub of_arcs : AreChainsOf G.arcs deck.chains
  pub graph_is : graph_of deck.chains ≡ G

-- a rule that is read knows the bytes of its cells
with_bytes : (names : List (List ℕ)) (text : List ℕ) (r : UnmarkedRule) (ts rest : List Token) → ReadsRule names text ts r rest → (raw : WrittenRule) × (raw.rule ≡ r) × ReadsWrittenRule names text ts raw rest
with_bytes names text r ts rest reads =
    let found = rule_passes reads in
    (record { rule = r; at = cell_bytes found.passed }, refl, record { rule = reads; tokens = found.passed; are = found.are; at = refl })

-- the label 2 is one that needs no quotes
pub two_is_label : Spells Bare (codes "2")
two_is_label = (omega arith, (refl, tt))

-- what stands behind the name closes it
pub mark_closes : (unique : Bool) (left : List ℕ) → Closes ((mark_text unique ++ codes ".") ++ left)
mark_closes true left = refl
mark_closes false left = refl

module _ (names : List (List ℕ)) (text : List ℕ) (names_line : AreOnOneLine names) where
  -- these tokens are read as these rules, which have this mark
  abbrev AreRules : Bool → List Rule → List Token → List Token → Type 0
  AreRules unique rules ts rest = (raws : List WrittenRule) × (map (rule_of unique) raws ≡ rules) × ReadsRules names text ts raws rest

  -- these as a system that means this grammar
  abbrev AreGrammar : Grammar → List Token → List Token → Type 0
  AreGrammar grammar ts rest = (system : WrittenSystem) × (meaning_of system ≡ grammar) × ReadsSystem names text ts system rest

  -- these as systems that mean these grammars
  abbrev AreGrammars : List Grammar → List Token → List Token → Type 0
  AreGrammars grammars ts rest = (systems : List WrittenSystem) × (map meaning_of systems ≡ grammars) × ReadsSystems names text ts systems rest

  -- and these as the heading of a system with this name and this mark
  abbrev AreHeading : Label → Bool → List Token → List Token → Type 0
  AreHeading name unique = Both (IsOne text (a_word Systeme) (codes "-SYSTEME-")) (Both IsNone (Both (λ ts rest. (t : Token) × (ts ≡ t ∷ rest) × IsLabelOf names text t name) (Both (λ ts rest. ReadsMark ts unique rest) (IsOne text Stop (codes ".")))))

  one_rule : (unique : Bool) (r : Rule) → r.unique ≡ unique → (rules : List Rule) (ts rest : List Token) → Both (λ us vs. ReadsRule names text us (unmarked r) vs) (AreRules unique rules) ts rest → AreRules unique (r ∷ rules) ts rest
  one_rule unique r same rules ts rest x =
      let raw = with_bytes names text (unmarked r) ts x.0 x.1 in
      (raw.0 ∷ x.2.0, (λ i. marked (sym same i) (raw.1 i) ∷ x.2.1 i), (x.0, raw.2, x.2.2))

  rules_go : (unique : Bool) (rules : List Rule) → ((rule : Rule) → rule ∈ rules → IsWellRead (length names) (unmarked rule)) → ((rule : Rule) → rule ∈ rules → rule.unique ≡ unique)
      → ((rule : Rule) → rule ∈ rules → IsRuleToldIn (version_of text) (unmarked rule)) → (left : List ℕ) → Goes text (AreRules unique rules) (flat_map (rule_line names) rules) left
  rules_go unique [] w same told left = turned text [] left (λ ts rest e. ([], refl, e)) (nothing text left)
  rules_go unique (r ∷ rules) w same told left =
      let others : List ℕ = flat_map (rule_line names) rules in
      turned text (rule_line names r ++ others) left (one_rule unique r (same r (inl refl)) rules)
      (both text (rule_line names r) others left
      (lined text (written names (unmarked r)) (others ++ left) (rule_goes names text names_line (unmarked r) (w r (inl refl)) (told r (inl refl)) (codes "\n" ++ (others ++ left))))
      (rules_go unique rules (λ rule i. w rule (inr i)) (λ rule i. same rule (inr i)) (λ rule i. told rule (inr i)) left))

  mark_goes : (unique : Bool) → (unique ≡ true → 2 ≤ version_of text) → (left : List ℕ) → Goes text (λ ts rest. ReadsMark ts unique rest) (mark_text unique) left
  mark_goes false told left = turned text [] left (λ ts rest e. subst (λ us. ReadsMark ts false us) e no_mark) (nothing text left)
  mark_goes true told left =
      turned text (codes " -UNIQUE-") left (λ ts rest x. subst (λ us. ReadsMark us true rest) (sym (x.1 ∙ x.2.1)) (a_mark (ap sort_of x.2.2)))
      (both text (codes " ") (codes "-UNIQUE-") left (space text (codes "-UNIQUE-" ++ left)) (token text (a_word Unique) (told refl) (codes "-UNIQUE-") left refl tt refl))

  heading_goes : (name : Label) → name.0 < length names → (unique : Bool) → (unique ≡ true → 2 ≤ version_of text) → (left : List ℕ)
      → Goes text (AreHeading name unique) (codes "-SYSTEME- " ++ (label_text (name_of names name) ++ (mark_text unique ++ codes "."))) left
  heading_goes name within unique told left =
      let label : List ℕ = label_text (name_of names name) in
      let behind_label : List ℕ = mark_text unique ++ codes "." in
      let behind_word : List ℕ = codes " " ++ (label ++ behind_label) in
      both text (codes "-SYSTEME-") behind_word left
      (token text (a_word Systeme) (first_version text) (codes "-SYSTEME-") (behind_word ++ left) refl tt refl)
      (both text (codes " ") (label ++ behind_label) left
      (space text ((label ++ behind_label) ++ left))
      (both text label behind_label left
      (head_goes text names (head.Label name) (behind_label ++ left) names_line within tt (mark_closes unique left))
      (both text (mark_text unique) (codes ".") left
      (mark_goes unique told (codes "." ++ left))
      (token text Stop tt (codes ".") left refl tt refl))))

  -- a system of a heading and rules
  one_grammar : (grammar : Grammar) (ts rest : List Token) → Both (AreHeading grammar.name grammar.unique) (AreRules grammar.unique grammar.rules) ts rest → AreGrammar grammar ts rest
  one_grammar grammar ts rest x =
      let word = x.1.1 in
      let label = x.1.2.2.1 in
      let marks : List Token = x.1.2.2.2.0 in
      let mark = x.1.2.2.2.1 in
      let stop = x.1.2.2.2.2 in
      let are : ts ≡ word.0 ∷ label.0 ∷ x.1.2.2.0 = word.1 ∙ ap (λ us. word.0 ∷ us) (x.1.2.1 ∙ label.1) in
      let marked_so : ReadsMark x.1.2.2.0 grammar.unique (stop.0 ∷ x.0) = subst (λ us. ReadsMark x.1.2.2.0 grammar.unique us) stop.1 mark in
      let system : WrittenSystem = record { at = word.0.from; name = grammar.name; unique = grammar.unique; rules = x.2.0 } in (
        system,
        ap (λ rules. record { name = grammar.name; unique = grammar.unique; rules = rules }) x.2.1,
        subst (λ us. ReadsSystem names text us system rest) (sym are) (reads_system (ap sort_of word.2) refl label.2 marked_so (ap sort_of stop.2) x.2.2),
      )

  grammar_goes : (grammar : Grammar) → IsWritableGrammar (version_of text) (length names) grammar → (left : List ℕ) → Goes text (AreGrammar grammar) (grammar_text names grammar) left
  grammar_goes grammar w left =
      let heading : List ℕ = codes "-SYSTEME- " ++ (label_text (name_of names grammar.name) ++ (mark_text grammar.unique ++ codes ".")) in
      let rules : List ℕ = flat_map (rule_line names) grammar.rules in
      turned text (line heading ++ rules) left (one_grammar grammar)
      (both text (line heading) rules left
      (lined text heading (rules ++ left) (heading_goes grammar.name w.name grammar.unique w.mark_told (codes "\n" ++ (rules ++ left))))
      (rules_go grammar.unique grammar.rules w.rules w.marked w.told left))

  one_more_grammar : (grammar : Grammar) (grammars : List Grammar) (ts rest : List Token) → Both (AreGrammar grammar) (AreGrammars grammars) ts rest → AreGrammars (grammar ∷ grammars) ts rest
  one_more_grammar grammar grammars ts rest x = (x.1.0 ∷ x.2.0, (λ i. x.1.1 i ∷ x.2.1 i), (x.0, x.1.2, x.2.2))

  pub grammars_go : (grammars : List Grammar) → ((grammar : Grammar) → grammar ∈ grammars → IsWritableGrammar (version_of text) (length names) grammar) → (left : List ℕ) → Goes text (AreGrammars grammars) (flat_map (grammar_text names) grammars) left
  grammars_go [] w left = turned text [] left (λ ts rest e. ([], refl, e)) (nothing text left)
  grammars_go (grammar ∷ grammars) w left =
      let others : List ℕ = flat_map (grammar_text names) grammars in
      turned text (grammar_text names grammar ++ others) left (one_more_grammar grammar grammars)
      (both text (grammar_text names grammar) others left
      (grammar_goes grammar (w grammar (inl refl)) (others ++ left))
      (grammars_go grammars (λ other i. w other (inr i)) left))

  -- these are the line of this version
  abbrev pub AreLine : ℕ → List Token → List Token → Type 0
  AreLine version ts rest = (front : List Token) × (ts ≡ front ++ rest) × IsVersionLine text version front

  line_goes : (version : ℕ) → (version ≡ 1) ⊎ (version ≡ 2) → version ≡ version_of text → (left : List ℕ) → Goes text (AreLine version) (version_text version) left
  line_goes version (inl first) is left =
      subst (λ v. Goes text (AreLine v) (version_text v) left) (sym first) (turned text [] left (λ ts rest e. ([], e, no_line)) (nothing text left))
  line_goes version (inr second) is left =
      let known : 2 ≤ version_of text = omega (arith, second, is) in
      subst (λ v. Goes text (AreLine v) (version_text v) left) (sym second)
      (turned text (line (codes "-VERSION- 2.")) left
      (λ ts rest x.
      let word = x.1 in
      let number = x.2.2.1 in
      let dot = x.2.2.2 in (
        word.0 ∷ number.0 ∷ dot.0 ∷ [],
        word.1 ∙ ap (λ us. word.0 ∷ us) (x.2.1 ∙ number.1 ∙ ap (λ us. number.0 ∷ us) dot.1),
        the_line (ap sort_of word.2) (record { bare = number.2; two = number.3 }) (ap sort_of dot.2),
      ))
      (both text (codes "-VERSION-") (codes " 2.\n") left
      (token text (a_word Version) known (codes "-VERSION-") (codes " 2.\n" ++ left) refl tt refl)
      (both text (codes " ") (codes "2.\n") left
      (space text (codes "2.\n" ++ left))
      (both text (codes "2") (codes ".\n") left
      (token text Bare tt (codes "2") (codes ".\n" ++ left) two_is_label refl refl)
      (lined text (codes ".") left (token text Stop tt (codes ".") (codes "\n" ++ left) refl tt refl))))))

  -- the line, the systems and the chains behind them are a deck
  one_deck : (version : ℕ) (grammars : List Grammar) → 1 ≤ length grammars → (G : QGraph) → IsValid G → (ts rest : List Token) → Both (AreLine version) (Both (AreGrammars grammars) (AreGraph names text G.arcs)) ts rest
      → ReadsBack names text ts version grammars G rest
  one_deck version grammars some G valid ts rest y =
      let x = y.2 in
      let first = first_of x.2.2 in
      record {
        front = y.1.0;
        body = y.0;
        are = y.1.1;
        in_front = y.1.2;
        deck = record { systems = x.1.0; graph_at = first.0.from; chains = x.2.0 };
        reads = record {
          some = omega (arith, some, ap length x.1.1, length-map x.1.0 meaning_of);
          first = first.0;
          behind = first.1;
          systems = subst (λ us. ReadsSystems names text y.0 x.1.0 us) first.2 x.1.2;
          graph = subst (λ us. ReadsGraph names text us x.2.0 rest) first.2 x.2.2;
          graph_at = refl;
        };
        grammars_are = x.1.1;
        of_arcs = x.2.1;
        graph_is = same_graph G valid x.2.0 x.2.1;
      }

-- each arc of a valid graph with few nodes can be written
pub writable : (n : ℕ) (G : QGraph) → IsValid G → G.nodes ≤ most_node_number → AreArcsNamed n G.arcs → (arc : Arc) → arc ∈ G.arcs → IsWritable n arc
writable n G valid few named arc i =
    let ends = valid.in_range arc i in
    record {
      from = (ends.0.0, omega (arith, ends.0.1, few));
      to = (ends.1.0, omega (arith, ends.1.1, few));
      named = named arc i;
    }

-- whatever follows: a deck ends with the end of a line
pub deck_goes : (names : List (List ℕ)) (text : List ℕ) → AreOnOneLine names → (version : ℕ) → (version ≡ 1) ⊎ (version ≡ 2) → version ≡ version_of text → (grammars : List Grammar) → 1 ≤ length grammars
    → ((grammar : Grammar) → grammar ∈ grammars → IsWritableGrammar (version_of text) (length names) grammar)
    → (G : QGraph) → IsValid G → G.nodes ≤ most_node_number → AreArcsNamed (length names) G.arcs → (left : List ℕ)
    → Goes text (λ ts rest. ReadsBack names text ts version grammars G rest) (deck_text version names grammars G) left
deck_goes names text names_line version which is grammars some w G valid few named left =
    let systems : List ℕ = flat_map (grammar_text names) grammars in
    let graph : List ℕ = graph_text names G in
    turned text (version_text version ++ (systems ++ graph)) left (one_deck names text names_line version grammars some G valid)
    (both text (version_text version) (systems ++ graph) left
    (line_goes names text names_line version which is ((systems ++ graph) ++ left))
    (both text systems graph left
    (grammars_go names text names_line grammars w (graph ++ left))
    (graph_goes names text names_line G valid.some_arc (writable (length names) G valid few named) left)))

-- the line and a graph alone
pub line_and_graph : (names : List (List ℕ)) (names_line : AreOnOneLine names) (version : ℕ) → (version ≡ 1) ⊎ (version ≡ 2) → (G : QGraph) → IsValid G → G.nodes ≤ most_node_number → AreArcsNamed (length names) G.arcs
    → version ≡ version_of (deck_text version names [] G)
    → (ts : List Token) × AreTokensOf (deck_text version names [] G) ts
    × Both (AreLine names (deck_text version names [] G) names_line version) (AreGraph names (deck_text version names [] G) G.arcs) ts []
line_and_graph names names_line version which G valid few named is =
    let text : List ℕ = deck_text version names [] G in
    alone text
    (both text (version_text version) (graph_text names G) []
    (line_goes names text names_line version which is (graph_text names G ++ []))
    (graph_goes names text names_line G valid.some_arc (writable (length names) G valid few named) []))

-- a deck alone
pub deck_read_back : (names : List (List ℕ)) → AreOnOneLine names → (version : ℕ) → (version ≡ 1) ⊎ (version ≡ 2) → (grammars : List Grammar) → 1 ≤ length grammars → (G : QGraph)
    → version ≡ version_of (deck_text version names grammars G)
    → ((grammar : Grammar) → grammar ∈ grammars → IsWritableGrammar (version_of (deck_text version names grammars G)) (length names) grammar)
    → IsValid G → G.nodes ≤ most_node_number → AreArcsNamed (length names) G.arcs
    → (ts : List Token) × AreTokensOf (deck_text version names grammars G) ts × ReadsBack names (deck_text version names grammars G) ts version grammars G []
deck_read_back names names_line version which grammars some G is w valid few named =
    alone (deck_text version names grammars G) (deck_goes names (deck_text version names grammars G) names_line version which is grammars some w G valid few named [])

-- the version of what is written is that of the deck
pub version_written : (version : ℕ) → (version ≡ 1) ⊎ (version ≡ 2) → (names : List (List ℕ)) (grammars : List Grammar) → 1 ≤ length grammars → (G : QGraph) → version ≡ version_of (deck_text version names grammars G)
version_written version which names [] some G = absurd (omega arith)
version_written version (inl first) names (grammar ∷ grammars) some G = subst (λ v. v ≡ version_of (deck_text v names (grammar ∷ grammars) G)) (sym first) refl
version_written version (inr second) names (grammar ∷ grammars) some G = subst (λ v. v ≡ version_of (deck_text v names (grammar ∷ grammars) G)) (sym second) refl
