-- A cascade of two parts may be run in two pieces: what is printed between them, behind the second part, is read under names of
-- its own, and labels are numbers alone.
use Rattle.std.proofs.Common.{◌≡◌, ◌⊎◌, ℕ, suc, ◌+◌, ◌≤◌, ◌<◌, List, [], ◌∷◌, ◌++◌, length, map, Contains, refl, sym, ap, ◌∙◌, subst, ⊎_elim, arith}
use Rattle.qs_lex.specs.declared.token.Token.{Token}
use Rattle.qs_lex.specs.declared.token.Word.TheVariants.{Graphe}
use Rattle.qs_lex.specs.Grammar.{the_word, stop}
use Rattle.qs_lex.specs.Tokens.{version_of, AreTokensOf}
use Rattle.qs_lex.proofs.Readings.{one_list}
use Rattle.qs_tree.specs.declared.cell.Label.{Label}
use Rattle.qs_tree.specs.Lists.{◌∈◌}
use Rattle.qs_tree.specs.Names.{AreDistinct}
use Rattle.qs_tree.specs.Text.{name_of}
use Rattle.qs_tree.proofs.Members.{in_append_left, in_append_right}
use Rattle.qs_pattern.specs.Rules.{Rule}
use Rattle.qs_reader.specs.Names.{NamesGrow}
use Rattle.qs_ruletext.specs.Written.{AreOnOneLine}
use Rattle.qs_ruletext.proofs.LabelTexts.{texts_named, new_names_are_texts}
use Rattle.qs_graph.specs.Graphs.{QGraph, IsValid}
use Rattle.qs_graphtext.specs.GraphOfChains.{trees_in, graph_of}
use Rattle.qs_graphtext.specs.Texts.{AreArcsNamed}
use Rattle.qs_graphtext.proofs.LabelTexts.{labels_in_trees}
use Rattle.qs_clean.specs.Cascades.{Cascade, Left, Ending}
use Rattle.qs_clean.specs.Renaming.{IsRenaming, renamed_rule, renamed_graph, renamed_left}
use Rattle.qs_clean.proofs.RenamedCascades as renamed
use Rattle.qs_deck.specs.WrittenDecks.{WrittenDeck}
use Rattle.qs_deck.specs.Reading.{ReadsDeck}
use Rattle.qs_deck.specs.Decks.{Grammar, meaning_of, IsDeckOf}
use Rattle.qs_deck.specs.Texts.{deck_text}
use Rattle.qs_deck.proofs.OneDeck.{NextIs, not_both_words, graph_next, deck_next, one_deck}
use Rattle.qs_deck.proofs.OneFault.{one_line}
use Rattle.qs_deck.proofs.DecksReadBack.{IsWritableGrammar, ReadsBack, line_and_graph, deck_read_back}
use Rattle.qs_deck.proofs.WritableDecks.{names_of_deck, known_version, writable_deck}
use Rattle.qs_deck.proofs.DeckLabels.{labels_in_grammars, deck_passes}
use Rattle.qs_deck.proofs.DecksAccepted.{deck_accepted, deck_texts}
use Rattle.qs_telling.specs.Outcomes.{blocks, IsOutcome}
use Rattle.qs_telling.specs.Cascading.{AreAccepted}
use Rattle.qs_telling.proofs.Outcomes.{all_accepted}
use Rattle.qs_pieces.specs.Pieces.{TwoPieces}
use Rattle.qs_pieces.proofs.Neighbours.{Chain, deck_chain, line_chain}
use Rattle.qs_pieces.proofs.PassingDecks.{IsPassedGrammar, deck_passed}
use Rattle.qs_pieces.proofs.OneLineNames.{total, one_line_names, as_many, are_on_one_line, keeps_lines, still_distinct, carries_back}
use Rattle.qs_pieces.proofs.Cutting.{back_writable}
use Rattle.qs_pieces.proofs.RenamedGrammars.{Carries, renamed_grammar}
use Rattle.qs_pieces.proofs.ReadUnderOthers.{chains_renamed}
use Rattle.qs_pieces.proofs.WrittenUnderOthers.{blocks_under}
use Rattle.qs_pieces.proofs.DecksUnderOthers.{renamed_deck, meanings_renamed, deck_under}
use Rattle.qs_pieces.proofs.Renumbering.{renaming}
use Rattle.qs_pieces.proofs.TwoPieces.{outcome_together, lefts_named, left_valid, left_named}

-- what is printed without a grammar is no deck
no_deck : (version : ℕ) → (version ≡ 1) ⊎ (version ≡ 2) → (names others : List (List ℕ)) (H : QGraph) (more : List Grammar) (K : QGraph) → AreOnOneLine names → IsValid H → H.nodes ≤ 999999999
    → AreArcsNamed (length names) H.arcs → IsDeckOf (deck_text version names [] H) version others more K → ⊥
no_deck version which names others H more K line valid small named printed =
    let text : List ℕ = deck_text version names [] H in
    let w = printed.is_written in
    let back = line_and_graph names line version which H valid small named w.version_is in
    let same : back.0 ≡ w.tokens = one_list text back.0 w.tokens back.1 w.has_tokens.are_tokens in
    let bodies : back.2.0 ≡ w.body = one_line text version back.2.1.0 back.2.0 w.front w.body back.2.1.2 w.in_front (sym back.2.1.1 ∙ same ∙ w.are) in
    not_both_words w.body (deck_next others text w.reads) (subst (λ us. NextIs (the_word Graphe) us) bodies (graph_next names text back.2.2.2))

-- rules with other numbers for their labels, grammar by grammar
rules_of_renamed : (g : ℕ → ℕ) (grammars : List Grammar)
    → map (map (renamed_rule g)) (map (λ (grammar : Grammar). grammar.rules) grammars) ≡ map (λ (grammar : Grammar). grammar.rules) (map (renamed_grammar g) grammars)
rules_of_renamed g [] = refl
rules_of_renamed g (grammar ∷ grammars) = ap (λ (rs : List (List Rule)). map (renamed_rule g) grammar.rules ∷ rs) (rules_of_renamed g grammars)

-- grammars and a graph that are printed under these names, none of which has the end of a line, and are read again
module _ (limit version : ℕ) (which : (version ≡ 1) ⊎ (version ≡ 2)) (names others : List (List ℕ)) (Q more : List Grammar) (H K : QGraph)
    (line : AreOnOneLine names) (distinct : AreDistinct names) (writable : (grammar : Grammar) → grammar ∈ Q → IsWritableGrammar (version_of (deck_text version names Q H)) (length names) grammar)
    (valid : IsValid H) (small : H.nodes ≤ 999999999) (named : AreArcsNamed (length names) H.arcs)
    (printed : IsDeckOf (deck_text version names Q H) version others more K) where
  abbrev text : List ℕ
  text = deck_text version names Q H

  some : (R : List Grammar) → IsDeckOf (deck_text version names R H) version others more K → 1 ≤ length R
  some [] of = absurd (no_deck version which names others H more K line valid small named of)
  some (grammar ∷ R) of = omega arith

  -- it is read as it was under the names
  back : (ts : List Token) × AreTokensOf text ts × ReadsBack names text ts version Q H []
  back = deck_read_back names line version which Q (some Q printed) H printed.is_written.version_is writable valid small named

  tokens_are : printed.is_written.tokens ≡ back.0
  tokens_are = one_list text printed.is_written.tokens back.0 printed.is_written.has_tokens.are_tokens back.1

  bodies_are : printed.is_written.body ≡ back.2.body
  bodies_are = let w = printed.is_written in one_line text version w.front w.body back.2.front back.2.body w.in_front back.2.in_front (sym w.are ∙ tokens_are ∙ back.2.are)

  -- so each of its own names is one of the names
  among : (name : List ℕ) → Contains others name → Contains names name
  among name there =
      let deck : WrittenDeck = back.2.deck in
      let labels : List Label = labels_in_grammars (map meaning_of deck.systems) ++ labels_in_trees (trees_in deck.chains) in
      let grown : NamesGrow text back.2.body [] others = subst (λ us. NamesGrow text us [] others) bodies_are printed.is_written.names_are in
      ⊎_elim (λ none. absurd (let low : none.0 < 0 = none.1 in omega (arith, low))) (texts_named (deck_passes back.2.reads) name)
      (new_names_are_texts text back.2.body (map (name_of names) labels) [] others (deck_texts labels refl back.2.reads) grown name there)

  module _ (g : ℕ → ℕ) (carries : Carries g others names) where
    -- and what was read is what was printed, with other numbers for the labels
    same_deck : back.2.deck ≡ renamed_deck g printed.written
    same_deck =
        one_deck names text distinct back.2.reads
        (deck_under g others names carries text (subst (λ us. ReadsDeck others text us printed.written []) bodies_are printed.is_written.reads))

    grammars_are : Q ≡ map (renamed_grammar g) more
    grammars_are =
        sym back.2.grammars_are ∙ ap (λ (d : WrittenDeck). map meaning_of d.systems) same_deck ∙ meanings_renamed g printed.written.systems
        ∙ ap (map (renamed_grammar g)) (sym printed.grammars_are)

    graph_is : H ≡ renamed_graph g K
    graph_is =
        sym back.2.graph_is ∙ ap (λ (d : WrittenDeck). graph_of d.chains) same_deck ∙ chains_renamed g printed.written.chains ∙ ap (renamed_graph g) (sym printed.graph_is)

    -- the cascade of what was read does what the cascade of what was printed does, and writes the same under all names that hold
    -- the texts
    outcome : (f : ℕ → ℕ) → IsRenaming f g → (texts : List (List ℕ)) → Carries g others texts → (second : List ℕ) (ending : Ending)
        → IsOutcome limit others K more second ending → IsOutcome limit texts H Q second ending
    outcome f is texts carries_too second ending o =
        let can = writable_deck printed in
        let accepted : AreAccepted more = deck_accepted printed in
        let lefts : List Left = map (renamed_left g) o.lefts in
        let rules = rules_of_renamed g more ∙ ap (map (λ (grammar : Grammar). grammar.rules)) (sym grammars_are) in
        let cascade = renamed.cascade_renamed g f (record { back = is.forth; forth = is.back }) limit (all_accepted more accepted) o.cascade in
        let each = lefts_named (length others) limit K more o.lefts ending accepted (λ grammar i rule j. ((can.1 grammar i).rules rule j).right.named) can.4 o.cascade in
        record {
          lefts = lefts;
          cascade =
              subst (λ (G : QGraph). Cascade limit G (map (λ (grammar : Grammar). grammar.rules) Q) lefts ending) (sym graph_is)
              (subst (λ (Rs : List (List Rule)). Cascade limit (renamed_graph g K) Rs lefts ending) rules cascade);
          text_is =
              o.text_is ∙ sym (blocks_under g others texts carries_too limit more o.lefts (λ grammar i. (can.1 grammar i).name) each)
              ∙ ap (λ (gs : List Grammar). blocks limit texts gs lefts) (sym grammars_are);
        }

-- the cascade of both parts is that of the first, and behind it that of what was printed
pub in_two_pieces : (p : TwoPieces) → IsOutcome p.limit p.names p.graph (p.front ++ p.back) (p.first ++ p.second) p.ending
in_two_pieces p =
    let can = p.can_be_cut in
    let n : ℕ = length p.names in
    let accepted : AreAccepted p.front = λ grammar i. can.accepted grammar (in_append_left p.front p.back grammar i) in
    let rights = λ (grammar : Grammar) (i : grammar ∈ p.front) (rule : Rule) (j : rule ∈ grammar.rules). ((can.named grammar (in_append_left p.front p.back grammar i)).1 rule j).right in
    let valid : IsValid p.left = left_valid p.limit p.names p.graph p.left p.front p.first accepted p.leaves can.valid in
    let named : AreArcsNamed n p.left.arcs = left_named p.limit p.names p.graph p.left p.front p.first accepted p.leaves n rights can.arcs_named in
    let w = p.accepted.is_written in
    let which = known_version p.accepted in
    let big : ℕ = suc (total p.names + total p.others) in
    let lined : List (List ℕ) = one_line_names big p.names in
    let passed =
    deck_passed p.version which p.names lined (keeps_lines big p.names) p.back (λ grammar i. can.accepted grammar (in_append_right p.front p.back grammar i)) p.left valid w.tokens w.has_tokens.are_tokens
    (subst (Chain stop) (sym w.are) ((line_chain p.others (deck_text p.version p.names p.back p.left) w.in_front (deck_chain p.others (deck_text p.version p.names p.back p.left) w.reads)).chain stop refl))
    in
    let many : n ≡ length lined = sym (as_many big p.names) in
    let line : AreOnOneLine lined = are_on_one_line big p.names in
    let distinct : AreDistinct lined = still_distinct big p.names can.names_differ (omega arith) in
    let told : (grammar : Grammar) → grammar ∈ p.back → IsPassedGrammar (version_of (deck_text p.version lined p.back p.left)) grammar =
    λ grammar i. subst (λ (text : List ℕ). IsPassedGrammar (version_of text) grammar) passed.alike (passed.passed grammar i)
    in
    let writable : (grammar : Grammar) → grammar ∈ p.back → IsWritableGrammar (version_of (deck_text p.version lined p.back p.left)) (length lined) grammar =
    λ grammar i. subst (λ (m : ℕ). IsWritableGrammar (version_of (deck_text p.version lined p.back p.left)) m grammar) many (back_writable (version_of (deck_text p.version lined p.back p.left)) can told grammar i)
    in
    let arcs_named : AreArcsNamed (length lined) p.left.arcs = subst (λ (m : ℕ). AreArcsNamed m p.left.arcs) many named in
    let printed : IsDeckOf (deck_text p.version lined p.back p.left) p.version p.others p.more p.read = subst (λ (text : List ℕ). IsDeckOf text p.version p.others p.more p.read) passed.alike p.accepted in
    let contained = among p.limit p.version which lined p.others p.back p.more p.left p.read line distinct writable valid passed.few arcs_named printed in
    let (f, g, is, carries) = renaming p.others lined (names_of_deck p.accepted).1 contained in
    let carries_too : Carries g p.others p.names = carries_back big g p.others p.names (omega arith) carries in
    outcome_together p.limit p.names p.graph p.left p.front p.back p.first p.second p.ending p.leaves
    (outcome p.limit p.version which lined p.others p.back p.more p.left p.read line distinct writable valid passed.few arcs_named printed g carries f is p.names carries_too p.second p.ending p.goes_on)
